-- What is left of a value out of which a field was taken.
use Rattle.std.specs.Prelude.{◌≡◌, ℕ, List, None}
use Rattle.std.specs.Map.{update}
use Rattle.std.specs.Str.{bytes_eq}
use Rattle.serde_json.specs.Data.{Data}
use Rattle.serde_json.specs.Find.{get}

-- the name finds nothing any more, and each other name what it found before
abbrev pub LosesField : List ℕ → Data → Data → Type 0
LosesField name before after = (other : List ℕ) → get other after ≡ update bytes_eq (λ field. get field before) name None other
