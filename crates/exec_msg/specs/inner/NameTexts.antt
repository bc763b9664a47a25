-- Names as lines have them.
use Rattle.std.specs.Prelude.{◌≡◌, ℕ, List, Option, IfSome, slice_get}
use Rattle.exec_msg.specs.Line.{name_at}

-- each field that is kept has the name at its place
abbrev pub AreFieldsOf : List (List ℕ) → List (Option (List ℕ)) → Type 0
AreFieldsOf names fields = (place : ℕ) → IfSome (slice_get fields place) (λ field. IfSome field (λ name. name ≡ name_at names place))
