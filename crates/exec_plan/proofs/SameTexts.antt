-- Texts that are the same.
use Rattle.std.proofs.Common.{◌≡◌, ℕ, Bool, List, sym}
use Rattle.std.specs.Str.{bytes_eq}
use Rattle.std.proofs.lemmas.Bool.Decides.{same_from_decides}
use Rattle.std.proofs.lemmas.Slice.Eq.{bytes_eq-Decides}

-- two texts are the same in either order
pub bytes_sym : (a b : List ℕ) → bytes_eq a b ≡ bytes_eq b a
bytes_sym a b = same_from_decides (bytes_eq a b) (bytes_eq b a) (bytes_eq-Decides a b) ((λ is. sym ((bytes_eq-Decides b a).0 is)), (λ is. (bytes_eq-Decides b a).1 (sym is)))

-- whether a text is this one
abbrev pub is_text : List ℕ → List ℕ → Bool
is_text text other = bytes_eq other text
