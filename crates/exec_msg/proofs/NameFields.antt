-- The fields of names.
use Rattle.std.proofs.Common.{◌≡◌, ◌≤◌, ℕ, List, Option, None, Some, IfSome, length, subst, sym}
use Rattle.exec_msg.specs.Line.{greatest_length, name_at}
use Rattle.exec_msg.proofs.Lengths.{name_within}

-- the name at a number is no longer than the longest
pub field_within : (names : List (List ℕ)) (number : ℕ) (found : Option (List ℕ)) → IfSome found (λ name. name ≡ name_at names number) → IfSome found (λ name. length name ≤ greatest_length names)
field_within names number None is = tt
field_within names number (Some name) is = subst (λ (text : List ℕ). length text ≤ greatest_length names) (sym is) (name_within names number)
