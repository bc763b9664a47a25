-- The places of texts in a list, found by text.
use Rattle.std.specs.Prelude.{◌≡◌, ℕ, List}
use Rattle.std.specs.Borrow.{Bor}
use Rattle.std.specs.BTreeMap.{BTreeMap, get_by}
use Rattle.std.specs.Cmp.Lexicographic.{slice_cmp}
use Rattle.std.specs.List.{position_from}
use Rattle.std.specs.Ordering.{nat_cmp}
use Rattle.std.specs.Str.{bytes_eq}

-- a map has the first place of each text of a list, and of no other
abbrev pub FindsPlaces : BTreeMap (Bor (List ℕ)) ℕ → List (List ℕ) → Type 0
FindsPlaces places texts = (name : List ℕ) → get_by (λ key. slice_cmp nat_cmp name key.now) places ≡ position_from (λ other. bytes_eq other name) 0 texts
