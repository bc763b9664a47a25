-- Places in lists, from 0, and tables of them.
use Rattle.std.specs.Prelude.{ℕ, zero, suc, List, [], ◌∷◌, Bool, if◌then◌else◌, Option, None, Some, slice_get}
use Rattle.std.specs.Option.{option_flatten, option_map, unwrap_or}

-- the place of the first element that passes a test
abbrev pub first_place : {A : Type 0} → (A → Bool) → List A → Option ℕ
first_place test [] = None
first_place test (x ∷ xs) = if test x then Some zero else option_map suc (first_place test xs)

-- a list in which the element at a place is changed, if there is one
abbrev pub change_at : {A : Type 0} → ℕ → (A → A) → List A → List A
change_at place change [] = []
change_at zero change (x ∷ xs) = change x ∷ xs
change_at (suc place) change (x ∷ xs) = x ∷ change_at place change xs

-- the place that a table has under a number, if there is one
abbrev pub place_under : ℕ → List (Option ℕ) → Option ℕ
place_under number table = option_flatten (slice_get table number)

-- what stands in a slot of a table once a place is noted there: the first that was
abbrev pub first_noted : ℕ → Option ℕ → Option ℕ
first_noted place found = Some (unwrap_or found place)
