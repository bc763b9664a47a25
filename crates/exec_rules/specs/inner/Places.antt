-- Places in lists.
use Rattle.std.specs.Prelude.{ℕ, suc, List, [], ◌∷◌, length, Bool, if◌then◌else◌}
use Rattle.std.specs.Option.{unwrap_or}
use Rattle.exec_msg.specs.Places.{change_at, first_place}

-- the place of the first element that passes a test, or the number of elements where none passes
abbrev pub place_in : {A : Type 0} → (A → Bool) → List A → ℕ
place_in test xs = unwrap_or (first_place test xs) (length xs)

-- the places of the elements that pass a test, the first of which has this place
abbrev pub places_from : {A : Type 0} → ℕ → (A → Bool) → List A → List ℕ
places_from place test [] = []
places_from place test (x ∷ xs) = if test x then place ∷ places_from (suc place) test xs else places_from (suc place) test xs

-- the places of the elements that pass a test, in their order
abbrev pub places_where : {A : Type 0} → (A → Bool) → List A → List ℕ
places_where test xs = places_from 0 test xs

-- a list in which the elements at these places are changed, one after another
abbrev pub change_each : {A : Type 0} → List ℕ → (A → A) → List A → List A
change_each [] change xs = xs
change_each (place ∷ places) change xs = change_each places change (change_at place change xs)
