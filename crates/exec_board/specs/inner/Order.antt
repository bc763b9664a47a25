-- The order in which a seat lists its slots.
use Rattle.std.specs.Prelude.{ℕ, zero, suc, List, [], ◌∷◌, if◌then◌else◌, ◌==◌}

module _ {S : Type 0} where
  -- the place of a slot, or the length where it isn't there
  abbrev pub place_of : ℕ → List (ℕ × S) → ℕ
  place_of slot [] = 0
  place_of slot (x ∷ xs) = if x.0 == slot then 0 else suc (place_of slot xs)

  -- what stands in front of the others comes behind a new first element
  abbrev pub in_front : ℕ × S → List (ℕ × S) → List (ℕ × S)
  in_front x [] = x ∷ []
  in_front x (y ∷ ys) = y ∷ x ∷ ys

  -- the element at a place comes to the front, and the others keep their order
  abbrev pub brought : ℕ → List (ℕ × S) → List (ℕ × S)
  brought place [] = []
  brought zero (x ∷ xs) = x ∷ xs
  brought (suc place) (x ∷ xs) = in_front x (brought place xs)
