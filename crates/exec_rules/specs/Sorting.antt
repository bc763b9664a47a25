-- Lists in the order of ranks.
use Rattle.std.specs.Prelude.{ℕ, List, [], ◌∷◌, nat_le, if◌then◌else◌}

-- a list with one more element, before the first of no lower rank
abbrev pub inserted_by : {A : Type 0} → (A → ℕ) → A → List A → List A
inserted_by rank x [] = x ∷ []
inserted_by rank x (y ∷ ys) = if nat_le (rank x) (rank y) then x ∷ y ∷ ys else y ∷ inserted_by rank x ys

-- the elements of a list in the order of their ranks, those of one rank in the order of the list
abbrev pub sorted_by : {A : Type 0} → (A → ℕ) → List A → List A
sorted_by rank [] = []
sorted_by rank (x ∷ xs) = inserted_by rank x (sorted_by rank xs)
