-- What is read in steps, each of which may find nothing.
use Rattle.std.specs.Prelude.{List, [], ◌∷◌, Option, Some, option_and_then}

-- something, and what is made of it
infixl 10 ◌>>=◌
abbrev pub ◌>>=◌ : {A B : Type 0} → Option A → (A → Option B) → Option B
o >>= f = option_and_then f o

-- what each of them is, where each is something
abbrev pub each : {A B : Type 0} → (A → Option B) → List A → Option (List B)
each f [] = Some []
each f (x ∷ xs) = do
  y ← f x
  ys ← each f xs
  Some (y ∷ ys)
