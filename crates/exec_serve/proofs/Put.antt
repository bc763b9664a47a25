-- Answers whose head and text are written one after the other.
use Rattle.std.proofs.Common.{◌≡◌, ℕ, ◌+◌, List, [], ◌∷◌, ◌++◌, length, take, Option, refl, sym, ap, subst, zero, suc}
use Rattle.std.proofs.Math.Seq.{take-append-add}
use Rattle.std.specs.Io.KnownBytes.{Appends}
use Rattle.exec_serve.proofs.Bytes.{Appends-then}

front_of : (count : ℕ) (xs ys : List ℕ) → (some : ℕ) × (take count xs ≡ take some (xs ++ ys))
front_of zero xs ys = (0, refl)
front_of (suc n) [] ys = (0, refl)
front_of (suc n) (x ∷ xs) ys = let front = front_of n xs ys in (suc front.0, ap (λ (l : List ℕ). x ∷ l) front.1)

-- a front of the head is a front of both
pub front_of_head : (a b : Option (List ℕ)) (head text : List ℕ) (count : ℕ) → Appends a b (take count head) → (some : ℕ) × Appends a b (take some (head ++ text))
front_of_head a b head text count put = let front = front_of count head text in (front.0, subst (Appends a b) front.1 put)

-- and so is the head with a front of the text
pub front_behind_head : (a b c : Option (List ℕ)) (head text : List ℕ) (count : ℕ) → Appends a b head → Appends b c (take count text) → (some : ℕ) × Appends a c (take some (head ++ text))
front_behind_head a b c head text count one other = (length head + count, subst (Appends a c) (sym (take-append-add head text count)) (Appends-then a b c head (take count text) one other))
