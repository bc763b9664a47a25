-- Sums of a number of each element.
use Rattle.std.proofs.Common.{◌≡◌, ◌≢◌, ℕ, zero, suc, ◌+◌, ◌≤◌, List, [], ◌∷◌, ◌++◌, set, sym, refl, ap, arith}
use mathlib.Core.Option.{some, some-injective, some-ne-none}
use lib.ListN.{get_elem?}
use Rattle.exec_board.specs.Rule.{tally}

module _ {A : Type 0} (f : A → ℕ) where
  pub tally-append : (xs ys : List A) → tally f (xs ++ ys) ≡ tally f xs + tally f ys
  tally-append [] ys = omega arith
  tally-append (x ∷ xs) ys = let rest = tally-append xs ys in omega (arith, rest)

  pub tally-push : (xs : List A) (x : A) → tally f (xs ++ x ∷ []) ≡ tally f xs + f x
  tally-push [] x = omega arith
  tally-push (y ∷ xs) x = let rest = tally-push xs x in omega (arith, rest)

  -- one element became another
  pub tally-set : (xs : List A) (i : ℕ) (v w : A) → get_elem? xs i ≡ some v → tally f (set xs i w) + f v ≡ tally f xs + f w
  tally-set [] i v w at = absurd (some-ne-none v (sym at))
  tally-set (x ∷ xs) zero v w at = let same : f x ≡ f v = ap f (some-injective x v at) in omega (arith, same)
  tally-set (x ∷ xs) (suc i) v w at = let rest = tally-set xs i v w at in omega (arith, rest)

  -- one element became another of the same number
  pub tally-same : (xs : List A) (i : ℕ) (v w : A) → get_elem? xs i ≡ some v → f w ≡ f v → tally f (set xs i w) ≡ tally f xs
  tally-same xs i v w at same = let changed = tally-set xs i v w at in omega (arith, changed, same)

  -- an element's number is within the sum
  pub tally-part : (xs : List A) (i : ℕ) (v : A) → get_elem? xs i ≡ some v → f v ≤ tally f xs
  tally-part [] i v at = absurd (some-ne-none v (sym at))
  tally-part (x ∷ xs) zero v at = let same : f x ≡ f v = ap f (some-injective x v at) in omega (arith, same)
  tally-part (x ∷ xs) (suc i) v at = let rest = tally-part xs i v at in omega (arith, rest)

  -- and so are those of two elements
  pub tally-two : (xs : List A) (i j : ℕ) (v w : A) → i ≢ j → get_elem? xs i ≡ some v → get_elem? xs j ≡ some w → f v + f w ≤ tally f xs
  tally-two [] i j v w apart at there = absurd (some-ne-none v (sym at))
  tally-two (x ∷ xs) zero zero v w apart at there = absurd (apart refl)
  tally-two (x ∷ xs) zero (suc j) v w apart at there =
      let same : f x ≡ f v = ap f (some-injective x v at) in let rest = tally-part xs j w there in omega (arith, same, rest)
  tally-two (x ∷ xs) (suc i) zero v w apart at there =
      let same : f x ≡ f w = ap f (some-injective x w there) in let rest = tally-part xs i v at in omega (arith, same, rest)
  tally-two (x ∷ xs) (suc i) (suc j) v w apart at there = let rest = tally-two xs i j v w (λ same. apart (ap suc same)) at there in omega (arith, rest)

  pub tally-none : (xs : List A) → ((i : ℕ) (v : A) → get_elem? xs i ≡ some v → f v ≡ 0) → tally f xs ≡ 0
  tally-none [] none = refl
  tally-none (x ∷ xs) none = let here = none 0 x refl in let rest = tally-none xs (λ i v at. none (suc i) v at) in omega (arith, here, rest)

  -- one element alone counts
  pub tally-alone : (xs : List A) (i : ℕ) (v : A) → get_elem? xs i ≡ some v → ((j : ℕ) (u : A) → j ≢ i → get_elem? xs j ≡ some u → f u ≡ 0) → tally f xs ≡ f v
  tally-alone [] i v at none = absurd (some-ne-none v (sym at))
  tally-alone (x ∷ xs) zero v at none =
      let same : f x ≡ f v = ap f (some-injective x v at) in
      let rest = tally-none xs (λ j u there. none (suc j) u (λ is. omega arith) there) in
      omega (arith, same, rest)
  tally-alone (x ∷ xs) (suc i) v at none =
      let here = none 0 x (λ is. omega arith) refl in
      let rest = tally-alone xs i v at (λ j u apart there. none (suc j) u (λ is. apart (omega arith)) there) in
      omega (arith, here, rest)

  -- where elements that count are alone, an element that counts is the only one
  pub tally-only : (xs : List A) (i j : ℕ) (v w : A) → tally f xs ≤ 1 → f v ≡ 1 → i ≢ j → get_elem? xs i ≡ some v → get_elem? xs j ≡ some w → f w ≡ 0
  tally-only xs i j v w one here apart at there = let two = tally-two xs i j v w apart at there in omega (arith, two, one, here)
