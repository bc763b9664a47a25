-- A list that rises and keeps the order of what ties is the sort by rank.
use Rattle.std.proofs.Common.{◌≡◌, ℕ, suc, ◌<◌, ◌==◌, ◌&&◌, not, nat_lt, Bool, true, false, cond, if◌then◌else◌, nat_le, drop, length, List, [], ◌∷◌, slice_index_or, refl, sym, ap, ◌∙◌, arith}
use Rattle.std.specs.List.{AllByRecursion, filter}
use Rattle.std.specs.List.Sorted.{IsNonDecreasingBy, IsStableByKey}
use Rattle.std.specs.Ordering.{is_lt, nat_cmp}
use Rattle.std.specs.declared.cmp.Ordering.TheVariants.{Less, Equal, Greater}
use Rattle.std.proofs.lemmas.Bool.{eq-eqb, eqb-true, le-leb, leb-false, leb-true, ltb-false, ltb-true, ne_eqb}
use Rattle.exec_rules.proofs.Pairs.{all_weaker}
use Rattle.exec_rules.proofs.Sorting.{Rises, all_inserted}
use Rattle.exec_rules.specs.Sorting.{inserted_by, sorted_by}

-- ---- what the sort leaves

module _ {A : Type 0} (rank : A → ℕ) where
  -- whether an element has the rank of this one
  abbrev pub ties_with : A → A → Bool
  ties_with x y = rank y == rank x

  ties_inserted : (one x : A) (xs : List A) → filter (ties_with one) (inserted_by rank x xs) ≡ filter (ties_with one) (x ∷ xs)
  ties_inserted one x [] = refl
  ties_inserted one x (y ∷ ys) = by (nat_le (rank x) (rank y)) refl (ties_inserted one x ys)
    where
      apart : (b c : Bool) → ties_with one y ≡ b → ties_with one x ≡ c → nat_le (rank x) (rank y) ≡ false →
          cond b (y ∷ cond c (x ∷ filter (ties_with one) ys) (filter (ties_with one) ys)) (cond c (x ∷ filter (ties_with one) ys) (filter (ties_with one) ys))
          ≡ cond c (x ∷ cond b (y ∷ filter (ties_with one) ys) (filter (ties_with one) ys)) (cond b (y ∷ filter (ties_with one) ys) (filter (ties_with one) ys))
      apart true true e f below = absurd (omega (arith, eqb-true (rank y) (rank one) e, eqb-true (rank x) (rank one) f, leb-false (rank x) (rank y) below))
      apart true false e f below = refl
      apart false true e f below = refl
      apart false false e f below = refl

      by : (b : Bool) → nat_le (rank x) (rank y) ≡ b → filter (ties_with one) (inserted_by rank x ys) ≡ filter (ties_with one) (x ∷ ys) → filter (ties_with one) (if b then x ∷ y ∷ ys else y ∷ inserted_by rank x ys) ≡ filter (ties_with one) (x ∷ y ∷ ys)
      by true e rest = refl
      by false e rest =
          ap (λ (more : List A). cond (ties_with one y) (y ∷ more) more) rest ∙ apart (ties_with one y) (ties_with one x) refl refl e

  ties_sorted : (one : A) (xs : List A) → filter (ties_with one) (sorted_by rank xs) ≡ filter (ties_with one) xs
  ties_sorted one [] = refl
  ties_sorted one (x ∷ xs) = ties_inserted one x (sorted_by rank xs) ∙ ap (λ (more : List A). cond (ties_with one x) (x ∷ more) more) (ties_sorted one xs)

  rises_inserted : (x : A) (xs : List A) → Rises rank xs → Rises rank (inserted_by rank x xs)
  rises_inserted x [] p = (tt, tt)
  rises_inserted x (y ∷ ys) p = by (nat_le (rank x) (rank y)) refl (rises_inserted x ys p.1)
    where
      by : (b : Bool) → nat_le (rank x) (rank y) ≡ b → Rises rank (inserted_by rank x ys) → Rises rank (if b then x ∷ y ∷ ys else y ∷ inserted_by rank x ys)
      by true e rest =
          ((e, all_weaker (λ z. nat_le (rank y) (rank z) ≡ true) (λ z. nat_le (rank x) (rank z) ≡ true) (λ z q. le-leb (rank x) (rank z) (omega (arith, leb-true (rank x) (rank y) e, leb-true (rank y) (rank z) q))) ys p.0), p)
      by false e rest =
          (all_inserted (λ z. nat_le (rank y) (rank z) ≡ true) rank x ys (le-leb (rank y) (rank x) (omega (arith, leb-false (rank x) (rank y) e))) p.0, rest)

  pub rises_sorted : (xs : List A) → Rises rank (sorted_by rank xs)
  rises_sorted [] = tt
  rises_sorted (x ∷ xs) = rises_inserted x (sorted_by rank xs) (rises_sorted xs)

  -- ---- one list at most rises and keeps them

  none_of : (x : A) (zs : List A) → AllByRecursion (λ z. ties_with x z ≡ false) zs → filter (ties_with x) zs ≡ []
  none_of x [] p = refl
  none_of x (z ∷ zs) p = rw p.0 (none_of x zs p.1)

  above : (x z : A) (zs : List A) → rank x < rank z → AllByRecursion (λ w. nat_le (rank z) (rank w) ≡ true) zs → filter (ties_with x) (z ∷ zs) ≡ []
  above x z zs low p =
      none_of x (z ∷ zs) (
        ne_eqb (rank z) (rank x) (λ same. absurd (omega (arith, same, low))),
        all_weaker (λ w. nat_le (rank z) (rank w) ≡ true) (λ w. ties_with x w ≡ false) (λ w le. ne_eqb (rank w) (rank x) (λ same. absurd (omega (arith, same, low, leb-true (rank z) (rank w) le)))) zs p,
      )

  here : (x y : A) (ys : List A) → rank y ≡ rank x → filter (ties_with x) (y ∷ ys) ≡ y ∷ filter (ties_with x) ys
  here x y ys same = rw (eq-eqb (rank y) (rank x) same) refl

  cut : (b : Bool) (y : A) (some more : List A) → cond b (y ∷ some) some ≡ cond b (y ∷ more) more → some ≡ more
  cut true y some more e = ap (λ (all : List A). drop 1 all) e
  cut false y some more e = e

  same_sorted : (ys zs : List A) → Rises rank ys → Rises rank zs → ((x : A) → filter (ties_with x) ys ≡ filter (ties_with x) zs) → ys ≡ zs
  same_sorted [] [] p q same = refl
  same_sorted [] (z ∷ zs) p q same = let none : [] ≡ z ∷ filter (ties_with z) zs = same z ∙ here z z zs refl in absurd cc
  same_sorted (y ∷ ys) [] p q same = let none : y ∷ filter (ties_with y) ys ≡ [] = sym (here y y ys refl) ∙ same y in absurd cc
  same_sorted (y ∷ ys) (z ∷ zs) p q same = by (nat_le (rank y) (rank z)) (nat_le (rank z) (rank y)) refl refl (same_sorted ys zs p.1 q.1)
    where
      by : (b c : Bool) → nat_le (rank y) (rank z) ≡ b → nat_le (rank z) (rank y) ≡ c → (((x : A) → filter (ties_with x) ys ≡ filter (ties_with x) zs) → ys ≡ zs) → y ∷ ys ≡ z ∷ zs
      by true true e f rest =
          let ranks : rank z ≡ rank y = omega (arith, leb-true (rank y) (rank z) e, leb-true (rank z) (rank y) f) in
          let heads : y ∷ filter (ties_with y) ys ≡ z ∷ filter (ties_with y) zs = sym (here y y ys refl) ∙ same y ∙ here y z zs ranks in
          let one : y ≡ z = cc in
          let tails : ys ≡ zs = rest (λ x. cut (ties_with x y) y (filter (ties_with x) ys) (filter (ties_with x) zs) (same x ∙ ap (λ (w : A). filter (ties_with x) (w ∷ zs)) (sym one))) in
          (λ i. one i ∷ tails i)
      by true false e f rest =
          let none : y ∷ filter (ties_with y) ys ≡ [] = sym (here y y ys refl) ∙ same y ∙ above y z zs (leb-false (rank z) (rank y) f) q.0 in
          absurd cc
      by false c e f rest =
          let none : [] ≡ z ∷ filter (ties_with z) zs = sym (above z y ys (leb-false (rank y) (rank z) e) p.0) ∙ same z ∙ here z z zs refl in
          absurd cc

  -- so a list that rises and keeps the order of what ties is the sort
  pub stable_is : (xs ys : List A) → Rises rank ys → ((x : A) → filter (ties_with x) ys ≡ filter (ties_with x) xs) → ys ≡ sorted_by rank xs
  stable_is xs ys p q = same_sorted ys (sorted_by rank xs) p (rises_sorted xs) (λ x. q x ∙ sym (ties_sorted x xs))

  -- ---- lists as a sort of a vector leaves them

  all_at : (P : A → Type 0) (xs : List A) → ((j : ℕ) (d : A) → j < length xs → P (slice_index_or xs j d)) → AllByRecursion P xs
  all_at P [] p = tt
  all_at P (x ∷ xs) p = (p 0 x (omega arith), all_at P xs (λ j d within. p (suc j) d (omega (arith, within))))

  pub rises_of : (xs : List A) → IsNonDecreasingBy rank xs → Rises rank xs
  rises_of [] p = tt
  rises_of (x ∷ xs) p = (
    all_at (λ y. nat_le (rank x) (rank y) ≡ true) xs (λ j d within. le-leb (rank x) (rank (slice_index_or xs j d)) (p 0 (suc j) d (omega arith) (omega (arith, within)))),
    rises_of xs (λ i j d le within. p (suc i) (suc j) d (omega (arith, le)) (omega (arith, within))),
  )

-- ---- as a sort by a key leaves them

-- neither number is below the other where they are one
tied : (a b : ℕ) → (not (is_lt (nat_cmp a b)) && not (is_lt (nat_cmp b a))) ≡ (b == a)
tied a b = (λ i. not (lt_is a b i) && not (lt_is b a i)) ∙ by (nat_lt a b) (nat_lt b a) refl refl
  where
    lt_is : (x y : ℕ) → is_lt (nat_cmp x y) ≡ nat_lt x y
    lt_is x y = which (nat_lt x y) (x == y)
      where
        which : (b c : Bool) → is_lt (cond b Less (cond c Equal Greater)) ≡ b
        which true c = refl
        which false true = refl
        which false false = refl

    by : (c d : Bool) → nat_lt a b ≡ c → nat_lt b a ≡ d → (not c && not d) ≡ (b == a)
    by true d e f = sym (ne_eqb b a (λ same. absurd (omega (arith, same, ltb-true a b e))))
    by false true e f = sym (ne_eqb b a (λ same. absurd (omega (arith, same, ltb-true b a f))))
    by false false e f = sym (eq-eqb b a (omega (arith, ltb-false a b e, ltb-false b a f)))

pub sorted_as : {A : Type 0} (rank : A → ℕ) (xs ys : List A) → IsNonDecreasingBy rank ys → IsStableByKey rank nat_cmp xs ys → ys ≡ sorted_by rank xs
sorted_as {A} rank xs ys rises stable =
    stable_is rank xs ys (rises_of rank ys rises)
    (λ x. ap (λ (test : A → Bool). filter test ys) (λ i y. sym (tied (rank x) (rank y)) i) ∙ stable x ∙ ap (λ (test : A → Bool). filter test xs) (λ i y. tied (rank x) (rank y) i))
