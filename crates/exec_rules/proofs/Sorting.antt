-- What a sort by rank keeps, and what it leaves where it is.
use Rattle.std.proofs.Common.{◌≡◌, ℕ, ◌+◌, Bool, true, false, if◌then◌else◌, nat_le, List, [], ◌∷◌, ◌++◌, refl, sym, ap, ◌∙◌, append_assoc, arith}
use Rattle.std.specs.List.{AllByRecursion, flat_map}
use Rattle.std.proofs.lemmas.List.{append-nil}
use Rattle.exec_rules.proofs.Pairs.{Pairs}
use Rattle.exec_rules.specs.Sorting.{inserted_by, sorted_by}

-- ---- what holds of the elements

pub all_inserted : {A : Type 0} (P : A → Type 0) (rank : A → ℕ) (x : A) (xs : List A) → P x → AllByRecursion P xs → AllByRecursion P (inserted_by rank x xs)
all_inserted P rank x [] p q = (p, tt)
all_inserted P rank x (y ∷ ys) p q = by (nat_le (rank x) (rank y)) (all_inserted P rank x ys p q.1)
  where
    by : (b : Bool) → AllByRecursion P (inserted_by rank x ys) → AllByRecursion P (if b then x ∷ y ∷ ys else y ∷ inserted_by rank x ys)
    by true rest = (p, q)
    by false rest = (q.0, rest)

-- what holds of each element
pub all_sorted : {A : Type 0} (P : A → Type 0) (rank : A → ℕ) (xs : List A) → AllByRecursion P xs → AllByRecursion P (sorted_by rank xs)
all_sorted P rank [] p = tt
all_sorted P rank (x ∷ xs) p = all_inserted P rank x (sorted_by rank xs) p.0 (all_sorted P rank xs p.1)

pairs_inserted : {A : Type 0} (R : A → A → Type 0) (rank : A → ℕ) (x : A) (xs : List A) → ((one other : A) → R one other → R other one) → AllByRecursion (R x) xs → Pairs R xs → Pairs R (inserted_by rank x xs)
pairs_inserted R rank x [] turned p q = (tt, tt)
pairs_inserted {A} R rank x (y ∷ ys) turned p q = by (nat_le (rank x) (rank y)) (all_inserted (R y) rank x ys (turned x y p.0) q.0) (pairs_inserted R rank x ys turned p.1 q.1)
  where
    by : (b : Bool) → AllByRecursion (R y) (inserted_by rank x ys) → Pairs R (inserted_by rank x ys) → Pairs R (if b then x ∷ y ∷ ys else y ∷ inserted_by rank x ys)
    by true all rest = (p, q)
    by false all rest = (all, rest)

-- a relation of each two that looks the same from both sides
pub pairs_sorted : {A : Type 0} (R : A → A → Type 0) (rank : A → ℕ) (xs : List A) → ((one other : A) → R one other → R other one) → Pairs R xs → Pairs R (sorted_by rank xs)
pairs_sorted R rank [] turned p = tt
pairs_sorted R rank (x ∷ xs) turned p = pairs_inserted R rank x (sorted_by rank xs) turned (all_sorted (R x) rank xs p.0) (pairs_sorted R rank xs turned p.1)

-- ---- sums, and lists that elements give

sum_inserted : {A : Type 0} (weight : A → ℕ) (sum : List A → ℕ) → ((x : A) (xs : List A) → sum (x ∷ xs) ≡ weight x + sum xs) → (rank : A → ℕ) (x : A) (xs : List A) → sum (inserted_by rank x xs) ≡ weight x + sum xs
sum_inserted weight sum adds rank x [] = adds x []
sum_inserted weight sum adds rank x (y ∷ ys) = by (nat_le (rank x) (rank y)) (sum_inserted weight sum adds rank x ys)
  where
    by : (b : Bool) → sum (inserted_by rank x ys) ≡ weight x + sum ys → sum (if b then x ∷ y ∷ ys else y ∷ inserted_by rank x ys) ≡ weight x + sum (y ∷ ys)
    by true rest = adds x (y ∷ ys)
    by false rest = let a = adds y (inserted_by rank x ys) in let b = adds y ys in omega (arith, a, rest, b)

-- a function that adds up what each element weighs
pub sum_sorted : {A : Type 0} (weight : A → ℕ) (sum : List A → ℕ) → ((x : A) (xs : List A) → sum (x ∷ xs) ≡ weight x + sum xs) → (rank : A → ℕ) (xs : List A) → sum (sorted_by rank xs) ≡ sum xs
sum_sorted weight sum adds rank [] = refl
sum_sorted weight sum adds rank (x ∷ xs) =
    let a = sum_inserted weight sum adds rank x (sorted_by rank xs) in
    let rest = sum_sorted weight sum adds rank xs in
    let b = adds x xs in
    omega (arith, a, rest, b)

-- what two elements give may change places
abbrev pub Commute : {A B : Type 0} → (A → List B) → A → A → Type 0
Commute f one other = f one ++ f other ≡ f other ++ f one

-- as it may where one of them gives nothing
pub none_commutes : {A B : Type 0} (f : A → List B) (one other : A) → f one ≡ [] → Commute f one other
none_commutes f one other none = rw none (sym (append-nil (f other)))

flat_inserted : {A B : Type 0} (f : A → List B) (rank : A → ℕ) (x : A) (xs : List A) → AllByRecursion (Commute f x) xs → flat_map f (inserted_by rank x xs) ≡ f x ++ flat_map f xs
flat_inserted f rank x [] p = refl
flat_inserted {A} {B} f rank x (y ∷ ys) p = by (nat_le (rank x) (rank y)) (flat_inserted f rank x ys p.1)
  where
    by : (b : Bool) → flat_map f (inserted_by rank x ys) ≡ f x ++ flat_map f ys → flat_map f (if b then x ∷ y ∷ ys else y ∷ inserted_by rank x ys) ≡ f x ++ (f y ++ flat_map f ys)
    by true rest = refl
    by false rest =
        ap (λ (more : List B). f y ++ more) rest ∙ sym (append_assoc (f y) (f x) (flat_map f ys)) ∙ ap (λ (both : List B). both ++ flat_map f ys) (sym p.0) ∙ append_assoc (f x) (f y) (flat_map f ys)

-- what elements give, where that of each two may change places
pub flat_sorted : {A B : Type 0} (f : A → List B) (rank : A → ℕ) (xs : List A) → Pairs (Commute f) xs → flat_map f (sorted_by rank xs) ≡ flat_map f xs
flat_sorted f rank [] p = refl
flat_sorted {A} {B} f rank (x ∷ xs) p = flat_inserted f rank x (sorted_by rank xs) (all_sorted (Commute f x) rank xs p.0) ∙ ap (λ (more : List B). f x ++ more) (flat_sorted f rank xs p.1)

-- ---- lists that are in order

-- no element is of a higher rank than one behind it
abbrev pub Rises : {A : Type 0} → (A → ℕ) → List A → Type 0
Rises rank xs = Pairs (λ one other. nat_le (rank one) (rank other) ≡ true) xs

inserted_first : {A : Type 0} (rank : A → ℕ) (x : A) (xs : List A) → AllByRecursion (λ y. nat_le (rank x) (rank y) ≡ true) xs → inserted_by rank x xs ≡ x ∷ xs
inserted_first rank x [] p = refl
inserted_first rank x (y ∷ ys) p = rw p.0 refl

-- elements before a list that is sorted so stay there
pub front_stays : {A : Type 0} (rank : A → ℕ) (xs ys zs : List A) → sorted_by rank ys ≡ zs → Rises rank (xs ++ zs) → sorted_by rank (xs ++ ys) ≡ xs ++ zs
front_stays rank [] ys zs is p = is
front_stays rank (x ∷ xs) ys zs is p = ap (inserted_by rank x) (front_stays rank xs ys zs is p.1) ∙ inserted_first rank x (xs ++ zs) p.0

pub sorted_rising : {A : Type 0} (rank : A → ℕ) (xs : List A) → Rises rank xs → sorted_by rank xs ≡ xs
sorted_rising rank [] p = refl
sorted_rising rank (x ∷ xs) p = ap (inserted_by rank x) (sorted_rising rank xs p.1) ∙ inserted_first rank x xs p.0

inserted_behind : {A : Type 0} (rank : A → ℕ) (x : A) (xs ys : List A) → AllByRecursion (λ y. nat_le (rank x) (rank y) ≡ false) xs → AllByRecursion (λ y. nat_le (rank x) (rank y) ≡ true) ys → inserted_by rank x (xs ++ ys) ≡ xs ++ x ∷ ys
inserted_behind rank x [] ys p q = inserted_first rank x ys q
inserted_behind {A} rank x (y ∷ xs) ys p q = rw p.0 (ap (λ (rest : List A). y ∷ rest) (inserted_behind rank x xs ys p.1 q))

-- elements of higher ranks go behind all of a list
pub back_goes : {A : Type 0} (rank : A → ℕ) (xs ys : List A) → Rises rank xs → Rises rank ys → AllByRecursion (λ x. AllByRecursion (λ y. nat_le (rank x) (rank y) ≡ false) ys) xs → sorted_by rank (xs ++ ys) ≡ ys ++ xs
back_goes rank [] ys p q above = sorted_rising rank ys q ∙ sym (append-nil ys)
back_goes rank (x ∷ xs) ys p q above = ap (inserted_by rank x) (back_goes rank xs ys p.1 q above.1) ∙ inserted_behind rank x ys xs above.0 p.0
