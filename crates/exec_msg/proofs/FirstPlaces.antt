-- What is found and changed first stands at the first place.
use Rattle.std.proofs.Common.{◌≡◌, ℕ, zero, suc, ◌<◌, ◌≤◌, ◌⊎◌, inl, inr, ⊎_elim, Bool, true, false, cond, if◌then◌else◌, length, List, [], ◌∷◌, ◌++◌, Option, Some, None, find, slice_get, slice_set, get_or, nat_lt, refl, sym, ap, subst, ◌∙◌, arith}
use Rattle.std.proofs.lemmas.Bool.{ltb-true, ltb-false}
use Rattle.std.proofs.lemmas.Option.{slice_get-get_or, slice_get_past}
use Rattle.std.specs.Option.{option_flatten, option_map}
use Rattle.exec_msg.specs.Lists.{change_first}
use Rattle.exec_msg.specs.Places.{first_place, change_at, first_noted, place_under}

-- the first place once an element more stands behind
abbrev pub place_or : Option ℕ → Bool → ℕ → Option ℕ
place_or None b i = if b then Some i else None
place_or (Some j) b i = Some j

module _ {A : Type 0} (test : A → Bool) where
  nothing_by : (b : Bool) (x : A) (place : Option ℕ) (found : Option A) → (if b then Some zero else option_map suc place) ≡ None → (place ≡ None → found ≡ None) → cond b (Some x) found ≡ None
  nothing_by true x place found is later = absurd cc
  nothing_by false x None found is later = later refl
  nothing_by false x (Some place) found is later = absurd cc

  -- nothing is found where there is no place
  pub find-nowhere : (xs : List A) → first_place test xs ≡ None → find test xs ≡ None
  find-nowhere [] is = refl
  find-nowhere (x ∷ xs) is = nothing_by (test x) x (first_place test xs) (find test xs) is (find-nowhere xs)

  found_by : (b : Bool) (i : ℕ) (x : A) (xs : List A) (place : Option ℕ) (found : Option A) → (if b then Some zero else option_map suc place) ≡ Some i → ((j : ℕ) → place ≡ Some j → found ≡ slice_get xs j) → cond b (Some x) found ≡ slice_get (x ∷ xs) i
  found_by true zero x xs place found is later = refl
  found_by true (suc i) x xs place found is later = absurd cc
  found_by false i x xs None found is later = absurd cc
  found_by false zero x xs (Some j) found is later = absurd cc
  found_by false (suc i) x xs (Some j) found is later = later i cc

  -- what is found stands at the first place
  pub find-first_place : (xs : List A) (i : ℕ) → first_place test xs ≡ Some i → find test xs ≡ slice_get xs i
  find-first_place [] i is = absurd cc
  find-first_place (x ∷ xs) i is = found_by (test x) i x xs (first_place test xs) (find test xs) is (find-first_place xs)

  within_by : (b : Bool) (i : ℕ) (xs : List A) (place : Option ℕ) → (if b then Some zero else option_map suc place) ≡ Some i → ((j : ℕ) → place ≡ Some j → j < length xs) → i < suc (length xs)
  within_by true zero xs place is later = omega arith
  within_by true (suc i) xs place is later = absurd cc
  within_by false i xs None is later = absurd cc
  within_by false zero xs (Some j) is later = omega arith
  within_by false (suc i) xs (Some j) is later = let below : i < length xs = later i cc in omega (arith, below)

  -- the first place is one of the list's
  pub first_place-within : (xs : List A) (i : ℕ) → first_place test xs ≡ Some i → i < length xs
  first_place-within [] i is = absurd cc
  first_place-within (x ∷ xs) i is = within_by (test x) i xs (first_place test xs) is (first_place-within xs)

  -- an element that the test doesn't tell from another leaves the first place
  pub first_place-set : (xs : List A) (i : ℕ) (x after : A) → x ≡ get_or xs i x → test after ≡ test x → first_place test (slice_set xs i after) ≡ first_place test xs
  first_place-set [] i x after reads keeps = refl
  first_place-set (y ∷ xs) zero x after reads keeps = ap (λ (b : Bool). if b then Some zero else option_map suc (first_place test xs)) (keeps ∙ ap test reads)
  first_place-set (y ∷ xs) (suc i) x after reads keeps = ap (λ (place : Option ℕ). if test y then Some zero else option_map suc place) (first_place-set xs i x after reads keeps)

  module _ (change : A → A) where
    same_by : (b : Bool) (x : A) (xs changed : List A) (place : Option ℕ) → (if b then Some zero else option_map suc place) ≡ None → (place ≡ None → changed ≡ xs) → (if b then change x ∷ xs else x ∷ changed) ≡ x ∷ xs
    same_by true x xs changed place is later = absurd cc
    same_by false x xs changed None is later = ap (λ ys. x ∷ ys) (later refl)
    same_by false x xs changed (Some place) is later = absurd cc

    -- nothing is changed where there is no place
    pub change_first-nowhere : (xs : List A) → first_place test xs ≡ None → change_first test change xs ≡ xs
    change_first-nowhere [] is = refl
    change_first-nowhere (x ∷ xs) is = same_by (test x) x xs (change_first test change xs) (first_place test xs) is (change_first-nowhere xs)

    changed_by : (b : Bool) (i : ℕ) (x : A) (xs changed : List A) (place : Option ℕ) → (if b then Some zero else option_map suc place) ≡ Some i → ((j : ℕ) → place ≡ Some j → changed ≡ change_at j change xs) → (if b then change x ∷ xs else x ∷ changed) ≡ change_at i change (x ∷ xs)
    changed_by true zero x xs changed place is later = refl
    changed_by true (suc i) x xs changed place is later = absurd cc
    changed_by false i x xs changed None is later = absurd cc
    changed_by false zero x xs changed (Some j) is later = absurd cc
    changed_by false (suc i) x xs changed (Some j) is later = ap (λ ys. x ∷ ys) (later i cc)

    -- the first element is changed at the first place
    pub change_first-first_place : (xs : List A) (i : ℕ) → first_place test xs ≡ Some i → change_first test change xs ≡ change_at i change xs
    change_first-first_place [] i is = absurd cc
    change_first-first_place (x ∷ xs) i is = changed_by (test x) i x xs (change_first test change xs) (first_place test xs) is (change_first-first_place xs)

    -- a change that the test doesn't see leaves the first place
    pub first_place-changed : ((x : A) → test (change x) ≡ test x) → (i : ℕ) (xs : List A) → first_place test (change_at i change xs) ≡ first_place test xs
    first_place-changed keeps i [] = refl
    first_place-changed keeps zero (x ∷ xs) = ap (λ (b : Bool). if b then Some zero else option_map suc (first_place test xs)) (keeps x)
    first_place-changed keeps (suc i) (x ∷ xs) = ap (λ (place : Option ℕ). if test x then Some zero else option_map suc place) (first_place-changed keeps i xs)

  behind_by : (b c : Bool) (place : Option ℕ) (n : ℕ) → (if b then Some zero else option_map suc (place_or place c n)) ≡ place_or (if b then Some zero else option_map suc place) c (suc n)
  behind_by true c place n = refl
  behind_by false c (Some j) n = refl
  behind_by false true None n = refl
  behind_by false false None n = refl

  pub first_place-behind : (xs : List A) (x : A) → first_place test (xs ++ x ∷ []) ≡ place_or (first_place test xs) (test x) (length xs)
  first_place-behind [] x = by (test x)
    where
      by : (b : Bool) → (if b then Some zero else option_map suc None) ≡ (if b then Some zero else None)
      by true = refl
      by false = refl
  first_place-behind (y ∷ xs) x =
      ap (λ (place : Option ℕ). if test y then Some zero else option_map suc place) (first_place-behind xs x)
      ∙ behind_by (test y) (test x) (first_place test xs) (length xs)

-- a write to a place is a change there
pub written : {A : Type 0} (change : A → A) (xs : List A) (i : ℕ) (x after : A) → x ≡ get_or xs i x → after ≡ change x → slice_set xs i after ≡ change_at i change xs
written change [] i x after is sets = refl
written change (y ∷ xs) zero x after is sets = ap (λ z. z ∷ xs) (sets ∙ ap change is)
written change (y ∷ xs) (suc i) x after is sets = ap (λ ys. y ∷ ys) (written change xs i x after is sets)

-- a change at no place is none
change_at-past : {A : Type 0} (change : A → A) (xs : List A) (i : ℕ) → length xs ≤ i → xs ≡ change_at i change xs
change_at-past change [] i past = refl
change_at-past change (x ∷ xs) zero past = absurd (omega arith)
change_at-past change (x ∷ xs) (suc i) past = ap (λ ys. x ∷ ys) (change_at-past change xs i (omega arith))

pub change_at-beyond : {A : Type 0} (change : A → A) (xs : List A) (i : ℕ) → false ≡ nat_lt i (length xs) → xs ≡ change_at i change xs
change_at-beyond change xs i is = change_at-past change xs i (ltb-false i (length xs) (sym is))

-- what stands at a place
pub read_at : {A : Type 0} (xs : List A) (i : ℕ) (x : A) → true ≡ nat_lt i (length xs) → x ≡ get_or xs i x → slice_get xs i ≡ Some x
read_at xs i x within is = slice_get-get_or xs i x (ltb-true i (length xs) (sym within)) ∙ ap Some (sym is)

-- nothing stands at no place
pub none_beyond : {A : Type 0} (xs : List A) (i : ℕ) → false ≡ nat_lt i (length xs) → slice_get xs i ≡ None
none_beyond xs i is = slice_get_past xs i (ltb-false i (length xs) (sym is))

-- ---- what is changed at a place

up : {a b : ℕ} {P : Type 0} → (a ≡ b) ⊎ P → (suc a ≡ suc b) ⊎ P
up (inl same) = inl (ap suc same)
up (inr other) = inr other

-- another place keeps its element
pub there_or_same : {A : Type 0} (change : A → A) (place other : ℕ) (xs : List A) → (place ≡ other) ⊎ (slice_get (change_at place change xs) other ≡ slice_get xs other)
there_or_same change place other [] = inr refl
there_or_same change zero zero (x ∷ xs) = inl refl
there_or_same change zero (suc other) (x ∷ xs) = inr refl
there_or_same change (suc place) zero (x ∷ xs) = inr refl
there_or_same change (suc place) (suc other) (x ∷ xs) = up (there_or_same change place other xs)

-- a slot that exists finds the place that is noted in it
there_at : (n slot : ℕ) (made : List (Option ℕ)) → slot < length made
    → place_under slot (change_at slot (first_noted n) made) ≡ place_or (place_under slot made) true n
there_at n slot [] within = absurd (omega arith)
there_at n zero (None ∷ made) within = refl
there_at n zero (Some place ∷ made) within = refl
there_at n (suc slot) (place ∷ made) within = there_at n slot made (omega arith)

not_noted : (found : Option ℕ) (n : ℕ) → found ≡ place_or found false n
not_noted None n = refl
not_noted (Some place) n = refl

pub noted_at : (b : Bool) (n slot other : ℕ) (made : List (Option ℕ)) → slot < length made → (b ≡ true → slot ≡ other) → (b ≡ false → slot ≡ other → ⊥)
    → place_under other (change_at slot (first_noted n) made) ≡ place_or (place_under other made) b n
noted_at true n slot other made within same apart =
    subst (λ at. place_under at (change_at slot (first_noted n) made) ≡ place_or (place_under at made) true n) (same refl) (there_at n slot made within)
noted_at false n slot other made within same apart =
    ⊎_elim
    (λ here. absurd (apart refl here))
    (λ kept. ap option_flatten kept ∙ not_noted (place_under other made) n)
    (there_or_same (first_noted n) slot other made)
