-- Lists of which a test keeps some elements.
use Rattle.std.proofs.Common.{◌≡◌, inl, inr, List, [], ◌∷◌, ◌++◌, Bool, true, false, not, ◌||◌, cond, Option, None, Some, refl, ap}
use Rattle.std.specs.List.{filter, find, list_any, All, Contains}
use Rattle.std.proofs.lemmas.Bool.{not-true, or_parts, both_ways}
use Rattle.std.proofs.lemmas.List.Elements.{filter_passes, All-contains, All-cons, All-nil, Contains-append_cases}
use Rattle.std.proofs.lemmas.List.Sorted.{Contains-permutation, IsPermutation-filter_both}
use Rattle.exec_goal.specs.LawWords.{IsSublist, empty, with_first, without_first}

sublist_by : {X : Type 0} (test : Bool) (x : X) (xs ys : List X) → IsSublist xs ys → IsSublist (cond test (x ∷ xs) xs) (x ∷ ys)
sublist_by true x xs ys is = with_first x xs ys is
sublist_by false x xs ys is = without_first x xs ys is

-- what a test keeps stands in the list's order
pub filter-sublist : {X : Type 0} (test : X → Bool) (xs : List X) → IsSublist (filter test xs) xs
filter-sublist test [] = empty
filter-sublist test (x ∷ xs) = sublist_by (test x) x (filter test xs) xs (filter-sublist test xs)

-- an element that passes is kept
pub Contains-filter : {X : Type 0} (test : X → Bool) (xs : List X) (x : X) → Contains xs x → test x ≡ true → Contains (filter test xs) x
Contains-filter {X} test xs x has passes =
    elim (Contains-append_cases (filter test xs) (filter (λ y. not (test y)) xs) x
    (Contains-permutation xs (filter test xs ++ filter (λ y. not (test y)) xs) x (IsPermutation-filter_both test (λ y. not (test y)) (λ y. refl) xs) has))
    as (λ which. Contains (filter test xs) x) [
      | inl kept ↦ kept
      | inr other ↦ absurd (both_ways (test x) (not-true (test x) (All-contains (λ y. not (test y) ≡ true) (filter (λ y. not (test y)) xs) x (filter_passes (λ y. not (test y)) xs) other)) passes)
    ]

kept_none : {X : Type 0} (test rest : Bool) (x : X) (kept : List X) → (test || rest) ≡ false → (rest ≡ false → kept ≡ []) → cond test (x ∷ kept) kept ≡ []
kept_none true rest x kept none others = absurd cc
kept_none false rest x kept none others = others none

-- where no element passes none is kept
pub filter-none : {X : Type 0} (test : X → Bool) (xs : List X) → list_any test xs ≡ false → filter test xs ≡ []
filter-none test [] none = refl
filter-none test (x ∷ xs) none = kept_none (test x) (list_any test xs) x (filter test xs) none (filter-none test xs)

none_kept : {X : Type 0} (test rest : Bool) (x : X) (kept : List X) → cond test (x ∷ kept) kept ≡ [] → (kept ≡ [] → rest ≡ false) → (test || rest) ≡ false
none_kept true rest x kept none others = absurd cc
none_kept false rest x kept none others = others none

-- where none is kept no element passes
pub none-filter : {X : Type 0} (test : X → Bool) (xs : List X) → filter test xs ≡ [] → list_any test xs ≡ false
none-filter test [] none = refl
none-filter test (x ∷ xs) none = none_kept (test x) (list_any test xs) x (filter test xs) none (none-filter test xs)

unfound_by : {X : Type 0} (test rest : Bool) (x : X) (found : Option X) → cond test (Some x) found ≡ None → (found ≡ None → rest ≡ false) → (test || rest) ≡ false
unfound_by true rest x found none others = absurd cc
unfound_by false rest x found none others = others none

-- where none is found no element passes
pub none-find : {X : Type 0} (test : X → Bool) (xs : List X) → find test xs ≡ None → list_any test xs ≡ false
none-find test [] none = refl
none-find test (x ∷ xs) none = unfound_by (test x) (list_any test xs) x (find test xs) none (none-find test xs)

found_none : {X : Type 0} (test rest : Bool) (x : X) (found : Option X) → (test || rest) ≡ false → (rest ≡ false → found ≡ None) → cond test (Some x) found ≡ None
found_none true rest x found none others = absurd cc
found_none false rest x found none others = others none

-- where no element passes none is found
pub find-none : {X : Type 0} (test : X → Bool) (xs : List X) → list_any test xs ≡ false → find test xs ≡ None
find-none test [] none = refl
find-none test (x ∷ xs) none = found_none (test x) (list_any test xs) x (find test xs) none (find-none test xs)

-- where no element passes each one fails
pub All-none : {X : Type 0} (test : X → Bool) (xs : List X) → list_any test xs ≡ false → All (λ x. test x ≡ false) xs
All-none test [] none = All-nil (λ x. test x ≡ false)
All-none test (x ∷ xs) none =
    let parts = or_parts (test x) (list_any test xs) none in
    All-cons (λ y. test y ≡ false) x xs parts.0 (All-none test xs parts.1)

-- a test that nothing passes keeps nothing, and one that all pass keeps all
pub filter-never : {X : Type 0} (xs : List X) → filter (λ x. false) xs ≡ []
filter-never [] = refl
filter-never (x ∷ xs) = filter-never xs

pub filter-always : {X : Type 0} (xs : List X) → filter (λ x. true) xs ≡ xs
filter-always [] = refl
filter-always (x ∷ xs) = ap (λ rest. x ∷ rest) (filter-always xs)
