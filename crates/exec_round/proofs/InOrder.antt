-- A list that is sorted by numbers that rise by one is told by its elements.
use Rattle.std.proofs.Common.{◌≡◌, ℕ, zero, suc, ◌+◌, ◌-◌, ◌<◌, ◌≤◌, ◌⊎◌, List, [], ◌∷◌, length, map, get_or, refl, sym, ap, ◌∙◌, arith, All, inl, inr}
use Rattle.exec_round.specs.inner.Commits.{RiseFrom}
use Rattle.std.specs.List.{sum_by}
use Rattle.std.specs.List.Sorted.{IsNonDecreasingBy, IsPermutation, IsSortedByKey}
use Rattle.std.specs.Ordering.{nat_cmp}
use Rattle.std.proofs.lemmas.Bool.{cases_lt}
use Rattle.std.proofs.lemmas.List.{get_or-map, get_or_default, length-map}
use Rattle.std.proofs.lemmas.List.Sorted.{All-permutation, IsNonDecreasingBy-drop, IsNonDecreasingBy-from_sort, IsPermutation-map, IsPermutation-sym, sum_by-IsPermutation}
use Rattle.std.proofs.lemmas.List.Sums.{sum_by-cons}

-- ---- numbers

-- no number of such a list is below its first
none_below : (m first : ℕ) (ns : List ℕ) → m ≤ first → RiseFrom first ns → sum_by (λ n. m - n) ns ≡ 0
none_below m first [] low rise = refl
none_below m first (n ∷ ns) low rise =
    let rest = none_below m (suc first) ns (omega (arith, low)) rise.1 in
    let next = sum_by-cons (λ (k : ℕ). m - k) n ns in
    omega (arith, rest, next, low, rise.0)

-- nor of one whose numbers don't fall
none_under : (m : ℕ) (ns : List ℕ) → ((i : ℕ) → i < length ns → m ≤ get_or ns i 0) → sum_by (λ n. m - n) ns ≡ 0
none_under m [] low = refl
none_under m (n ∷ ns) low =
    let rest = none_under m ns (λ i within. low (suc i) (omega (arith, within))) in
    let next = sum_by-cons (λ (k : ℕ). m - k) n ns in
    let here : m ≤ n = low 0 (omega arith) in
    omega (arith, rest, next, here)

first_is_least : (n : ℕ) (ns : List ℕ) → IsNonDecreasingBy (λ k. k) (n ∷ ns) → (i : ℕ) → i < length (n ∷ ns) → n ≤ get_or (n ∷ ns) i 0
first_is_least n ns order i within = order 0 i 0 (omega arith) within

-- numbers that don't fall are those that rise by one, where both weigh the same however each is weighed
same_numbers : (first : ℕ) (ns ms : List ℕ) → RiseFrom first ms → IsNonDecreasingBy (λ n. n) ns → ((f : ℕ → ℕ) → sum_by f ns ≡ sum_by f ms) → ns ≡ ms
same_numbers first [] [] rise order weigh = refl
same_numbers first [] (m ∷ ms) rise order weigh =
    let one = sum_by-cons (λ (k : ℕ). 1) m ms in
    let both = weigh (λ k. 1) in
    absurd (omega (arith, one, both))
same_numbers first (n ∷ ns) [] rise order weigh =
    let one = sum_by-cons (λ (k : ℕ). 1) n ns in
    let both = weigh (λ k. 1) in
    absurd (omega (arith, one, both))
same_numbers first (n ∷ ns) (m ∷ ms) rise order weigh =
    let low : first ≤ n =
    (let left = sum_by-cons (λ (k : ℕ). first - k) n ns in
    let right = none_below first first (m ∷ ms) (omega arith) rise in
    let both = weigh (λ k. first - k) in
    omega (arith, left, right, both)) in
    let high : n ≤ first = by (cases_lt first n) in
    let same : n ≡ m = omega (arith, low, high, rise.0) in
    (λ i. same i ∷ same_numbers (suc first) ns ms rise.1 (IsNonDecreasingBy-drop (λ (k : ℕ). k) 1 (n ∷ ns) order)
    (λ f. let left = sum_by-cons f n ns in let right = sum_by-cons f m ms in let both = weigh f in let here : f n ≡ f m = ap f same in omega (arith, left, right, both, here)) i)
  where
    by : (first < n) ⊎ (n ≤ first) → n ≤ first
    by (inr fits) = fits
    by (inl above) =
        let left = none_under (suc first) (n ∷ ns) (λ i within. let least = first_is_least n ns order i within in omega (arith, above, least)) in
        let right = sum_by-cons (λ (k : ℕ). suc first - k) m ms in
        let both = weigh (λ k. suc first - k) in
        absurd (omega (arith, left, right, both, rise.0))

-- ---- elements

-- an element of a list whose numbers rise by one stands where its number says
pub stands_at : {X : Type 0} (key : X → ℕ) (first : ℕ) (xs : List X) → RiseFrom first (map key xs) → (i : ℕ) (d : X) → i < length xs → key (get_or xs i d) ≡ first + i
stands_at key first [] rise i d within = absurd (omega (arith, within))
stands_at key first (x ∷ xs) rise zero d within = omega (arith, rise.0)
stands_at key first (x ∷ xs) rise (suc i) d within = let rest = stands_at key (suc first) xs rise.1 i d (omega (arith, within)) in omega (arith, rest)

-- lists whose elements each stand in the other where its number says, and whose numbers are the same, are one
same_elements : {X : Type 0} (key : X → ℕ) (find : ℕ → X) (xs ys : List X) → map key xs ≡ map key ys →
    All (λ x. find (key x) ≡ x) xs → All (λ y. find (key y) ≡ y) ys → xs ≡ ys
same_elements {X} key find xs ys same here there = sym (found xs here) ∙ ap (map find) same ∙ found ys there
  where
    found : (zs : List X) → All (λ z. find (key z) ≡ z) zs → map find (map key zs) ≡ zs
    found [] at = refl
    found (z ∷ zs) at = (λ i. at 0 z (omega arith) i ∷ found zs (λ k d within. at (suc k) d (omega (arith, within))) i)

keys_in_order : {X : Type 0} (key : X → ℕ) (xs : List X) → IsNonDecreasingBy key xs → IsNonDecreasingBy (λ n. n) (map key xs)
keys_in_order key [] order i j d below within = absurd (omega (arith, within))
keys_in_order key (x ∷ xs) order i j d below within =
    let long = length-map (x ∷ xs) key in
    let inside : j < length (x ∷ xs) = omega (arith, long, within) in
    let at = order i j x below inside in
    let left = get_or-map key (x ∷ xs) i x d (omega (arith, below, inside)) in
    let right = get_or-map key (x ∷ xs) j x d inside in
    omega (arith, at, left, right)

none : {X : Type 0} (xs : List X) → IsPermutation xs [] → xs ≡ []
none [] moved = refl
none {X} (x ∷ xs) moved =
    let one = sum_by-cons (λ (z : X). 1) x xs in
    let both = sum_by-IsPermutation (λ (z : X). 1) (x ∷ xs) [] moved in
    absurd (omega (arith, one, both))

-- a list that is sorted by numbers is this one of the same elements, whose numbers rise by one
pub sorted_is : {X : Type 0} (key : X → ℕ) (first : ℕ) (xs ys : List X) → RiseFrom first (map key ys) → IsSortedByKey key nat_cmp xs → IsPermutation xs ys → xs ≡ ys
sorted_is key first xs [] rise order moved = none xs moved
sorted_is key first xs (y ∷ ys) rise order moved =
    same_elements key (λ n. get_or (y ∷ ys) (n - first) y) xs (y ∷ ys)
    (same_numbers first (map key xs) (map key (y ∷ ys)) rise
    (keys_in_order key xs (IsNonDecreasingBy-from_sort key xs order))
    (λ f. sym (sum_by-IsPermutation f (map key xs) (map key (y ∷ ys)) (IsPermutation-map key xs (y ∷ ys) moved))))
    (All-permutation (λ x. get_or (y ∷ ys) (key x - first) y ≡ x) (y ∷ ys) xs (IsPermutation-sym xs (y ∷ ys) moved) there)
    there
  where
    there : All (λ x. get_or (y ∷ ys) (key x - first) y ≡ x) (y ∷ ys)
    there i d within =
        let at = stands_at key first (y ∷ ys) rise i d within in
        let place : key (get_or (y ∷ ys) i d) - first ≡ i = omega (arith, at) in
        rw place (get_or_default (y ∷ ys) i y d within)
