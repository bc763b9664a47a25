-- The callbacks that ran are found where they are.
use Rattle.std.proofs.Common.{◌≡◌, ℕ, suc, ◌+◌, ◌<◌, List, [], ◌∷◌, ◌++◌, append_assoc, length, map, slice_index_or, refl, sym, ap, subst, ◌∙◌, arith}
use Rattle.std.specs.List.{All, AllByRecursion, flat_map}
use Rattle.std.specs.List.Sorted.{IsPermutation, IsSortedByKey}
use Rattle.std.specs.Ordering.{is_lt, nat_cmp}
use Rattle.std.proofs.lemmas.List.{get_or-map, length-append, length-map, map-append}
use Rattle.std.proofs.lemmas.List.Concat.{flat_map-cons}
use Rattle.std.proofs.lemmas.List.Elements.{All-from_recursion, All-head, All-tail}
use Rattle.std.proofs.lemmas.List.Sorted.{All-permutation, IsPermutation-map}
use Rattle.exec_lane.specs.Gather.{AreGathered, Ran}
use Rattle.exec_lane.specs.declared.gathering.Spot.{Spot}
use Rattle.exec_lane.specs.inner.Spots.{IsSpotOf, all_spots, no_ran, ran_at, spot_ran, spots_from}

at_end : {A : Type 0} (front : List A) (x : A) (rest : List A) (d : A) → slice_index_or (front ++ x ∷ rest) (length front) d ≡ x
at_end [] x rest d = refl
at_end (y ∷ front) x rest d = at_end front x rest d

-- the callbacks of a lane, from one of them on
spots_of_lane : (lanes : List (List Ran)) (number : ℕ) (front rest : List Ran) → number < length lanes → slice_index_or lanes number [] ≡ front ++ rest →
    AllByRecursion (IsSpotOf lanes) (spots_from number (length front) rest)
spots_of_lane lanes number front [] there is = tt
spots_of_lane lanes number front (one ∷ rest) there is =
    let long = length-append front (one ∷ rest) in
    let same : length (slice_index_or lanes number []) ≡ length (front ++ one ∷ rest) = ap (λ (lane : List Ran). length lane) is in
    let here : ran_at (slice_index_or lanes number []) (length front) ≡ one = ap (λ (lane : List Ran). ran_at lane (length front)) is ∙ at_end front one rest no_ran in
    let more : length (front ++ one ∷ []) ≡ suc (length front) = (let e = length-append front (one ∷ []) in omega (arith, e)) in (
      record {
        lane = there;
        index = omega (arith, long, same);
        position = ap (λ (ran : Ran). ran.ready.position) here;
      },
      subst (λ (index : ℕ). AllByRecursion (IsSpotOf lanes) (spots_from number index rest)) more
          (spots_of_lane lanes number (front ++ one ∷ []) rest there (is ∙ sym (append_assoc front (one ∷ []) rest))),
    )

ran_in_lane : (lanes : List (List Ran)) (number : ℕ) (front rest : List Ran) → slice_index_or lanes number [] ≡ front ++ rest →
    map (spot_ran lanes) (spots_from number (length front) rest) ≡ rest
ran_in_lane lanes number front [] is = refl
ran_in_lane lanes number front (one ∷ rest) is =
    let here : ran_at (slice_index_or lanes number []) (length front) ≡ one = ap (λ (lane : List Ran). ran_at lane (length front)) is ∙ at_end front one rest no_ran in
    let more : length (front ++ one ∷ []) ≡ suc (length front) = (let e = length-append front (one ∷ []) in omega (arith, e)) in
    (λ i. here i ∷ map (spot_ran lanes) (spots_from number (sym more i) rest))
    ∙ ap (λ (others : List Ran). one ∷ others) (ran_in_lane lanes number (front ++ one ∷ []) rest (is ∙ sym (append_assoc front (one ∷ []) rest)))

all_append : {A : Type 0} (P : A → Type 0) (xs ys : List A) → AllByRecursion P xs → AllByRecursion P ys → AllByRecursion P (xs ++ ys)
all_append P [] ys some others = others
all_append P (x ∷ xs) ys some others = (some.0, all_append P xs ys some.1 others)

-- ---- all lanes, from one of them on

lane_there : (lanes front : List (List Ran)) (lane : List Ran) (rest : List (List Ran)) → lanes ≡ front ++ lane ∷ rest → slice_index_or lanes (length front) [] ≡ lane
lane_there lanes front lane rest is = ap (λ (some : List (List Ran)). slice_index_or some (length front) []) is ∙ at_end front lane rest []

within : (lanes front : List (List Ran)) (lane : List Ran) (rest : List (List Ran)) → lanes ≡ front ++ lane ∷ rest → length front < length lanes
within lanes front lane rest is =
    let same = ap (λ (some : List (List Ran)). length some) is in
    let long = length-append front (lane ∷ rest) in
    omega (arith, same, long)

next_lane : (lanes front : List (List Ran)) (lane : List Ran) (rest : List (List Ran)) → lanes ≡ front ++ lane ∷ rest → lanes ≡ (front ++ lane ∷ []) ++ rest
next_lane lanes front lane rest is = is ∙ sym (append_assoc front (lane ∷ []) rest)

one_longer : (front : List (List Ran)) (lane : List Ran) → length (front ++ lane ∷ []) ≡ suc (length front)
one_longer front lane = let e = length-append front (lane ∷ []) in omega (arith, e)

spots_there : (lanes front rest : List (List Ran)) → lanes ≡ front ++ rest → AllByRecursion (IsSpotOf lanes) (all_spots (length front) rest)
spots_there lanes front [] is = tt
spots_there lanes front (lane ∷ rest) is =
    all_append (IsSpotOf lanes) (spots_from (length front) 0 lane) (all_spots (suc (length front)) rest)
    (spots_of_lane lanes (length front) [] lane (within lanes front lane rest is) (lane_there lanes front lane rest is))
    (subst (λ (number : ℕ). AllByRecursion (IsSpotOf lanes) (all_spots number rest)) (one_longer front lane) (spots_there lanes (front ++ lane ∷ []) rest (next_lane lanes front lane rest is)))

ran_there : (lanes front rest : List (List Ran)) → lanes ≡ front ++ rest → map (spot_ran lanes) (all_spots (length front) rest) ≡ flat_map (λ lane. lane) rest
ran_there lanes front [] is = refl
ran_there lanes front (lane ∷ rest) is =
    map-append (spot_ran lanes) (spots_from (length front) 0 lane) (all_spots (suc (length front)) rest)
    ∙ ap (λ (some : List Ran). some ++ map (spot_ran lanes) (all_spots (suc (length front)) rest)) (ran_in_lane lanes (length front) [] lane (lane_there lanes front lane rest is))
    ∙ ap (λ (number : ℕ). lane ++ map (spot_ran lanes) (all_spots number rest)) (sym (one_longer front lane))
    ∙ ap (λ (others : List Ran). lane ++ others) (ran_there lanes (front ++ lane ∷ []) rest (next_lane lanes front lane rest is))
    ∙ sym (flat_map-cons (λ (some : List Ran). some) lane rest)

-- each callback that ran is found once
pub are_there : (lanes : List (List Ran)) → AllByRecursion (IsSpotOf lanes) (all_spots 0 lanes)
are_there lanes = spots_there lanes [] lanes refl

pub all_there : (lanes : List (List Ran)) → map (spot_ran lanes) (all_spots 0 lanes) ≡ flat_map (λ lane. lane) lanes
all_there lanes = ran_there lanes [] lanes refl

-- ---- in ready order

by_recursion : {A : Type 0} (P : A → Type 0) (xs : List A) → All P xs → AllByRecursion P xs
by_recursion P [] all = tt
by_recursion P (x ∷ xs) all = (All-head P x xs all, by_recursion P xs (All-tail P x xs all))

-- spots that are sorted are those of callbacks
pub stay_there : (lanes : List (List Ran)) (spots sorted : List Spot) → IsPermutation spots sorted → AllByRecursion (IsSpotOf lanes) spots → AllByRecursion (IsSpotOf lanes) sorted
stay_there lanes spots sorted same all =
    by_recursion (IsSpotOf lanes) sorted (All-permutation (IsSpotOf lanes) spots sorted same (All-from_recursion (IsSpotOf lanes) spots all))

no_spot : Spot
no_spot = record { position = 0; lane = 0; index = 0 }

sorted_ran : (lanes : List (List Ran)) (spots : List Spot) → All (IsSpotOf lanes) spots → IsSortedByKey (λ (spot : Spot). spot.position) nat_cmp spots →
    IsSortedByKey (λ (one : Ran). one.ready.position) nat_cmp (map (spot_ran lanes) spots)
sorted_ran lanes spots all sorted k d low within =
    let many = length-map spots (spot_ran lanes) in
    let more : k + 1 < length spots = omega (arith, within, many) in
    let less : k < length spots = omega (arith, more) in
    let next = ap (λ (one : Ran). one.ready.position) (get_or-map (spot_ran lanes) spots (k + 1) no_spot d more) ∙ (all (k + 1) no_spot more).position in
    let here = ap (λ (one : Ran). one.ready.position) (get_or-map (spot_ran lanes) spots k no_spot d less) ∙ (all k no_spot less).position in
    (λ i. is_lt (nat_cmp (next i) (here i))) ∙ sorted k no_spot low more

-- the callbacks at sorted spots are gathered
pub gathered : (lanes : List (List Ran)) (ran : List Ran) (spots sorted : List Spot) → flat_map (λ lane. lane) lanes ≡ ran → spots ≡ all_spots 0 lanes → IsPermutation spots sorted →
    IsSortedByKey (λ (spot : Spot). spot.position) nat_cmp sorted → AreGathered ran (map (spot_ran lanes) sorted)
gathered lanes ran spots sorted are all same ordered = record {
  same = subst (λ (some : List Ran). IsPermutation some (map (spot_ran lanes) sorted)) (ap (map (spot_ran lanes)) all ∙ all_there lanes ∙ are)
      (IsPermutation-map (spot_ran lanes) spots sorted same);
  ordered = sorted_ran lanes sorted
      (All-permutation (IsSpotOf lanes) spots sorted same (All-from_recursion (IsSpotOf lanes) spots (subst (AllByRecursion (IsSpotOf lanes)) (sym all) (are_there lanes))))
      ordered;
}

-- all lanes' callbacks, one after another
pub flat_is : {A B : Type 0} (f : A → List B) (xs : List A) (lists : List (List B)) → lists ≡ map f xs → flat_map (λ list. list) lists ≡ flat_map f xs
flat_is {A} {B} f xs lists is = ap (flat_map (λ (list : List B). list)) is ∙ each xs
  where
    each : (xs : List A) → flat_map (λ (list : List B). list) (map f xs) ≡ flat_map f xs
    each [] = refl
    each (x ∷ xs) = flat_map-cons (λ (list : List B). list) (f x) (map f xs) ∙ ap (λ (rest : List B). f x ++ rest) (each xs) ∙ sym (flat_map-cons f x xs)
