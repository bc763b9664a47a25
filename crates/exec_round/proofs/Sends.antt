-- What was sent on is committed.
use Rattle.std.proofs.Common.{◌≡◌, ℕ, ◌+◌, ◌-◌, ◌<◌, ◌≤◌, List, [], ◌∷◌, ◌++◌, get_or, length, map, refl, sym, ap, subst, ◌∙◌, arith, All, IsPermutation}
use Rattle.std.specs.List.{Contains, flat_map}
use Rattle.std.proofs.lemmas.List.{get_or-map, get_or_default, length-map, map-append}
use Rattle.std.proofs.lemmas.List.Concat.{flat_map-cons}
use Rattle.std.proofs.lemmas.List.Elements.{All-cons, All-nil, Contains-get_or}
use Rattle.std.proofs.lemmas.List.Sorted.{All-permutation, Contains-permutation, IsPermutation-map, IsPermutation-sym, IsPermutation-trans}
use Rattle.exec_lane.specs.Gather.{AreGathered, Ran, all_ran, outcome_of, outcomes_in, ran_in}
use Rattle.exec_lane.specs.Lane.{Lane, lanes_of, opened, opened_lanes}
use Rattle.exec_lane.specs.declared.outcome.Outcome.{Outcome}
use Rattle.exec_lane.specs.inner.Spots.{no_ran, ran_at}
use Rattle.exec_round.proofs.InOrder.{stands_at}
use Rattle.exec_round.proofs.Rounding.{gathered_is, places_kept, ready_rise}
use Rattle.exec_round.specs.inner.Commits.{RiseFrom}
use Rattle.exec_stream.specs.Sent.{AreFound, IsAmong, no_outcome, outcome_at}
use Rattle.exec_stream.specs.Streams.{AreUnrun}
use Rattle.exec_rules.specs.Calls.{WorldData, ready_in}
use Rattle.exec_rules.specs.Run.{all_apart}
use Rattle.exec_rules.specs.World.{WorldState}
use Rattle.exec_rules.specs.declared.ready.Ready.{Ready}

-- ---- all of them

outcomes_of_all : (lanes : List Lane) → flat_map outcomes_in lanes ≡ map outcome_of (flat_map ran_in lanes)
outcomes_of_all [] = refl
outcomes_of_all (lane ∷ lanes) =
    flat_map-cons outcomes_in lane lanes
    ∙ ap (λ (outcomes : List Outcome). outcomes_in lane ++ outcomes) (outcomes_of_all lanes)
    ∙ sym (map-append outcome_of (ran_in lane) (flat_map ran_in lanes))
    ∙ ap (map outcome_of) (sym (flat_map-cons ran_in lane lanes))

same_places : (all : List Ran) → map (λ (outcome : Outcome). outcome.position) (map outcome_of all) ≡ map (λ (one : Ran). one.ready.position) all
same_places [] = refl
same_places (one ∷ all) = ap (λ places. one.ready.position ∷ places) (same_places all)

-- the positions of gathered callbacks rise by one
pub order_is : (number : ℕ) (world : WorldData) (list : List Ready) (state : WorldState) (ran all : List Ran) → list ≡ ready_in number world → AreGathered ran all →
    IsPermutation ran (all_ran list (all_apart list state)) → RiseFrom 1 (map (λ (one : Ran). one.ready.position) all)
order_is number world list state ran all is gathered did =
    subst (λ places. RiseFrom 1 places)
    (sym (ap (map (λ (one : Ran). one.ready.position)) (gathered_is number world list state ran all is gathered did) ∙ places_kept list state ∙ ap (map (λ (one : Ready). one.position)) is)) (ready_rise number world)

-- and what was sent on is what they did
pub sent_is : (lanes : List Lane) (all : List Ran) (outcomes : List Outcome) → AreGathered (flat_map ran_in lanes) all → IsPermutation (flat_map outcomes_in lanes) outcomes → IsPermutation (map outcome_of all) outcomes
sent_is lanes all outcomes gathered sent =
    IsPermutation-trans (map outcome_of all) (map outcome_of (flat_map ran_in lanes)) outcomes
    (IsPermutation-sym (map outcome_of (flat_map ran_in lanes)) (map outcome_of all) (IsPermutation-map outcome_of (flat_map ran_in lanes) all gathered.same))
    (subst (λ (some : List Outcome). IsPermutation some outcomes) (outcomes_of_all lanes) sent)

-- ---- one by its position

rises : (all : List Ran) → RiseFrom 1 (map (λ (one : Ran). one.ready.position) all) → RiseFrom 1 (map (λ (outcome : Outcome). outcome.position) (map outcome_of all))
rises all rise = subst (λ places. RiseFrom 1 places) (sym (same_places all)) rise

-- each outcome is that of the callback at its position
each_is : (all : List Ran) (outcomes : List Outcome) → RiseFrom 1 (map (λ (one : Ran). one.ready.position) all) → IsPermutation (map outcome_of all) outcomes →
    All (λ (outcome : Outcome). outcome_at (map outcome_of all) (outcome.position - 1) ≡ outcome) outcomes
each_is all outcomes rise sent = All-permutation (λ (outcome : Outcome). outcome_at (map outcome_of all) (outcome.position - 1) ≡ outcome) (map outcome_of all) outcomes sent there
  where
    there : All (λ (outcome : Outcome). outcome_at (map outcome_of all) (outcome.position - 1) ≡ outcome) (map outcome_of all)
    there i d within =
        let at = stands_at (λ (outcome : Outcome). outcome.position) 1 (map outcome_of all) (rises all rise) i d within in
        let place : (get_or (map outcome_of all) i d).position - 1 ≡ i = omega (arith, at) in
        ap (outcome_at (map outcome_of all)) place ∙ get_or_default (map outcome_of all) i no_outcome d within

-- and is of one of them
pub each_among : (all : List Ran) (outcomes : List Outcome) → RiseFrom 1 (map (λ (one : Ran). one.ready.position) all) → IsPermutation (map outcome_of all) outcomes → All (IsAmong (length all)) outcomes
each_among all outcomes rise sent = All-permutation (IsAmong (length all)) (map outcome_of all) outcomes sent there
  where
    there : All (IsAmong (length all)) (map outcome_of all)
    there i d within =
        let at = stands_at (λ (outcome : Outcome). outcome.position) 1 (map outcome_of all) (rises all rise) i d within in
        let many = length-map all outcome_of in
        (omega (arith, at), omega (arith, at, within, many))

-- the outcome at the place that is found for a callback's position
pub record IsItsOutcome (all : List Ran) (outcomes : List Outcome) (place : ℕ) (here : ℕ) : Type 0 where
  pub there : here < length outcomes
  pub same : outcome_at outcomes here ≡ outcome_of (ran_at all place)

pub found_is : (all : List Ran) (outcomes : List Outcome) (places : List ℕ) (place : ℕ) → RiseFrom 1 (map (λ (one : Ran). one.ready.position) all) → IsPermutation (map outcome_of all) outcomes →
    AreFound outcomes (length outcomes) places → place < length all → IsItsOutcome all outcomes place (get_or places place 0)
found_is all outcomes places place rise sent found within =
    let many = length-map all outcome_of in
    let inside : place < length (map outcome_of all) = omega (arith, within, many) in
    let one : Outcome = outcome_at (map outcome_of all) place in
    let at : one.position ≡ 1 + place = stands_at (λ (outcome : Outcome). outcome.position) 1 (map outcome_of all) (rises all rise) place no_outcome inside in
    let has : Contains outcomes one = Contains-permutation (map outcome_of all) outcomes one sent (Contains-get_or (map outcome_of all) place no_outcome inside) in
    let is : outcome_at outcomes has.0 ≡ one = get_or_default outcomes has.0 no_outcome one has.1 ∙ has.2 in
    let position : (outcome_at outcomes has.0).position ≡ 1 + place = ap (λ (outcome : Outcome). outcome.position) is ∙ at in
    let index : (outcome_at outcomes has.0).position - 1 ≡ place = omega (arith, position) in
    let here = found has.0 has.1 in
    let inner : get_or places ((outcome_at outcomes has.0).position - 1) 0 ≡ get_or places place 0 = ap (λ (i : ℕ). get_or places i 0) index in
    let there : get_or places place 0 < length outcomes = subst (λ (i : ℕ). i < length outcomes) inner here.there in
    let same : (outcome_at outcomes (get_or places place 0)).position ≡ 1 + place =
    ap (λ (i : ℕ). (outcome_at outcomes i).position) (sym inner) ∙ here.same ∙ position in
    let back : (outcome_at outcomes (get_or places place 0)).position - 1 ≡ place = omega (arith, same) in
    record {
      there = there;
      same = sym (each_is all outcomes rise sent (get_or places place 0) no_outcome there)
          ∙ ap (outcome_at (map outcome_of all)) back
          ∙ get_or-map outcome_of all place no_ran no_outcome within;
    }

-- no callback of lanes that were opened ran
pub none_ran : (list : List Ready) (world : WorldState) → AreUnrun (opened_lanes list world)
none_ran list world = each (lanes_of list)
  where
    each : (some : List (List Ready)) → AreUnrun (map (opened world) some)
    each [] = All-nil (λ (lane : Lane). lane.done ≡ 0)
    each (lane ∷ others) = All-cons (λ (one : Lane). one.done ≡ 0) (opened world lane) (map (opened world) others) refl (each others)
