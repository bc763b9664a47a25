-- What the callbacks of a lane did, one by one.
use Rattle.std.proofs.Common.{◌≡◌, ℕ, zero, suc, ◌+◌, ◌-◌, ◌≤◌, List, [], ◌∷◌, ◌++◌, append-nil, append_assoc, drop, length, map, take, Some, sym, ap, ◌∙◌, arith}
use Rattle.std.specs.List.{fold, slice_get}
use Rattle.std.proofs.Math.Seq.{take-add}
use Rattle.std.proofs.lemmas.List.{length-map, length_push}
use Rattle.std.proofs.lemmas.List.Sums.{fold-append}
use Rattle.exec_lane.specs.Gather.{outcome_of, outcomes_in, ran_each, ran_in}
use Rattle.exec_lane.specs.Lane.{Lane, LaneCallback, LaneState, LeftByCallback, lane_at, left_by_callback, run_entry, state_of}
use Rattle.exec_lane.specs.declared.outcome.Outcome.{Outcome}
use Rattle.exec_rules.specs.Run.{apart_with}
use Rattle.exec_script.specs.Script.{Variables}

-- as many callbacks left something as ran
left_so_many : (state : LaneState) (n : ℕ) (entries : List LaneCallback) → n ≤ length entries → length (fold run_entry state (take n entries)).left ≡ length state.left + n
left_so_many state zero entries within = omega arith
left_so_many state (suc n) [] within = absurd (omega (arith, within))
left_so_many state (suc n) (entry ∷ entries) within =
    let rest = left_so_many (run_entry state entry) n entries (omega (arith, within)) in
    let one = length_push state.left (left_by_callback entry.work (apart_with entry.ready entry.work state.variables)) in
    omega (arith, rest, one)

-- callbacks add to what a lane left
adds : (state : LaneState) (entries : List LaneCallback) → (more : List LeftByCallback) × ((fold run_entry state entries).left ≡ state.left ++ more)
adds state [] = ([], sym (append-nil state.left))
adds state (entry ∷ entries) =
    let did : LeftByCallback = left_by_callback entry.work (apart_with entry.ready entry.work state.variables) in
    let rest = adds (run_entry state entry) entries in
    (did ∷ rest.0, rest.1 ∙ append_assoc state.left (did ∷ []) rest.0)

goes_on : (variables : Variables) (entries : List LaneCallback) (n m : ℕ) → n ≤ m → (more : List LeftByCallback) × ((lane_at variables entries m).left ≡ (lane_at variables entries n).left ++ more)
goes_on variables entries n m le =
    let first : LaneState = record { variables = variables; left = [] } in
    let rest = adds (lane_at variables entries n) (take (m - n) (drop n entries)) in
    let same : n + (m - n) ≡ m = omega (arith, le) in (
      rest.0,
      ap (λ (count : ℕ). (lane_at variables entries count).left) (sym same)
          ∙ ap (λ (some : List LaneCallback). (fold run_entry first some).left) (take-add n (m - n) entries)
          ∙ ap (λ (state : LaneState). state.left) (fold-append run_entry first (take n entries) (take (m - n) (drop n entries)))
          ∙ rest.1,
    )

ran_more : (entries : List LaneCallback) (done more : List LeftByCallback) (i : ℕ) (outcome : Outcome) → slice_get (map outcome_of (ran_each entries done)) i ≡ Some outcome →
    slice_get (map outcome_of (ran_each entries (done ++ more))) i ≡ Some outcome
ran_more [] done more i outcome is = absurd cc
ran_more (entry ∷ entries) [] more i outcome is = absurd cc
ran_more (entry ∷ entries) (did ∷ done) more zero outcome is = is
ran_more (entry ∷ entries) (did ∷ done) more (suc i) outcome is = ran_more entries done more i outcome is

-- what a callback did stays so as the lane goes on
pub stays : (lane : Lane) (count i : ℕ) (outcome : Outcome) → lane.done ≤ count → slice_get (outcomes_in lane) i ≡ Some outcome → slice_get (outcomes_in (record lane { done = count })) i ≡ Some outcome
stays lane count i outcome le is =
    let on = goes_on lane.variables lane.entries lane.done count le in
    ap (λ (done : List LeftByCallback). slice_get (map outcome_of (ran_each lane.entries done)) i) on.1
    ∙ ran_more lane.entries (state_of lane).left on.0 i outcome is

ran_so_many : (entries : List LaneCallback) (done : List LeftByCallback) → length done ≤ length entries → length (ran_each entries done) ≡ length done
ran_so_many [] [] fits = omega arith
ran_so_many [] (did ∷ done) fits = absurd (omega (arith, fits))
ran_so_many (entry ∷ entries) [] fits = omega arith
ran_so_many (entry ∷ entries) (did ∷ done) fits = ap suc (ran_so_many entries done (omega (arith, fits)))

-- each callback that ran did something
pub each_did : (lane : Lane) → lane.done ≤ length lane.entries → length (outcomes_in lane) ≡ lane.done
each_did lane within =
    let left = left_so_many (record { variables = lane.variables; left = [] }) lane.done lane.entries within in
    let same : length (state_of lane).left ≡ lane.done = omega (arith, left) in
    length-map (ran_in lane) outcome_of ∙ ran_so_many lane.entries (state_of lane).left (omega (arith, same, within)) ∙ same
