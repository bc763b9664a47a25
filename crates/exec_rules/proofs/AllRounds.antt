-- Rounds one after another.
use Rattle.std.proofs.Common.{◌≡◌, ℕ, zero, suc, false, ◌+◌, ◌-◌, ◌<◌, List, [], ◌∷◌, length, take, slice_index_or, sym, ap, add-one, ◌∙◌, arith}
use Rattle.std.proofs.lemmas.List.{take_all}
use Rattle.exec_plan.specs.Plan.{PlanData}
use Rattle.exec_rules.specs.Calls.{after_finish, after_round, world_after}
use Rattle.exec_rules.specs.Transcript.{finish, first_world, lines_of, round, rounds}
use Rattle.exec_msg.specs.Numbers.{Moment}
use Rattle.exec_rules.specs.World.{WorldState}

one_more : (plan : PlanData) (number : ℕ) (moments : List Moment) (count : ℕ) (world : WorldState) → count < length moments →
    rounds plan number (take (suc count) moments) world ≡ round plan (number + count) (slice_index_or moments count 0) (rounds plan number (take count moments) world)
one_more plan number [] count world within = absurd (omega (arith, within))
one_more plan number (moment ∷ moments) zero world within = ap (λ (n : ℕ). round plan n moment world) (omega arith)
one_more plan number (moment ∷ moments) (suc count) world within =
    one_more plan (suc number) moments count (round plan number moment world) (omega (arith, within))
    ∙ ap (λ (n : ℕ). round plan n (slice_index_or moments count 0) (rounds plan (suc number) (take count moments) (round plan number moment world))) (omega arith)

-- a world after one round more
pub next_round : (plan : PlanData) (count : ℕ) → count < length plan.moments → after_round (count + 1) (world_after count plan) ≡ world_after (count + 1) plan
next_round plan count within =
    let first = first_world plan in
    let before = rounds plan 1 (take count plan.moments) first in
    let here : count + 1 ≡ suc count = add-one count in
    let at : (count + 1) - 1 ≡ count = omega arith in
    let from : count + 1 ≡ 1 + count = omega arith in
    let state : round plan (count + 1) (slice_index_or plan.moments ((count + 1) - 1) 0) before ≡ rounds plan 1 (take (count + 1) plan.moments) first =
    (λ i. round plan (from i) (slice_index_or plan.moments (at i) 0) before)
    ∙ sym (one_more plan 1 plan.moments count first within)
    ∙ ap (λ (n : ℕ). rounds plan 1 (take n plan.moments) first) (sym here) in
    (λ i. record { plan = plan; state = state i; rounds = sym here i; uncommitted = 0; failed = false })

-- after all rounds its lines, closed, are the plan's
pub closed_lines : (plan : PlanData) → (after_finish (world_after (length plan.moments) plan)).state.lines ≡ lines_of plan
closed_lines plan = ap (λ (moments : List Moment). (finish (length plan.moments) (rounds plan 1 moments (first_world plan))).lines) (take_all (length plan.moments) plan.moments (omega arith))
