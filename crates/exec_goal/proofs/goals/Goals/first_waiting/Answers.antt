use Rattle.std.proofs.Common.{◌∙◌, ◌<◌, ℕ, length, ap, sym, subst, arith}
use Rattle.std.proofs.lemmas.List.{get_or_default}
use Rattle.exec_goal.proofs.Looping.{told-at}
use Rattle.exec_goal.proofs.Searching.{before-next}
use Rattle.exec_goal.proofs.Tallying.{before-within}
use Rattle.exec_goal.specs.State.{is_accepted}
use Rattle.exec_goal.specs.Table.{GoalRecord}
use Rattle.exec_goal.specs.declared.info.GoalInfo.{GoalInfo}
use Rattle.exec_goal.specs.inner.Tally.{NoneBefore}
use Rattle.exec_goal.proofs.goals.Goals.first_waiting.Goals as goal

pub loop-place-preserved : goal.loop-place-preserved
loop-place-preserved c =
    let goals = c.args.self.now in
    let place = c.loop-place.place in
    let within : place < length goals = omega (arith, c.loop-place-test.true, c.len-place-end.ensures.count) in
    let at = told-at goals place c.at.result c.at.ensures in
    before-next is_accepted place goals within
    (λ d. ap (λ (goal : GoalRecord). is_accepted goal.state) (get_or_default goals place d at.0 within ∙ at.2)
    ∙ ap (λ (info : GoalInfo). is_accepted info.state) (sym at.1) ∙ sym c.is_accepted.ensures ∙ c.if-is_accepted.false)
    c.loop-place.invariant

pub returns-clause-before : goal.returns-clause-before
returns-clause-before c =
    let goals = c.args.self.now in
    subst (λ (place : ℕ). NoneBefore is_accepted place goals)
    (omega (arith, c.loop-place-test.false, c.len-place-end.ensures.count, c.len.ensures.count, before-within is_accepted c.loop-place.place goals c.loop-place.invariant)) c.loop-place.invariant
