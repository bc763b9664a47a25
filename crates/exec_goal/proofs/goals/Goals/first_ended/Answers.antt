use Rattle.std.proofs.Common.{◌∙◌, ◌<◌, ℕ, length, sym, subst, arith}
use Rattle.exec_goal.proofs.Searching.{before-next}
use Rattle.exec_goal.proofs.Tallying.{before-within}
use Rattle.exec_goal.specs.State.{is_terminal}
use Rattle.exec_goal.specs.inner.Tally.{NoneBefore}
use Rattle.exec_goal.proofs.goals.Goals.first_ended.Goals as goal

pub loop-place-preserved : goal.loop-place-preserved
loop-place-preserved c =
    let goals = c.args.self.now in
    let within : c.loop-place.place < length goals = omega (arith, c.loop-place-test.true, c.len-place-end.ensures.count) in
    before-next is_terminal c.loop-place.place goals within (λ d. sym (c.has_ended_at.ensures d) ∙ c.if-has_ended_at.false) c.loop-place.invariant

pub returns : goal.returns
returns c =
    let goals = c.args.self.now in
    subst (λ (place : ℕ). NoneBefore is_terminal place goals)
    (omega (arith, c.loop-place-test.false, c.len-place-end.ensures.count, c.len.ensures.count, before-within is_terminal c.loop-place.place goals c.loop-place.invariant)) c.loop-place.invariant
