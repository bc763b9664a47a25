use Rattle.std.proofs.Common.{◌∙◌, ◌<◌, ap, pos, length, arith, add-one, List, slice_set, slice_index_or}
use Rattle.exec_goal.proofs.Looping.{length-mapped_upto, next_mapped, all_mapped}
use Rattle.exec_goal.specs.inner.Ids.{is_among}
use Rattle.exec_goal.specs.Cancel.{after_answer_by}
use Rattle.exec_goal.specs.Table.{GoalRecord, new_goal}
use Rattle.exec_msg.specs.declared.goal.Acceptance.TheVariants as acceptance
use Rattle.exec_goal.proofs.goals.Goals.cancel.Goals as goal

pub cancel_at-requires : goal.cancel_at-requires
cancel_at-requires c =
    omega (arith, c.loop-index-test.true, c.len-index-end.ensures.count, ap length c.loop-index.invariant, length-mapped_upto (after_answer_by (is_among c.args.accepted.now)) c.loop-index.index c.args.self.now)

pub loop-index-preserved : goal.loop-index-preserved
loop-index-preserved c =
    let answered = after_answer_by (is_among c.args.accepted.now) in
    let within : c.loop-index.index < length c.args.self.now = omega (arith, c.loop-index-test.true, c.len-index-end.ensures.count) in
    let d = new_goal 0 (pos 0) 0 acceptance.Defer in
    rw add-one (c.cancel_at.ensures d
    ∙ ap (λ (goals : List GoalRecord). slice_set goals c.loop-index.index (answered (slice_index_or goals c.loop-index.index d))) c.loop-index.invariant
    ∙ next_mapped answered c.loop-index.index c.args.self.now d within)

pub returns : goal.returns
returns c =
    c.loop-index.invariant ∙ all_mapped (after_answer_by (is_among c.args.accepted.now)) c.loop-index.index c.args.self.now (omega (arith, c.loop-index-test.false, c.len-index-end.ensures.count))
