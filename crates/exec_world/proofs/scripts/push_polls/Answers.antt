use Rattle.std.proofs.Common.{◌+◌, [], ◌∷◌, ◌++◌, length, Some, ◌∙◌}
use Rattle.exec_world.proofs.Arranged.{behind_next}
use Rattle.exec_world.specs.inner.Snapshots.{scripted_poll}
use Rattle.exec_world.proofs.scripts.push_polls.Goals as goal

pub loop-goal-preserved : goal.loop-goal-preserved
loop-goal-preserved c =
    c.in_ok-push.ensures.items
    ∙ (λ i. c.loop-goal.all.items ++ record (c.poll_at.ensures i) { position = length (c.as_slice.ensures.value i) + 1; script = Some ((c.in_ok-script.ensures ∙ c.script.ensures) i) } ∷ [])
    ∙ behind_next (scripted_poll c.args.graph.now c.args.moment) c.args.goals.now c.loop-goal.goal-index c.goal-item.result c.args.all.now.items c.loop-goal.all.items c.loop-goal-test.true c.goal-item.is c.loop-goal.invariant
