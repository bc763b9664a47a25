use Rattle.exec_world.proofs.Wired.{next_kind}
use Rattle.exec_world.proofs.first_world.new_queues.Goals as goal

pub loop-kind-preserved : goal.loop-kind-preserved
loop-kind-preserved c =
    next_kind c.args.order c.args.graph.now _ c.loop-kind.kind-index _ c.loop-kind.queues _ _ c.loop-kind-test.true c.in_ok-declare_kind.ensures c.loop-kind.invariant
