use Rattle.std.proofs.Common.{arith}
use Rattle.exec_plan.specs.Graph.{has_kind}
use Rattle.exec_world.proofs.Wired.{next_made}
use Rattle.exec_world.specs.inner.Parts.{new_queue_of}
use Rattle.exec_world.proofs.first_world.declare_all.Goals as goal

pub loop-number-preserved : goal.loop-number-preserved
loop-number-preserved c =
    next_made (new_queue_of c.args.order c.args.graph.now c.args.kind) (has_kind c.args.kind) c.args.graph.now c.loop-number.number c.loop-number.queues _ _ (omega arith) c.in_ok-declare_queue.ensures
    c.loop-number.invariant
