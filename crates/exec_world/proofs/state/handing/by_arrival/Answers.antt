use Rattle.exec_world.proofs.Arranged.{next_there}
use Rattle.exec_world.specs.inner.Snapshots.{with_polls}
use Rattle.exec_world.proofs.state.handing.by_arrival.Goals as goal

pub loop-arrived-preserved : goal.loop-arrived-preserved
loop-arrived-preserved c =
    next_there (with_polls c.args.round.now.graph.now c.args.round.now.moment c.args.scratch.now.list c.args.scratch.now.goals.items) c.deref-arrived-items.result.now c.loop-arrived.arrived-index c.loop-arrived.all.items c.push_at.new.all.items
    c.loop-arrived-test.true c.loop-arrived.invariant c.in_ok-push_at.ensures
