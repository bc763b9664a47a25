use Rattle.exec_rules.proofs.Listing.{listed_next}
use Rattle.exec_world.specs.inner.Snapshots.{front_at}
use Rattle.exec_world.proofs.fronts.Fronts.list_all.Goals as goal

pub loop-place-preserved : goal.loop-place-preserved
loop-place-preserved c =
    listed_next (front_at c.args.self.now.moment c.args.self.now.servers.now c.args.queues.now) c.args.places.now c.loop-place.place-index 0 c.loop-place.list _ _ c.loop-place-test.true
    c.in_ok-list.ensures c.loop-place.invariant
