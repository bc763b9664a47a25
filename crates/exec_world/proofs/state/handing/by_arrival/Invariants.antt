use Rattle.std.proofs.Common.{◌≡◌, take}
use Rattle.exec_rules.specs.Ready.{placed_from}
use Rattle.exec_world.specs.inner.Arrivals.{callbacks_at}
use Rattle.exec_world.specs.inner.Snapshots.{with_polls}
use Rattle.exec_world.proofs.state.handing.by_arrival.Given as goal

-- the callbacks at the places of the arrivals so far are at theirs
abbrev pub invariant-loop-arrived : goal.invariant-loop-arrived
invariant-loop-arrived l = l.all.items ≡ placed_from 1 (callbacks_at (with_polls l.round.graph.now l.round.moment l.scratch.list l.scratch.goals.items) (take l.arrived-index l.arrived-items))
