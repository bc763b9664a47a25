use Rattle.std.proofs.Common.{◌≡◌, ◌++◌, drop}
use Rattle.exec_lane.specs.inner.Buffered.{callbacks_at, works_home}
use Rattle.exec_lane.proofs.lane_home.bring_tasks_home.Given as goal

-- what is left to bring home, from here, is the whole, from the start
abbrev pub invariant-loop-index : goal.invariant-loop-index
invariant-loop-index g l = record {
  places : l.lane.places ≡ l.fn.lane.places;
  did : l.lane.did ≡ l.fn.lane.did;
  home : record l.world { state = works_home (drop l.index (callbacks_at l.fn.list l.fn.lane.places)) l.lane.waiting l.world.state }
      ≡ record l.fn.world { state = works_home (callbacks_at l.fn.list l.fn.lane.places) (l.fn.lane.polled ++ l.fn.lane.waiting) l.fn.world.state };
}
