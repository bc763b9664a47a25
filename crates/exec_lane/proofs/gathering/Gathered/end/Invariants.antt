use Rattle.std.proofs.Common.{◌≡◌, length}
use Rattle.exec_lane.proofs.gathering.Gathered.end.Given as goal

abbrev pub invariant-loop-lane : goal.invariant-loop-lane
invariant-loop-lane g l = l.world ≡ l.fn.world

abbrev pub decreases-loop-lane : goal.decreases-loop-lane
decreases-loop-lane g l = length l.lanes.items
