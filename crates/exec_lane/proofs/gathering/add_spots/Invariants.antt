use Rattle.std.proofs.Common.{◌≡◌, ◌++◌, drop}
use Rattle.exec_lane.specs.inner.Spots.{spots_from}
use Rattle.exec_lane.proofs.gathering.add_spots.Given as goal

-- what is added, and what is still to be added, are those of the whole lane
abbrev pub invariant-loop-index : goal.invariant-loop-index
invariant-loop-index l = l.spots.items ++ spots_from l.number l.index (drop l.index l.lane) ≡ l.initial.spots.items ++ spots_from l.number 0 l.lane
