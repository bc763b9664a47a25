use Rattle.std.proofs.Common.{◌≡◌, ◌++◌, drop}
use Rattle.exec_lane.specs.inner.Spots.{all_spots}
use Rattle.exec_lane.proofs.gathering.list_spots.Given as goal

-- what is listed, and what is still to be listed, are those of all lanes
abbrev pub invariant-loop-number : goal.invariant-loop-number
invariant-loop-number l = l.spots.items ++ all_spots l.number (drop l.number l.lanes) ≡ all_spots 0 l.lanes
