use Rattle.std.proofs.Common.{◌≡◌, ◌+◌, ◌≤◌, length}
use Rattle.exec_lane.specs.Opening.{IsLaneOf}
use Rattle.exec_board.proofs.sweep.run_some.Given as goal

-- as many callbacks ran as the quantum fell
abbrev pub invariant-loop-left : goal.invariant-loop-left
invariant-loop-left g l = IsLaneOf l.fn.lane l.lane × (l.lane.done + l.left ≡ l.fn.lane.done + l.quantum) × (l.left ≤ l.quantum) × (l.lane.done ≤ length l.lane.entries)

abbrev pub decreases-loop-left : goal.decreases-loop-left
decreases-loop-left g l = l.left
