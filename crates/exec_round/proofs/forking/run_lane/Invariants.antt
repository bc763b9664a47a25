use Rattle.std.proofs.Common.{◌≡◌, length, ◌-◌}
use Rattle.exec_round.specs.inner.Running.{opening_of}
use Rattle.exec_round.proofs.forking.run_lane.Given as goal

-- it is the lane that it was
abbrev pub invariant-loop-lane : goal.invariant-loop-lane
invariant-loop-lane g l = opening_of l.lane ≡ opening_of l.initial.lane

abbrev pub decreases-loop-lane : goal.decreases-loop-lane
decreases-loop-lane g l = length l.lane.entries - l.lane.done
