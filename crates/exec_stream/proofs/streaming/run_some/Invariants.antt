use Rattle.std.proofs.Common.{◌+◌, ◌≤◌}
use Rattle.exec_stream.specs.Sending.{HasSent}
use Rattle.exec_stream.specs.Streams.{GoesOn, outcomes_between}
use Rattle.exec_stream.proofs.streaming.run_some.Given as goal

-- what ran so far was sent on
abbrev pub invariant-loop-left : goal.invariant-loop-left
invariant-loop-left g l = GoesOn l.fn.lane l.lane × HasSent (outcomes_between l.fn.lane l.fn.lane.done l.lane.done) l.fn.sender l.sender × (l.lane.done + l.left ≤ l.fn.lane.done + l.stream.quantum)

abbrev pub decreases-loop-left : goal.decreases-loop-left
decreases-loop-left g l = l.left
