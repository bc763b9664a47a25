use Rattle.exec_goal.specs.State.{is_accepted}
use Rattle.exec_goal.specs.inner.Tally.{NoneBefore}
use Rattle.exec_goal.proofs.goals.Goals.first_waiting.Given as goal

-- none so far waits
abbrev pub invariant-loop-place : goal.invariant-loop-place
invariant-loop-place l = NoneBefore is_accepted l.place l.self
