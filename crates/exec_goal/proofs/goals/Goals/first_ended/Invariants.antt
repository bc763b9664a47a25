use Rattle.exec_goal.specs.State.{is_terminal}
use Rattle.exec_goal.specs.inner.Tally.{NoneBefore}
use Rattle.exec_goal.proofs.goals.Goals.first_ended.Given as goal

-- none so far has ended
abbrev pub invariant-loop-place : goal.invariant-loop-place
invariant-loop-place l = NoneBefore is_terminal l.place l.self
