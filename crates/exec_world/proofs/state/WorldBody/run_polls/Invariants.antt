use Rattle.std.proofs.Common.{◌≡◌, map, take}
use Rattle.exec_rules.specs.Transcript.{run_all}
use Rattle.exec_rules.specs.inner.Awake.{poll_at}
use Rattle.exec_world.proofs.state.WorldBody.run_polls.Given as goal

-- the goals so far are polled
abbrev pub invariant-loop-goal : goal.invariant-loop-goal
invariant-loop-goal g l = l.self ≡ run_all (map (poll_at l.moment) (take l.goal-index l.goals)) l.initial.self
