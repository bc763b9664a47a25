use Rattle.std.proofs.Common.{◌≡◌, map, take}
use Rattle.exec_world.specs.inner.Snapshots.{placed_behind, scripted_poll}
use Rattle.exec_world.proofs.scripts.push_polls.Given as goal

-- those so far are at their places
abbrev pub invariant-loop-goal : goal.invariant-loop-goal
invariant-loop-goal l = l.all.items ≡ placed_behind l.fn.all.items (map (scripted_poll l.graph l.moment) (take l.goal-index l.goals))
