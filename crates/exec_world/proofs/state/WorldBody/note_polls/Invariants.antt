use Rattle.std.proofs.Common.{◌≡◌, take}
use Rattle.std.specs.List.{fold}
use Rattle.exec_rules.specs.Ready.{goal_arrival}
use Rattle.exec_world.specs.inner.Arrivals.{with_arrived}
use Rattle.exec_world.proofs.state.WorldBody.note_polls.Given as goal

-- the goals so far are noted
abbrev pub invariant-loop-goal : goal.invariant-loop-goal
invariant-loop-goal g l =
    l.arrivals.items ≡ fold (λ so_far goal. with_arrived so_far (goal_arrival goal.server goal.id l.fn.self)) l.fn.arrivals.items (take l.goal-index l.goals)
