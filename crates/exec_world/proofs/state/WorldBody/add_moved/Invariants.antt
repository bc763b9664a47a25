use Rattle.std.proofs.Common.{◌≡◌, ℕ, map, take}
use Rattle.exec_msg.specs.declared.goal.GoalStatus.TheVariants as status
use Rattle.exec_msg.specs.declared.line.Line.TheVariants as line
use Rattle.exec_rules.specs.World.{add_lines}
use Rattle.exec_world.proofs.state.WorldBody.add_moved.Given as goal

-- the goals so far have their lines
abbrev pub invariant-loop-id : goal.invariant-loop-id
invariant-loop-id g l = l.self ≡ add_lines (map (λ (id : ℕ). line.State l.server id status.Canceling) (take l.id-index l.goals)) l.initial.self
