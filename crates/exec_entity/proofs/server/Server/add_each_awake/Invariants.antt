use Rattle.std.proofs.Common.{◌≡◌, ◌++◌, take}
use Rattle.std.specs.List.{flat_map}
use Rattle.exec_rules.specs.inner.Awake.{goal_awake}
use Rattle.exec_entity.proofs.server.Server.add_each_awake.Given as goal

-- the goals so far that are awake are added
abbrev pub invariant-loop-index : goal.invariant-loop-index
invariant-loop-index l = l.goals.items ≡ l.initial.goals.items ++ flat_map (goal_awake l.moment l.self.handler) (take l.index l.self.held)
