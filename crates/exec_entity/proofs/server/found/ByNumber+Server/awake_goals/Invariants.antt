use Rattle.std.proofs.Common.{◌≡◌, take}
use Rattle.std.specs.List.{flat_map}
use Rattle.exec_rules.specs.inner.Awake.{awake_goals}
use Rattle.exec_entity.proofs.server.found.ByNumber+Server.awake_goals.Given as goal

-- the goals of the servers so far that are awake are added
abbrev pub invariant-loop-entry : goal.invariant-loop-entry
invariant-loop-entry l = l.goals.items ≡ flat_map (awake_goals l.moment) (take l.entry-index l.entry-items)
