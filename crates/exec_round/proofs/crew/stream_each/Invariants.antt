use Rattle.std.proofs.Common.{◌≡◌}
use Rattle.exec_rules.specs.Calls.{world_after}
use Rattle.exec_round.proofs.crew.stream_each.Given as goal

-- so many rounds are done
abbrev pub invariant-loop-done : goal.invariant-loop-done
invariant-loop-done g l = l.world ≡ world_after l.done l.initial.world.plan
