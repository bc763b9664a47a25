use Rattle.std.proofs.Common.{◌≡◌}
use Rattle.std.specs.Prelude.{None}
use Rattle.exec_pool.proofs.handoff.Worker.serve.Given as goal

-- no job is out
abbrev pub invariant-loop : goal.invariant-loop
invariant-loop g l = l.worker ≡ None
