use Rattle.std.proofs.Common.{◌≡◌}
use Rattle.exec_pool.proofs.handoff.Caller.finish.Given as goal

-- the job is still out
abbrev pub invariant-loop : goal.invariant-loop
invariant-loop g l = l.self ≡ l.fn.self
