use Rattle.std.proofs.Common.{sym, subst}
use Rattle.std.specs.Prelude.{Option}
use Rattle.exec_pool.specs.Pair.{CameBack, IsOut}
use Rattle.exec_pool.specs.declared.job.Job.{Job}
use Rattle.exec_pool.proofs.handoff.Caller.finish.Goals as goal

pub collect-requires : goal.collect-requires
collect-requires g c = subst IsOut (sym c.loop.invariant) c.requires

pub returns-in-Some-collect-clause-back : goal.returns-in-Some-collect-clause-back
returns-in-Some-collect-clause-back g c = subst (λ (out : Option Job). CameBack out c.in-Some-collect.job) c.loop.invariant c.in-Some-collect.ensures.back
