use Rattle.std.proofs.Common.{◌≡◌, ◌++◌, drop, nat_le, Some}
use Rattle.std.specs.Bool.{then_some}
use Rattle.exec_msg.specs.Options.{◌>>=◌, each}
use Rattle.exec_msg.specs.declared.limits.TheConstants.{TICKS}
use Rattle.exec_doc.proofs.schedule.moments_of.Given as goal

-- the moments so far, and then those of what is left, are the moments of all
abbrev pub invariant-loop-moment : goal.invariant-loop-moment
invariant-loop-moment l =
    (each (λ ticks. then_some (nat_le ticks TICKS) ticks) (drop l.moment-index l.ticks) >>= (λ rest. Some (l.moments.items ++ rest)))
    ≡ each (λ ticks. then_some (nat_le ticks TICKS) ticks) l.ticks
