use Rattle.std.proofs.Common.{ℕ, List, nat_le, ap, sym, ◌∙◌, ◌++◌, Some}
use Rattle.std.proofs.lemmas.List.{drop_all, append-nil}
use Rattle.std.specs.Bool.{then_some}
use Rattle.exec_msg.specs.Options.{◌>>=◌, each}
use Rattle.exec_doc.proofs.Scheduled.{each_only}
use Rattle.exec_msg.specs.declared.limits.TheConstants.{TICKS}
use Rattle.exec_doc.proofs.schedule.moments_of.Goals as goal

pub returns-clause-moments : goal.returns-clause-moments
returns-clause-moments c =
    sym (ap (λ (moments : List ℕ). Some moments) (append-nil c.loop-moment.moments.items))
    ∙ sym (ap (λ (ticks : List ℕ). each (λ t. then_some (nat_le t TICKS) t) ticks >>= (λ rest. Some (c.loop-moment.moments.items ++ rest))) (drop_all c.loop-moment.moment-index c.args.ticks.now c.loop-moment-test.false))
    ∙ c.loop-moment.invariant
    ∙ each_only (λ t. nat_le t TICKS) c.args.ticks.now
