use Rattle.std.proofs.Common.{◌∙◌, ap, not, rules, Some}
use Rattle.indexmap.proofs.CallerLemmas.{filter-RetainsPairs}
use Rattle.exec_goal.proofs.Looping.{map-kept}
use Rattle.exec_goal.specs.inner.Held.{record_of, records_of}
use Rattle.exec_goal.specs.Table.{GoalRecord, is_expired}
use Rattle.exec_goal.proofs.goals.expiring.keep_unexpired.Goals as goal

pub returns : goal.returns
returns c =
    ap records_of (filter-RetainsPairs _ (λ entry. not (is_expired c.args.moment (Some c.args.timeout) (record_of entry))) _ (λ k v b w g call. search rules) _ _ c.retain.ensures.filtered)
    ∙ map-kept record_of (λ (goal : GoalRecord). not (is_expired c.args.moment (Some c.args.timeout) goal)) c.args.held.now.entries
