use Rattle.std.proofs.Common.{◌∙◌, ap, rules}
use Rattle.indexmap.proofs.CallerLemmas.{filter-RetainsPairs}
use Rattle.exec_goal.proofs.Looping.{map-kept}
use Rattle.exec_goal.specs.Table.{holds_id}
use Rattle.exec_entity.specs.inner.Server.{Kept, all_kept, kept_of}
use Rattle.exec_entity.proofs.server.expiring.keep_held.Goals as goal

pub returns : goal.returns
returns c =
    ap all_kept (filter-RetainsPairs _ (λ entry. holds_id entry.0 c.args.goals.now) _ (λ k v b w g call. search rules) _ _ c.retain.ensures.filtered)
    ∙ map-kept kept_of (λ (one : Kept). holds_id one.id c.args.goals.now) c.args.held.now.entries
