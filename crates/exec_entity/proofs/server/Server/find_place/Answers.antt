use Rattle.std.proofs.Common.{◌≡◌, ℕ, None, Some, IfSome, IfNone, List, map, slice_get, ap, sym, subst, ◌∙◌}
use Rattle.std.specs.List.{find}
use Rattle.exec_goal.proofs.Entries.{ids_decide}
use Rattle.exec_rules.specs.World.{HeldGoal, ServerEntry, is_for}
use Rattle.exec_entity.proofs.HeldEntries.{key_test}
use Rattle.exec_entity.proofs.Placed.{named-at-found, none-found}
use Rattle.exec_entity.proofs.Joined.{ids-joined, none-joined, if_none_weaker}
use Rattle.exec_entity.specs.inner.Server.{all_kept}
use Rattle.exec_entity.proofs.server.Server.find_place.Goals as goal

pub returns-clause-at : goal.returns-clause-at
returns-clause-at c =
    subst (λ (ids : List ℕ). IfSome c.get_index_of.result (λ place. slice_get ids place ≡ Some c.args.id))
    (sym (ids-joined c.self.inside.goals (all_kept c.self.inside.held.entries) c.self.invariant.0.same) ∙ ap (λ (server : ServerEntry). map (λ (one : HeldGoal). one.goal.id) server.held) c.self.view_is)
    (named-at-found _ c.args.id (key_test _ (λ a b. ids_decide a b) c.args.id) c.self.inside.held.entries c.get_index_of.result c.get_index_of.ensures.index)

pub returns-clause-none : goal.returns-clause-none
returns-clause-none c =
    subst (λ (server : ServerEntry). IfNone c.get_index_of.result (find (is_for c.args.id) server.held ≡ None)) c.self.view_is
    (if_none_weaker c.get_index_of.result (none-joined c.args.id c.self.inside.goals (all_kept c.self.inside.held.entries) c.self.invariant.0.same)
    (none-found _ c.args.id (key_test _ (λ a b. ids_decide a b) c.args.id) c.self.inside.held.entries c.get_index_of.result c.get_index_of.ensures.found))
