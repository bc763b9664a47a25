use Rattle.std.proofs.Common.{◌∙◌, ap, sym, refl, None, Some, Option}
use Rattle.std.specs.Option.{option_map_or}
use Rattle.exec_goal.proofs.Entries.{ids_decide}
use Rattle.exec_entity.proofs.HeldEntries.{key_test, found-in}
use Rattle.exec_entity.proofs.Joined.{read-now}
use Rattle.exec_entity.specs.inner.Server.{Kept, all_kept}
use Rattle.exec_entity.proofs.server.Server.sender_at.Goals as goal

pub returns-in_err-get : goal.returns-in_err-get
returns-in_err-get c =
    c.from_residual.ensures
    ∙ sym (ap (λ (found : Option Kept). option_map_or (λ one. one.client) found None)
    (found-in _ c.args.id (key_test _ (λ a b. ids_decide a b) c.args.id) c.self.inside.held.entries (all_kept c.self.inside.held.entries) None refl c.in_err-get.ensures.value))
    ∙ read-now c.self.invariant.0 c.self.view_is (λ held. held.client) (λ one. one.client) None (λ goal one. refl) c.args.id

pub returns : goal.returns
returns c =
    sym (ap (λ (found : Option Kept). option_map_or (λ one. one.client) found None)
    (found-in _ c.args.id (key_test _ (λ a b. ids_decide a b) c.args.id) c.self.inside.held.entries (all_kept c.self.inside.held.entries) (Some c.in_ok-get.field-0.now) refl c.in_ok-get.ensures.value))
    ∙ read-now c.self.invariant.0 c.self.view_is (λ held. held.client) (λ one. one.client) None (λ goal one. refl) c.args.id
