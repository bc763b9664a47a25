use Rattle.std.proofs.Common.{◌∙◌, ap, sym, refl, None, Some, Option}
use Rattle.std.specs.Option.{option_map_or}
use Rattle.exec_goal.proofs.Entries.{ids_decide}
use Rattle.exec_entity.proofs.HeldEntries.{key_test, found-in}
use Rattle.exec_entity.proofs.Joined.{read-now}
use Rattle.exec_entity.specs.inner.Server.{Kept, all_kept}
use Rattle.exec_entity.proofs.server.Server.arrival.Goals as goal

pub returns-in-None : goal.returns-in-None
returns-in-None c =
    sym (ap (λ (found : Option Kept). option_map_or (λ one. one.arrival) found 0)
    (found-in _ c.args.id (key_test _ (λ a b. ids_decide a b) c.args.id) c.self.inside.held.entries (all_kept c.self.inside.held.entries) None refl c.in-None.ensures.value))
    ∙ read-now c.self.invariant.0 c.self.view_is (λ held. held.arrival) (λ one. one.arrival) 0 (λ goal one. refl) c.args.id

pub returns-in-Some : goal.returns-in-Some
returns-in-Some c =
    sym (ap (λ (found : Option Kept). option_map_or (λ one. one.arrival) found 0)
    (found-in _ c.args.id (key_test _ (λ a b. ids_decide a b) c.args.id) c.self.inside.held.entries (all_kept c.self.inside.held.entries) (Some c.in-Some.held.now) refl c.in-Some.ensures.value))
    ∙ read-now c.self.invariant.0 c.self.view_is (λ held. held.arrival) (λ one. one.arrival) 0 (λ goal one. refl) c.args.id
