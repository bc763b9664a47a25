use Rattle.std.proofs.Common.{ap, sym, ◌∙◌, List, ℕ}
use Rattle.std.specs.List.{remove}
use Rattle.exec_goal.proofs.Entries.{ids_decide}
use Rattle.exec_entity.proofs.HeldEntries.{key_test, removed-entry}
use Rattle.exec_entity.proofs.Wakes.{wake-removed-at}
use Rattle.exec_entity.specs.inner.Server.{all_kept}
use Rattle.exec_entity.specs.inner.Waking.{wakes_of}
use Rattle.exec_entity.proofs.server.remove.Goals as goal

pub returns-in-Some-clause-held : goal.returns-in-Some-clause-held
returns-in-Some-clause-held c = ap all_kept c.in-Some.ensures.entries ∙ removed-entry _ c.args.id (key_test _ (λ a b. ids_decide a b) c.args.id) c.args.held.now.entries

pub returns-in-Some-clause-wakes : goal.returns-in-Some-clause-wakes
returns-in-Some-clause-wakes c =
    c.remove-wake.ensures.items ∙ ap (λ (wakes : List ℕ). remove wakes c.in-Some.dropped.0) c.requires
    ∙ sym (wake-removed-at _ c.args.held.now.entries c.in-Some.dropped.0 c.in-Some.ensures.index)
    ∙ sym (ap (λ entries. wakes_of (all_kept entries)) c.in-Some.ensures.entries)

pub returns-in_default-clause-held : goal.returns-in_default-clause-held
returns-in_default-clause-held c = ap all_kept c.in_default.ensures.entries ∙ removed-entry _ c.args.id (key_test _ (λ a b. ids_decide a b) c.args.id) c.args.held.now.entries
