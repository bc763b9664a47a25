use Rattle.std.proofs.Common.{ℕ, List, [], ◌∷◌, codes, refl, ap, ◌∙◌}
use Rattle.exec_doc.proofs.Gathered.{field_taken}
use Rattle.exec_doc.specs.inner.Gathering.{with_fields}
use Rattle.exec_doc.specs.Upgrade.{Keeping, as_it_is, item_by_item, upgraded_entity, upgraded_group}
use Rattle.exec_plan.specs.declared.entity.EntityKind.{EntityKind}
use Rattle.exec_plan.specs.declared.entity.EntityKind.TheVariants as kind
use Rattle.serde_json.proofs.Views.{Entry, view-Object}
use Rattle.serde_json.specs.Data.{object}
use Rattle.serde_json.specs.View.{view, members_view}
use Rattle.exec_doc.proofs.upgrading.objects.node.Goals as goal

-- the entities of a kind in a field
abbrev of_kind : List ℕ → EntityKind → List ℕ × Keeping
of_kind name kind = (name, item_by_item (upgraded_entity kind))

abbrev name : List ℕ × Keeping
name = (codes "name", as_it_is)

abbrev groups : List ℕ × Keeping
groups = (codes "groups", item_by_item upgraded_group)

abbrev timers : List ℕ × Keeping
timers = of_kind (codes "timers") kind.Timer

abbrev subscriptions : List ℕ × Keeping
subscriptions = of_kind (codes "subscriptions") kind.Subscription

abbrev services : List ℕ × Keeping
services = of_kind (codes "services") kind.Service

abbrev clients : List ℕ × Keeping
clients = of_kind (codes "clients") kind.Client

abbrev servers : List ℕ × Keeping
servers = of_kind (codes "actions") kind.Server

abbrev action_clients : List ℕ × Keeping
action_clients = of_kind (codes "action_clients") kind.ActionClient

-- the fields as they are taken
abbrev taken : List (List ℕ × Keeping)
taken = action_clients ∷ servers ∷ clients ∷ services ∷ subscriptions ∷ timers ∷ groups ∷ name ∷ []

pub returns : goal.returns
returns c =
    view-Object c.keep.new.kept ∙ ap object (
    field_taken name [] _ _ _ _ c.keep.ensures.left c.in_ok-keep.ensures.kept refl
    ∙ field_taken groups (name ∷ []) _ _ _ _ c.keep_each-7.ensures.left c.in_ok-keep_each-7.ensures.kept refl
    ∙ field_taken timers (groups ∷ name ∷ []) _ _ _ _ c.keep_each-6.ensures.left c.in_ok-keep_each-6.ensures.kept refl
    ∙ field_taken subscriptions (timers ∷ groups ∷ name ∷ []) _ _ _ _ c.keep_each-5.ensures.left c.in_ok-keep_each-5.ensures.kept refl
    ∙ field_taken services (subscriptions ∷ timers ∷ groups ∷ name ∷ []) _ _ _ _ c.keep_each-4.ensures.left c.in_ok-keep_each-4.ensures.kept refl
    ∙ field_taken clients (services ∷ subscriptions ∷ timers ∷ groups ∷ name ∷ []) _ _ _ _ c.keep_each-3.ensures.left c.in_ok-keep_each-3.ensures.kept refl
    ∙ field_taken servers (clients ∷ services ∷ subscriptions ∷ timers ∷ groups ∷ name ∷ []) _ _ _ _ c.keep_each-2.ensures.left c.in_ok-keep_each-2.ensures.kept refl
    ∙ field_taken action_clients (servers ∷ clients ∷ services ∷ subscriptions ∷ timers ∷ groups ∷ name ∷ []) _ _ _ _ c.keep_each.ensures.left c.in_ok-keep_each.ensures.kept refl
    ∙ ap (λ (there : List Entry). with_fields taken (view c.args.node) (members_view there)) c.new-kept.ensures.empty)
