-- An upgrade is its own upgrade.
use Rattle.std.proofs.Common.{◌≡◌, ℕ, List, Bool, true, false, is_some, codes, Option, None, Some, option_map, refl, ap}
use Rattle.serde_json.specs.Data.{Data, null, boolean, number, string, array, object, Items, no_items, item}
use Rattle.serde_json.specs.Find.{get}
use Rattle.exec_doc.proofs.Found.{found}
use Rattle.exec_doc.proofs.SamePlan.{document_found}
use Rattle.exec_doc.specs.Upgrade.{changed_items, changed_list, unchanged, only, group_fields, entity_fields, fed_fields, node_fields, upgraded_group, upgraded_entity, upgraded_node, upgraded_entry, upgraded}
use Rattle.exec_plan.specs.declared.entity.EntityKind.{EntityKind}
use Rattle.exec_plan.specs.declared.entity.EntityKind.TheVariants as kind
use Rattle.exec_plan.specs.declared.order.Order.{Order}

-- what is changed stays as it is if it is changed again
abbrev IsStable : (Data → Data) → Type 0
IsStable change = (value : Data) → change (change value) ≡ change value

items_again : (change : Data → Data) → IsStable change → (values : Items) → changed_items change (changed_items change values) ≡ changed_items change values
items_again change stable no_items = refl
items_again change stable (item value values) = rw (stable value, items_again change stable values) refl

list_again : (change : Data → Data) → IsStable change → IsStable (changed_list change)
list_again change stable null = refl
list_again change stable (boolean b) = refl
list_again change stable (number n) = refl
list_again change stable (string s) = refl
list_again change stable (array values) = ap array (items_again change stable values)
list_again change stable (object fields) = refl

field_again : (change : Data → Data) → IsStable change → (field : Option Data) → option_map (changed_list change) (option_map (changed_list change) field) ≡ option_map (changed_list change) field
field_again change stable None = refl
field_again change stable (Some value) = ap (λ (some : Data). Some some) (list_again change stable value)

group_again : IsStable upgraded_group
group_again value =
    let named = λ (name : List ℕ). found name (unchanged group_fields) value in
    rw (named (codes "name"), named (codes "kind")) refl

entity_again : (kind : EntityKind) → IsStable (upgraded_entity kind)
entity_again kind.Timer value =
    let named = λ (name : List ℕ). found name (unchanged (entity_fields kind.Timer)) value in
    rw (named (codes "name"), named (codes "period"), named (codes "group"), named (codes "script")) refl
entity_again kind.Subscription value =
    let named = λ (name : List ℕ). found name (unchanged (entity_fields kind.Subscription)) value in
    rw (named (codes "name"), named (codes "topic"), named (codes "group"), named (codes "depth"), named (codes "script")) refl
entity_again kind.Service value =
    let named = λ (name : List ℕ). found name (unchanged (entity_fields kind.Service)) value in
    rw (named (codes "name"), named (codes "group"), named (codes "depth"), named (codes "script")) refl
entity_again kind.Client value =
    let named = λ (name : List ℕ). found name (unchanged (entity_fields kind.Client)) value in
    rw (named (codes "name"), named (codes "service"), named (codes "group"), named (codes "depth"), named (codes "script")) refl
entity_again kind.Server value =
    let named = λ (name : List ℕ). found name (unchanged (entity_fields kind.Server)) value in
    rw (named (codes "name"), named (codes "group"), named (codes "depth"), named (codes "result_timeout"), named (codes "on_goal"), named (codes "on_cancel"), named (codes "script")) refl
entity_again kind.ActionClient value =
    let named = λ (name : List ℕ). found name (unchanged (entity_fields kind.ActionClient)) value in
    rw (named (codes "name"), named (codes "action"), named (codes "group"), named (codes "depth"), named (codes "on_response"), named (codes "on_code"), named (codes "on_feedback"), named (codes "on_result")) refl

node_again : IsStable upgraded_node
node_again value =
    let named = λ (name : List ℕ). found name node_fields value in
    let entities = λ (kind : EntityKind) (name : List ℕ). field_again (upgraded_entity kind) (entity_again kind) (get name value) in
    rw (
      named (codes "name"),
      named (codes "groups"),
      field_again upgraded_group group_again (get (codes "groups") value),
      named (codes "timers"),
      entities kind.Timer (codes "timers"),
      named (codes "subscriptions"),
      entities kind.Subscription (codes "subscriptions"),
      named (codes "services"),
      entities kind.Service (codes "services"),
      named (codes "clients"),
      entities kind.Client (codes "clients"),
      named (codes "actions"),
      entities kind.Server (codes "actions"),
      named (codes "action_clients"),
      entities kind.ActionClient (codes "action_clients"),
    ) refl

entry_again_by : (topic goal cancel : Bool) (value : Data) → is_some (get (codes "topic") value) ≡ topic → is_some (get (codes "goal") value) ≡ goal → is_some (get (codes "cancel") value) ≡ cancel
    → upgraded_entry (only (unchanged (fed_fields topic goal cancel)) value) ≡ only (unchanged (fed_fields topic goal cancel)) value
entry_again_by true false false value t g c =
    let named = λ (name : List ℕ). found name (unchanged (fed_fields true false false)) value in
    rw (named (codes "topic"), named (codes "goal"), named (codes "cancel"), t, named (codes "round"), named (codes "topic"), named (codes "value")) refl
entry_again_by false true false value t g c =
    let named = λ (name : List ℕ). found name (unchanged (fed_fields false true false)) value in
    rw (named (codes "topic"), named (codes "goal"), named (codes "cancel"), g, named (codes "round"), named (codes "action"), named (codes "goal"), named (codes "value")) refl
entry_again_by false false true value t g c =
    let named = λ (name : List ℕ). found name (unchanged (fed_fields false false true)) value in
    rw (named (codes "topic"), named (codes "goal"), named (codes "cancel"), c, named (codes "round"), named (codes "action"), named (codes "cancel"), named (codes "stamp")) refl
entry_again_by false false false value t g c = refl
entry_again_by true true cancel value t g c = refl
entry_again_by true false true value t g c = refl
entry_again_by false true true value t g c = refl

entry_again : IsStable upgraded_entry
entry_again value = entry_again_by _ _ _ value refl refl refl

pub upgraded_again : (under : Order) (value : Data) → upgraded under (upgraded under value) ≡ upgraded under value
upgraded_again under value =
    let named = λ (name : List ℕ). document_found under value name in
    rw (
      named (codes "topics") refl refl,
      named (codes "nodes") refl refl,
      field_again upgraded_node node_again (get (codes "nodes") value),
      named (codes "moments") refl refl,
      named (codes "feed") refl refl,
      field_again upgraded_entry entry_again (get (codes "feed") value),
    ) refl
