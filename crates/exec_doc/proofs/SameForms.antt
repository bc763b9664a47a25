-- Each form says the same of an object of which its fields are kept.
use Rattle.std.proofs.Common.{◌≡◌, ℕ, List, [], Bool, true, false, is_some, codes, Option, None, Some, option_map, unwrap_or, refl, ap, sym}
use Rattle.serde_json.specs.Data.{Data, null, boolean, number, string, array, object, Items, no_items, item}
use Rattle.serde_json.specs.Find.{get}
use Rattle.exec_doc.specs.Forms.{values_of, list_of, or_default, group, form_of, entity, node, entry}
use Rattle.exec_doc.specs.Upgrade.{changed_items, changed_list, unchanged, only, group_fields, entity_fields, fed_fields, node_fields, upgraded_group, upgraded_entity, upgraded_node, upgraded_entry}
use Rattle.exec_doc.proofs.Found.{found}
use Rattle.exec_msg.specs.Options.{◌>>=◌, each}
use Rattle.exec_plan.specs.declared.entity.EntityKind.{EntityKind}
use Rattle.exec_plan.specs.declared.entity.EntityKind.TheVariants as kind

-- a form says the same of values that are changed
abbrev pub SaysSame : {A : Type 0} → (Data → Option A) → (Data → Data) → Type 0
SaysSame form change = (value : Data) → form (change value) ≡ form value

each_same : {A : Type 0} (form : Data → Option A) (change : Data → Data) → SaysSame form change → (values : Items) → each form (values_of (changed_items change values)) ≡ each form (values_of values)
each_same form change same no_items = refl
each_same form change same (item value values) = rw (same value, each_same form change same values) refl

pub list_same : {A : Type 0} (form : Data → Option A) (change : Data → Data) → SaysSame form change → SaysSame (list_of form) (changed_list change)
list_same form change same null = refl
list_same form change same (boolean b) = refl
list_same form change same (number n) = refl
list_same form change same (string s) = refl
list_same form change same (array values) = each_same form change same values
list_same form change same (object there) = refl

pub field_same : {A : Type 0} (form : Data → Option A) (change : Data → Data) → SaysSame form change → (field : Option Data) → or_default (list_of form) [] (option_map (changed_list change) field) ≡ or_default (list_of form) [] field
field_same form change same None = refl
field_same {A} form change same (Some value) = ap (λ (said : Option (List A)). option_map (λ found. unwrap_or found []) (option_map Some said)) (list_same form change same value)

-- a callback group
pub group_same : SaysSame group upgraded_group
group_same value =
    let named = λ (name : List ℕ). found name (unchanged group_fields) value in
    rw (named (codes "name"), named (codes "kind")) refl

-- an entity
pub entity_same : (kind : EntityKind) → SaysSame (entity (form_of kind)) (upgraded_entity kind)
entity_same kind.Timer value =
    let named = λ (name : List ℕ). found name (unchanged (entity_fields kind.Timer)) value in
    rw (named (codes "name"), named (codes "group"), named (codes "period"), named (codes "script")) refl
entity_same kind.Subscription value =
    let named = λ (name : List ℕ). found name (unchanged (entity_fields kind.Subscription)) value in
    rw (named (codes "name"), named (codes "group"), named (codes "topic"), named (codes "depth"), named (codes "script")) refl
entity_same kind.Service value =
    let named = λ (name : List ℕ). found name (unchanged (entity_fields kind.Service)) value in
    rw (named (codes "name"), named (codes "group"), named (codes "depth"), named (codes "script")) refl
entity_same kind.Client value =
    let named = λ (name : List ℕ). found name (unchanged (entity_fields kind.Client)) value in
    rw (named (codes "name"), named (codes "group"), named (codes "service"), named (codes "depth"), named (codes "script")) refl
entity_same kind.Server value =
    let named = λ (name : List ℕ). found name (unchanged (entity_fields kind.Server)) value in
    rw (named (codes "name"), named (codes "group"), named (codes "depth"), named (codes "result_timeout"), named (codes "on_goal"), named (codes "on_cancel"), named (codes "script")) refl
entity_same kind.ActionClient value =
    let named = λ (name : List ℕ). found name (unchanged (entity_fields kind.ActionClient)) value in
    rw (named (codes "name"), named (codes "group"), named (codes "action"), named (codes "depth"), named (codes "on_response"), named (codes "on_code"), named (codes "on_feedback"), named (codes "on_result")) refl

-- a node
pub node_same : SaysSame node upgraded_node
node_same value =
    let named = λ (name : List ℕ). found name node_fields value in
    let entities = λ (kind : EntityKind) (name : List ℕ). field_same (entity (form_of kind)) (upgraded_entity kind) (entity_same kind) (get name value) in
    rw (
      named (codes "name"),
      named (codes "groups"),
      field_same group upgraded_group group_same (get (codes "groups") value),
      named (codes "timers"),
      entities kind.Timer (codes "timers"),
      named (codes "subscriptions"),
      entities kind.Subscription (codes "subscriptions"),
      named (codes "services"),
      entities kind.Service (codes "services"),
      named (codes "clients"),
      entities kind.Client (codes "clients"),
      named (codes "actions"),
      entities kind.Server (codes "actions"),
      named (codes "action_clients"),
      entities kind.ActionClient (codes "action_clients"),
    ) refl

-- nothing follows from what leads to nothing
to_nothing : {A B : Type 0} (read : Option A) (next : A → Option B) → ((a : A) → next a ≡ None) → (read >>= next) ≡ None
to_nothing None next none = refl
to_nothing (Some a) next none = none a

-- an entry of the feed
entry_same_by : (topic goal cancel : Bool) (value : Data) → is_some (get (codes "topic") value) ≡ topic → is_some (get (codes "goal") value) ≡ goal → is_some (get (codes "cancel") value) ≡ cancel
    → entry (only (unchanged (fed_fields topic goal cancel)) value) ≡ entry value
entry_same_by true false false value t g c =
    let named = λ (name : List ℕ). found name (unchanged (fed_fields true false false)) value in
    rw (named (codes "round"), named (codes "topic"), named (codes "goal"), named (codes "cancel"), t, g, c, named (codes "value")) refl
entry_same_by false true false value t g c =
    let named = λ (name : List ℕ). found name (unchanged (fed_fields false true false)) value in
    rw (named (codes "round"), named (codes "topic"), named (codes "goal"), named (codes "cancel"), t, g, c, named (codes "action"), named (codes "value")) refl
entry_same_by false false true value t g c =
    let named = λ (name : List ℕ). found name (unchanged (fed_fields false false true)) value in
    rw (named (codes "round"), named (codes "topic"), named (codes "goal"), named (codes "cancel"), t, g, c, named (codes "action"), named (codes "stamp")) refl
entry_same_by false false false value t g c = rw (t, g, c) (sym (to_nothing _ _ (λ round. refl)))
entry_same_by true true cancel value t g c = rw (t, g) (sym (to_nothing _ _ (λ round. refl)))
entry_same_by true false true value t g c = rw (t, g, c) (sym (to_nothing _ _ (λ round. refl)))
entry_same_by false true true value t g c = rw (t, g, c) (sym (to_nothing _ _ (λ round. refl)))

pub entry_same : SaysSame entry upgraded_entry
entry_same value = entry_same_by _ _ _ value refl refl refl
