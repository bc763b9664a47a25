-- A document brought to version 2: what its value keeps, and the text of that.
use Rattle.std.specs.Prelude.{ℕ, List, [], ◌∷◌, map, codes, Bool, true, false, is_some, Option, None, Some}
use Rattle.std.specs.Option.{option_map}
use Rattle.serde_json.specs.Data.{Data, unsigned, number, string, array, object, Items, no_items, item, Members, no_members, put}
use Rattle.serde_json.specs.Find.{get}
use Rattle.serde_json.specs.Written.{compact_text}
use Rattle.exec_doc.specs.Document.{plan_in}
use Rattle.exec_doc.specs.Refusals.{document_value}
use Rattle.exec_msg.specs.Options.{◌>>=◌}
use Rattle.exec_plan.specs.declared.entity.EntityKind.{EntityKind}
use Rattle.exec_plan.specs.declared.entity.EntityKind.TheVariants as kind
use Rattle.exec_plan.specs.declared.order.Order.{Order}
use Rattle.exec_plan.specs.declared.order.Order.TheVariants as order

-- ---- an object of which some fields are kept

-- what a field becomes that is kept: it stays as it is, or it is a list, each of whose values is changed
pub data Keeping : Type 0 where
  as_it_is : Keeping
  item_by_item : (Data → Data) → Keeping

-- the values of a list, each of them changed
abbrev pub changed_items : (Data → Data) → Items → Items
changed_items change no_items = no_items
changed_items change (item value values) = item (change value) (changed_items change values)

-- a list with these values; another value stays as it is
abbrev pub changed_list : (Data → Data) → Data → Data
changed_list change (array values) = array (changed_items change values)
changed_list change value = value

-- what a field becomes, if it is there
abbrev pub kept_field : Keeping → Option Data → Option Data
kept_field as_it_is field = field
kept_field (item_by_item change) field = option_map (changed_list change) field

-- members with one more, if it is there, in the order of the bytes of their names
abbrev pub with_field : List ℕ → Option Data → Members → Members
with_field name None members = members
with_field name (Some value) members = put name value members

-- of the fields of a value those that are named
abbrev pub kept_members : List (List ℕ × Keeping) → Data → Members
kept_members [] value = no_members
kept_members (named ∷ others) value = with_field named.0 (kept_field named.1 (get named.0 value)) (kept_members others value)

-- the object that has these fields and no other
abbrev pub only : List (List ℕ × Keeping) → Data → Data
only named value = object (kept_members named value)

-- fields that stay as they are
abbrev pub unchanged : List (List ℕ) → List (List ℕ × Keeping)
unchanged names = map (λ name. (name, as_it_is)) names

-- ---- the fields of each object

-- those of a callback group
abbrev pub group_fields : List (List ℕ)
group_fields = codes "name" ∷ codes "kind" ∷ []

-- those of an entity
abbrev pub entity_fields : EntityKind → List (List ℕ)
entity_fields kind.Timer = codes "name" ∷ codes "period" ∷ codes "group" ∷ codes "script" ∷ []
entity_fields kind.Subscription = codes "name" ∷ codes "topic" ∷ codes "group" ∷ codes "depth" ∷ codes "script" ∷ []
entity_fields kind.Service = codes "name" ∷ codes "group" ∷ codes "depth" ∷ codes "script" ∷ []
entity_fields kind.Client = codes "name" ∷ codes "service" ∷ codes "group" ∷ codes "depth" ∷ codes "script" ∷ []
entity_fields kind.Server =
    codes "name" ∷ codes "group" ∷ codes "depth" ∷ codes "result_timeout" ∷ codes "on_goal" ∷ codes "on_cancel" ∷ codes "script" ∷ []
entity_fields kind.ActionClient =
    codes "name" ∷ codes "action" ∷ codes "group" ∷ codes "depth"
    ∷ codes "on_response" ∷ codes "on_code" ∷ codes "on_feedback" ∷ codes "on_result" ∷ []

-- those of an entry of the feed that has the field `topic`, `goal` or `cancel`
abbrev pub fed_fields : Bool → Bool → Bool → List (List ℕ)
fed_fields true false false = codes "round" ∷ codes "topic" ∷ codes "value" ∷ []
fed_fields false true false = codes "round" ∷ codes "action" ∷ codes "goal" ∷ codes "value" ∷ []
fed_fields false false true = codes "round" ∷ codes "action" ∷ codes "cancel" ∷ codes "stamp" ∷ []
fed_fields _ _ _ = []

-- ---- each object with its fields alone

-- a callback group
abbrev pub upgraded_group : Data → Data
upgraded_group value = only (unchanged group_fields) value

-- an entity
abbrev pub upgraded_entity : EntityKind → Data → Data
upgraded_entity kind value = only (unchanged (entity_fields kind)) value

-- what a node keeps
abbrev pub node_fields : List (List ℕ × Keeping)
node_fields =
    (codes "name", as_it_is)
    ∷ (codes "groups", item_by_item upgraded_group)
    ∷ (codes "timers", item_by_item (upgraded_entity kind.Timer))
    ∷ (codes "subscriptions", item_by_item (upgraded_entity kind.Subscription))
    ∷ (codes "services", item_by_item (upgraded_entity kind.Service))
    ∷ (codes "clients", item_by_item (upgraded_entity kind.Client))
    ∷ (codes "actions", item_by_item (upgraded_entity kind.Server))
    ∷ (codes "action_clients", item_by_item (upgraded_entity kind.ActionClient))
    ∷ []

-- a node
abbrev pub upgraded_node : Data → Data
upgraded_node value = only node_fields value

-- an entry of the feed: `round`, and the fields of its form
abbrev pub upgraded_entry : Data → Data
upgraded_entry value =
    only (unchanged (fed_fields (is_some (get (codes "topic") value)) (is_some (get (codes "goal") value)) (is_some (get (codes "cancel") value)))) value

-- the name of an order
abbrev pub name_of_order : Order → List ℕ
name_of_order order.Kind = codes "kind"
name_of_order order.Arrival = codes "arrival"

-- what a document keeps; its version and its order are new
abbrev pub document_fields : List (List ℕ × Keeping)
document_fields =
    (codes "topics", as_it_is)
    ∷ (codes "nodes", item_by_item upgraded_node)
    ∷ (codes "moments", as_it_is)
    ∷ (codes "feed", item_by_item upgraded_entry)
    ∷ []

-- the document of version 2 with an order
abbrev pub upgraded : Order → Data → Data
upgraded under value =
    object (put (codes "version") (number (unsigned 2)) (put (codes "order") (string (name_of_order under)) (kept_members document_fields value)))

-- the upgrade of a value that was read, where it says a plan: it has the plan's order
abbrev pub upgraded_in : Option Data → Option Data
upgraded_in read = do
  value ← read
  plan ← plan_in (Some value)
  Some (upgraded plan.order value)

-- the value of the upgrade of bytes, where they are a document
abbrev pub upgraded_value : List ℕ → Option Data
upgraded_value bytes = upgraded_in (document_value bytes)

-- its text
abbrev pub upgraded_text : List ℕ → Option (List ℕ)
upgraded_text bytes = option_map compact_text (upgraded_value bytes)
