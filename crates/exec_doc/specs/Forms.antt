-- The forms of a document: which JSON value is which draft, object by object.
use Rattle.std.specs.Prelude.{ℕ, ℤ, List, [], ◌∷◌, ◌++◌, codes, ◌==◌, Bool, true, false, is_some, Option, None, Some}
use Rattle.std.specs.Int.{from_be_bytes, w128}
use Rattle.std.specs.Map.{lookup}
use Rattle.std.specs.Option.{option_map, unwrap_or}
use Rattle.std.specs.Str.{bytes_eq}
use Rattle.serde_json.specs.Data.{Data, number, string, Items, no_items, item}
use Rattle.serde_json.specs.Find.{get, as_number, as_str, as_array, as_i64, as_u64}
use Rattle.exec_plan.specs.declared.order.Order.{Order}
use Rattle.exec_plan.specs.declared.order.Order.TheVariants as order
use Rattle.exec_plan.specs.declared.plan.FedOf.TheVariants.{Message, Goal, Cancel}
use Rattle.exec_doc.specs.Draft.{DocumentDraft, FedDraft, EntryDraft}
use Rattle.exec_graph.specs.declared.draft.GroupDraft.{GroupDraft}
use Rattle.exec_graph.specs.declared.draft.NodeDraft.{NodeDraft}
use Rattle.exec_graph.specs.declared.draft.EntityDraft.{EntityDraft}
use Rattle.exec_graph.specs.declared.draft.GraphDraft.{GraphDraft}
use Rattle.exec_plan.specs.Entity.{Drafted, Spelled, if_there}
use Rattle.exec_msg.specs.Options.{◌>>=◌, each}
use Rattle.exec_plan.specs.declared.entity.EntityKind.{EntityKind}
use Rattle.exec_plan.specs.declared.entity.EntityKind.TheVariants as kind
use Rattle.exec_plan.specs.declared.entity.EntityOf.TheVariants.{Timer, Subscription, Service, Client, Server, ActionClient}
use Rattle.exec_msg.specs.declared.limits.TheConstants.{DEFAULT_DEPTH}
use Rattle.exec_script.specs.declared.word.Word.{Word}
use Rattle.exec_script.specs.declared.word.Word.TheVariants.{Text, Number}
use Rattle.uuid.specs.Text.{parsed}

-- ---- values

-- a text
abbrev pub text : Data → Option (List ℕ)
text value = as_str value

-- a count is a number for which `as_u64` answers
abbrev pub count : Data → Option ℕ
count value = as_number value >>= as_u64

-- a value is a number for which `as_i64` answers
abbrev pub integer : Data → Option ℤ
integer value = as_number value >>= as_i64

-- the identifier that a text says, in any of the text forms of a UUID
abbrev pub id_in_text : List ℕ → Option ℕ
id_in_text text = option_map (from_be_bytes w128) (parsed text)

-- an identifier is a text, which may say none
abbrev pub identifier : Data → Option (Option ℕ)
identifier value = option_map id_in_text (text value)

-- the values of a list
abbrev pub values_of : Items → List Data
values_of no_items = []
values_of (item value values) = value ∷ values_of values

-- a list, each of whose values has a form
abbrev pub list_of : {A : Type 0} → (Data → Option A) → Data → Option (List A)
list_of form value = as_array value >>= (λ items. each form (values_of items))

-- ---- fields

-- what a form says of a field that is needed
abbrev pub field_value : {A : Type 0} → (Data → Option A) → Option Data → Option A
field_value form field = field >>= form

-- what a form says of a field with what stands for it where it is missing
abbrev pub or_default : {A : Type 0} → (Data → Option A) → A → Option Data → Option A
or_default form default field = option_map (λ found. unwrap_or found default) (if_there form field)

-- a required field
abbrev pub required_field : {A : Type 0} → (Data → Option A) → List ℕ → Data → Option A
required_field form name holder = field_value form (get name holder)

-- an optional field
abbrev pub optional_field : {A : Type 0} → (Data → Option A) → List ℕ → Data → Option (Option A)
optional_field form name holder = if_there form (get name holder)

-- a list, which is empty where it is missing
abbrev pub list : {A : Type 0} → (Data → Option A) → List ℕ → Data → Option (List A)
list form name holder = or_default (list_of form) [] (get name holder)

-- the depth of a queue
abbrev pub depth_field : Data → Option ℕ
depth_field holder = or_default count DEFAULT_DEPTH (get (codes "depth") holder)

-- ---- scripts

-- a word is a text or a value
abbrev pub word : Data → Option Word
word (number n) = option_map Number (as_i64 n)
word (string s) = Some (Text s)
word _ = None

-- a script is a list of instructions, each of which is a list of words
abbrev pub script : Data → Option Spelled
script value = list_of (list_of word) value

-- a script, which is empty where it is missing
abbrev pub script_field : List ℕ → Data → Option Spelled
script_field name holder = or_default script [] (get name holder)

-- ---- callback groups

-- whether a group of this kind is mutually exclusive
abbrev pub exclusive_named : List ℕ → Option Bool
exclusive_named kind = lookup (bytes_eq kind) ((codes "exclusive", true) ∷ (codes "reentrant", false) ∷ [])

-- a group's kind
abbrev pub group_kind : Data → Option Bool
group_kind value = text value >>= exclusive_named

-- a named callback group
abbrev pub group : Data → Option GroupDraft
group value = do
  name ← required_field text (codes "name") value
  exclusive ← required_field group_kind (codes "kind") value
  Some (record { name = name; exclusive = exclusive })

-- ---- entities

-- what an entity of a kind is said to be
abbrev pub form_of : EntityKind → Data → Option Drafted
form_of kind.Timer value = do
  period ← required_field count (codes "period") value
  called ← script_field (codes "script") value
  Some (Timer (record { period = period; script = called }))
form_of kind.Subscription value = do
  topic ← required_field text (codes "topic") value
  depth ← depth_field value
  called ← script_field (codes "script") value
  Some (Subscription (record { topic = topic; depth = depth; script = called }))
form_of kind.Service value = do
  depth ← depth_field value
  called ← script_field (codes "script") value
  Some (Service (record { depth = depth; script = called }))
form_of kind.Client value = do
  of ← required_field text (codes "service") value
  depth ← depth_field value
  called ← script_field (codes "script") value
  Some (Client (record { service = of; depth = depth; script = called }))
form_of kind.Server value = do
  depth ← depth_field value
  result_timeout ← optional_field count (codes "result_timeout") value
  on_goal ← script_field (codes "on_goal") value
  on_cancel ← script_field (codes "on_cancel") value
  called ← script_field (codes "script") value
  Some (Server (record { depth = depth; result_timeout = result_timeout; on_goal = on_goal; on_cancel = on_cancel; script = called }))
form_of kind.ActionClient value = do
  of ← required_field text (codes "action") value
  depth ← depth_field value
  on_response ← script_field (codes "on_response") value
  on_code ← script_field (codes "on_code") value
  on_feedback ← script_field (codes "on_feedback") value
  on_result ← optional_field script (codes "on_result") value
  Some (ActionClient (record { server = of; depth = depth; on_response = on_response; on_code = on_code; on_feedback = on_feedback; on_result = on_result }))

-- an entity of a kind: its name, its callback group where it names one, and what its kind says
abbrev pub entity : (Data → Option Drafted) → Data → Option EntityDraft
entity form value = do
  name ← required_field text (codes "name") value
  group ← optional_field text (codes "group") value
  is ← form value
  Some (record { name = name; group = group; is = is })

-- a node
abbrev pub node : Data → Option NodeDraft
node value = do
  name ← required_field text (codes "name") value
  groups ← list group (codes "groups") value
  timers ← list (entity (form_of kind.Timer)) (codes "timers") value
  subscriptions ← list (entity (form_of kind.Subscription)) (codes "subscriptions") value
  services ← list (entity (form_of kind.Service)) (codes "services") value
  clients ← list (entity (form_of kind.Client)) (codes "clients") value
  servers ← list (entity (form_of kind.Server)) (codes "actions") value
  action_clients ← list (entity (form_of kind.ActionClient)) (codes "action_clients") value
  Some (record { name = name; groups = groups; entities = timers ++ subscriptions ++ services ++ clients ++ servers ++ action_clients })

-- ---- the feed

-- the values of the fields that an entry may have
pub record Fields : Type 0 where
  pub round : Option Data
  pub topic : Option Data
  pub goal : Option Data
  pub cancel : Option Data
  pub action : Option Data
  pub value : Option Data
  pub stamp : Option Data

-- those of a value
abbrev pub entry_fields : Data → Fields
entry_fields holder = record {
  round = get (codes "round") holder;
  topic = get (codes "topic") holder;
  goal = get (codes "goal") holder;
  cancel = get (codes "cancel") holder;
  action = get (codes "action") holder;
  value = get (codes "value") holder;
  stamp = get (codes "stamp") holder;
}

-- a message to a topic
abbrev pub message_in : Fields → Option FedDraft
message_in fields = do
  topic ← field_value text fields.topic
  sent ← field_value integer fields.value
  Some (Message topic sent)

-- a goal request
abbrev pub goal_in : Fields → Option FedDraft
goal_in fields = do
  action ← field_value text fields.action
  id ← field_value identifier fields.goal
  sent ← field_value integer fields.value
  Some (Goal action id sent)

-- a cancel request; a stamp of 0 is none
abbrev pub cancel_in : Fields → Option FedDraft
cancel_in fields = do
  action ← field_value text fields.action
  id ← field_value identifier fields.cancel
  stamp ← or_default count 0 fields.stamp
  Some (Cancel action id stamp)

-- the form of an entry that has the field `topic`, `goal` or `cancel`, whatever it holds, and has no other of them
abbrev pub form_in : Bool → Bool → Bool → Fields → Option FedDraft
form_in true false false = message_in
form_in false true false = goal_in
form_in false false true = cancel_in
form_in _ _ _ = λ fields. None

-- what an entry feeds
abbrev pub fed_draft_in : Fields → Option FedDraft
fed_draft_in fields = form_in (is_some fields.topic) (is_some fields.goal) (is_some fields.cancel) fields

-- what an entry with these fields says
abbrev pub entry_draft_in : Fields → Option EntryDraft
entry_draft_in fields = do
  round ← field_value count fields.round
  is ← fed_draft_in fields
  Some (record { round = round; fed = is })

-- an entry of the feed
abbrev pub entry : Data → Option EntryDraft
entry value = entry_draft_in (entry_fields value)

-- ---- the order of ready callbacks

-- the order that a text names
abbrev pub order_named : List ℕ → Option Order
order_named name = lookup (bytes_eq name) ((codes "kind", order.Kind) ∷ (codes "arrival", order.Arrival) ∷ [])

-- an order
abbrev pub ready_order : Data → Option Order
ready_order value = text value >>= order_named

-- whether documents of a version say an order
abbrev pub has_order : ℕ → Bool
has_order version = version == 2

-- the order that a document says: where it has no field `order`, or its version knows none, the order of kinds
abbrev pub order_in : Bool → Data → Option Order
order_in true value = or_default ready_order order.Kind (get (codes "order") value)
order_in false value = Some order.Kind

-- ---- the document

-- what a document declares
abbrev pub declarations : Data → Option GraphDraft
declarations value = do
  topics ← list text (codes "topics") value
  nodes ← list node (codes "nodes") value
  Some (record { topics = topics; nodes = nodes })

-- the draft of a document, where the value has the forms of one
abbrev pub draft_of : Data → Option DocumentDraft
draft_of value = do
  version ← required_field count (codes "version") value
  under ← order_in (has_order version) value
  graph ← declarations value
  moments ← list count (codes "moments") value
  feed ← list entry (codes "feed") value
  Some (record { version = version; order = under; graph = graph; moments = moments; feed = feed })
