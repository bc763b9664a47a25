-- Graphs: nodes with their callback groups, topics, and the entities that the `rclcpp` documentation names.
use Rattle.std.specs.Prelude.{ℕ, suc, List, [], ◌∷◌, map, Bool, true, false, ◌&&◌, is_some, Option, None, Some, slice_get, slice_index_or}
use Rattle.std.specs.List.{flat_map, position_from}
use Rattle.std.specs.Option.{option_map, option_map_or, unwrap_or}
use Rattle.std.specs.Str.{bytes_eq}
use Rattle.exec_msg.specs.declared.kind.Kind.{Kind}
use Rattle.exec_msg.specs.declared.kind.Kind.TheVariants as kind
use Rattle.exec_msg.specs.declared.kind.TheConstants.Kind.{IN_ORDER}
use Rattle.exec_msg.specs.Numbers.{EntityNo}
use Rattle.exec_script.specs.Instruction.{Script}
use Rattle.exec_plan.specs.Entity.{Resolved, is_of}
use Rattle.exec_plan.specs.declared.entity.CallbackGroup.{CallbackGroup}
use Rattle.exec_plan.specs.declared.entity.Declared.{Declared}
use Rattle.exec_plan.specs.declared.entity.Declared.TheVariants.{Topic, Entity}
use Rattle.exec_plan.specs.declared.entity.EntityKind.{EntityKind}
use Rattle.exec_plan.specs.declared.entity.EntityKind.TheVariants as entity_kind
use Rattle.exec_plan.specs.declared.entity.GraphEntity.{GraphEntity}
use Rattle.exec_plan.specs.declared.entity.EntityOf.TheVariants.{Timer, Subscription, Service, Client, Server, ActionClient}

-- the number of a callback group
abbrev pub GroupNo : Type 0
GroupNo = ℕ

-- an entity of a callback group
abbrev pub in_group : GroupNo → Resolved → Declared
in_group group is = Entity (record { group = group; is = is })

-- a topic or an entity: its name, and what it is
pub record EntityData : Type 0 where
  pub name : List ℕ
  pub is : Declared

-- a graph: its nodes' names, its callback groups, and its topics and entities, each at its number: first the topics, then
-- timers, subscriptions, services, clients, servers and action clients, each in the order of declaration
pub record GraphData : Type 0 where
  pub nodes : List (List ℕ)
  pub groups : List CallbackGroup
  pub entities : List EntityData

-- the names of topics and entities at their numbers
abbrev pub names_of : GraphData → List (List ℕ)
names_of graph = map (λ entity. entity.name) graph.entities

-- what stands at a number
abbrev pub declared_at : GraphData → EntityNo → Declared
declared_at graph number = (slice_index_or graph.entities number (record { name = []; is = Topic })).is

-- ---- what stands at a number

-- the entity as which a name is declared; a topic is none
abbrev pub entity_of : Declared → Option GraphEntity
entity_of Topic = None
entity_of (Entity entity) = Some entity

-- what is said of an entity; of a topic it is this
abbrev pub of_entity : {A : Type 0} → A → (Resolved → A) → Declared → A
of_entity otherwise say Topic = otherwise
of_entity otherwise say (Entity entity) = say entity.is

-- whether a name is declared as a topic
abbrev pub is_topic : Declared → Bool
is_topic Topic = true
is_topic (Entity entity) = false

-- whether it is declared as an entity of a kind
abbrev pub is_a : EntityKind → Declared → Bool
is_a kind = of_entity false (is_of kind)

-- whether a name is declared as a timer
abbrev pub is_timer : Declared → Bool
is_timer = is_a entity_kind.Timer

-- whether a name is declared as a service client
abbrev pub is_client : Declared → Bool
is_client = is_a entity_kind.Client

-- whether a name is declared as an action server
abbrev pub is_server : Declared → Bool
is_server = is_a entity_kind.Server

-- whether a name is declared as an action client
abbrev pub is_action_client : Declared → Bool
is_action_client = is_a entity_kind.ActionClient

-- the callback group of an entity; a topic has none
abbrev pub group_of : Declared → Option GroupNo
group_of declared = option_map (λ entity. entity.group) (entity_of declared)

-- whether a callback group is mutually exclusive; a reentrant one isn't, and no group but the graph's is
abbrev pub is_exclusive : GraphData → GroupNo → Bool
is_exclusive graph group = option_map_or (λ found. found.exclusive) (slice_get graph.groups group) false

-- ---- by name

-- the number of a graph's topic of a name
abbrev pub topic_at : GraphData → List ℕ → Option ℕ
topic_at graph name = position_from (λ entity. is_topic entity.is && bytes_eq entity.name name) 0 graph.entities

-- the number of a graph's action server of a name
abbrev pub server_at : GraphData → List ℕ → Option ℕ
server_at graph name = position_from (λ entity. is_server entity.is && bytes_eq entity.name name) 0 graph.entities

-- ---- callbacks

-- the script of an entity's callbacks of a kind, where it has such callbacks; an ask runs none, and has the empty one here
abbrev pub callback_script : Kind → Resolved → Option Script
callback_script kind.Timer (Timer entity) = Some entity.script
callback_script kind.Message (Subscription entity) = Some entity.script
callback_script kind.Request (Service entity) = Some entity.script
callback_script kind.Reply (Client entity) = Some entity.script
callback_script kind.Goal (Server entity) = Some entity.on_goal
callback_script kind.Cancel (Server entity) = Some entity.on_cancel
callback_script kind.Ask (Server entity) = Some []
callback_script kind.Poll (Server entity) = Some entity.script
callback_script kind.Response (ActionClient entity) = Some entity.on_response
callback_script kind.Code (ActionClient entity) = Some entity.on_code
callback_script kind.Feedback (ActionClient entity) = Some entity.on_feedback
callback_script kind.Result (ActionClient entity) = Some (unwrap_or entity.on_result [])
callback_script _ _ = None

-- the script that callbacks of a kind run of what is declared so; it is empty where there are no such callbacks
abbrev pub script_for : Kind → Declared → Script
script_for kind = of_entity [] (λ is. unwrap_or (callback_script kind is) [])

-- the same of what is declared at a number
abbrev pub script_at : GraphData → EntityNo → Kind → Script
script_at graph number kind = script_for kind (declared_at graph number)

-- the kinds of callbacks in the order in which ready callbacks run
abbrev pub kinds : List Kind
kinds = IN_ORDER

-- a list with one more in front where the test holds
abbrev pub cons_if : {A : Type 0} → Bool → A → List A → List A
cons_if true first rest = first ∷ rest
cons_if false first rest = rest

-- the numbers of the entities that pass a test, where the first has this number
abbrev pub numbers_where : (Declared → Bool) → EntityNo → List EntityData → List EntityNo
numbers_where test number [] = []
numbers_where test number (entity ∷ entities) = cons_if (test entity.is) number (numbers_where test (suc number) entities)

-- the numbers of a graph's entities that pass a test, in the order of declaration
abbrev pub entities_where : (Declared → Bool) → GraphData → List EntityNo
entities_where test graph = numbers_where test 0 graph.entities

-- whether an entity has callbacks of a kind
abbrev pub has_kind : Kind → Declared → Bool
has_kind kind = of_entity false (λ is. is_some (callback_script kind is))

-- what may become ready: an entity's callbacks of a kind
pub record Waitable : Type 0 where
  pub kind : Kind
  pub entity : EntityNo

-- the wait set in ready order: by kind, and within a kind in the order of declaration
abbrev pub wait_set : GraphData → List Waitable
wait_set graph = flat_map (λ kind. map (λ entity. record { kind = kind; entity = entity }) (entities_where (has_kind kind) graph)) kinds
