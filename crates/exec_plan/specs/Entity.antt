-- Entities: what each is, over what stands in it for a name and for a script: texts and spelled scripts in a draft, numbers
-- and decoded scripts in a graph.
use Rattle.std.specs.Prelude.{ℕ, List, [], ◌∷◌, Bool, true, ◌&&◌, ◌==◌, nat_le, Option, None, Some}
use Rattle.std.specs.Option.{option_map, option_map_or}
use Rattle.exec_msg.specs.Numbers.{EntityNo}
use Rattle.exec_msg.specs.Options.{◌>>=◌}
use Rattle.exec_plan.specs.declared.entity.EntityKind.{EntityKind}
use Rattle.exec_plan.specs.declared.entity.EntityKind.TheVariants as kind
use Rattle.exec_plan.specs.declared.entity.TheConstants.EntityKind.{IN_ORDER}
use Rattle.exec_plan.specs.declared.entity.EntityOf.{EntityOf}
use Rattle.exec_plan.specs.declared.entity.EntityOf.TheVariants.{Timer, Subscription, Service, Client, Server, ActionClient}
use Rattle.exec_plan.specs.declared.entity.parts.Referent.{Referent}
use Rattle.exec_plan.specs.declared.entity.parts.Referent.TheVariants as referent
use Rattle.exec_msg.specs.declared.limits.TheConstants.{DEPTH, TICKS}
use Rattle.exec_script.specs.Instruction.{Script}
use Rattle.exec_script.specs.declared.place.Role.{Role}
use Rattle.exec_script.specs.declared.place.Role.TheVariants as role
use Rattle.exec_script.specs.declared.word.Word.{Word}

-- ---- names and scripts

-- a script as it is spelled: its instructions, each as a list of words
abbrev pub Spelled : Type 0
Spelled = List (List Word)

-- what an entity is said to be
abbrev pub Drafted : Type 0
Drafted = EntityOf (List ℕ) Spelled

-- what an entity of a graph is
abbrev pub Resolved : Type 0
Resolved = EntityOf EntityNo Script

-- ---- kinds

-- the kinds in the order of numbers
abbrev pub entity_kinds : List EntityKind
entity_kinds = IN_ORDER

-- the place of a kind in that order, from 1
abbrev pub rank_of : EntityKind → ℕ
rank_of kind.Timer = 1
rank_of kind.Subscription = 2
rank_of kind.Service = 3
rank_of kind.Client = 4
rank_of kind.Server = 5
rank_of kind.ActionClient = 6

-- the kind of an entity
abbrev pub kind_of_entity : {N S : Type 0} → EntityOf N S → EntityKind
kind_of_entity (Timer entity) = kind.Timer
kind_of_entity (Subscription entity) = kind.Subscription
kind_of_entity (Service entity) = kind.Service
kind_of_entity (Client entity) = kind.Client
kind_of_entity (Server entity) = kind.Server
kind_of_entity (ActionClient entity) = kind.ActionClient

-- whether an entity is of a kind
abbrev pub is_of : {N S : Type 0} → EntityKind → EntityOf N S → Bool
is_of kind entity = rank_of kind == rank_of (kind_of_entity entity)

-- ---- references

-- a name that an entity refers to, and what that must be declared as
pub record ReferenceData (N : Type 0) : Type 0 where
  pub to : Referent
  pub name : N

-- what an entity refers to: a subscription its topic, a client its service, an action client its server
abbrev pub reference_of : {N S : Type 0} → EntityOf N S → Option (ReferenceData N)
reference_of (Subscription entity) = Some (record { to = referent.Topic; name = entity.topic })
reference_of (Client entity) = Some (record { to = referent.Entity kind.Service; name = entity.service })
reference_of (ActionClient entity) = Some (record { to = referent.Entity kind.Server; name = entity.server })
reference_of _ = None

-- whether what an entity refers to passes a test
abbrev pub refers : {N S : Type 0} → (Referent → N → Bool) → EntityOf N S → Bool
refers test entity = option_map_or (λ reference. test reference.to reference.name) (reference_of entity) true

-- ---- limits

-- a number from 1 up to a greatest one
abbrev pub is_from_1 : ℕ → ℕ → Bool
is_from_1 most number = nat_le 1 number && nat_le number most

-- a timeout in ticks, where there is one
abbrev pub is_timeout : Option ℕ → Bool
is_timeout None = true
is_timeout (Some ticks) = nat_le ticks TICKS

-- how many items each of an entity's queues holds; a timer has none
abbrev pub queue_depth : {N S : Type 0} → EntityOf N S → ℕ
queue_depth (Timer entity) = 0
queue_depth (Subscription entity) = entity.depth
queue_depth (Service entity) = entity.depth
queue_depth (Client entity) = entity.depth
queue_depth (Server entity) = entity.depth
queue_depth (ActionClient entity) = entity.depth

-- whether an entity's period, depth and timeout are within their limits
abbrev pub is_within : {N S : Type 0} → EntityOf N S → Bool
is_within (Timer entity) = is_from_1 TICKS entity.period
is_within (Server entity) = is_from_1 DEPTH entity.depth && is_timeout entity.result_timeout
is_within entity = is_from_1 DEPTH (queue_depth entity)

-- ---- scripts

-- a script with the role in which it runs
pub record RoleScriptData (S : Type 0) : Type 0 where
  pub role : Role
  pub script : S

-- the script for results, where an action client has one
abbrev pub result_scripts : {S : Type 0} → Option S → List (RoleScriptData S)
result_scripts None = []
result_scripts (Some script) = record { role = role.Callback; script = script } ∷ []

-- the scripts of an entity
abbrev pub scripts_of : {N S : Type 0} → EntityOf N S → List (RoleScriptData S)
scripts_of (Timer entity) = record { role = role.Callback; script = entity.script } ∷ []
scripts_of (Subscription entity) = record { role = role.Callback; script = entity.script } ∷ []
scripts_of (Service entity) = record { role = role.Service; script = entity.script } ∷ []
scripts_of (Client entity) = record { role = role.Callback; script = entity.script } ∷ []
scripts_of (Server entity) =
    record { role = role.GoalHandler; script = entity.on_goal }
    ∷ record { role = role.CancelHandler; script = entity.on_cancel }
    ∷ record { role = role.Goal; script = entity.script }
    ∷ []
scripts_of (ActionClient entity) =
    record { role = role.Callback; script = entity.on_response }
    ∷ record { role = role.Callback; script = entity.on_code }
    ∷ record { role = role.Callback; script = entity.on_feedback }
    ∷ result_scripts entity.on_result

-- ---- reading

-- what is there is read, where it can be
abbrev pub if_there : {A B : Type 0} → (A → Option B) → Option A → Option (Option B)
if_there read None = Some None
if_there read (Some value) = option_map Some (read value)

-- an entity whose names and scripts are read anew, where each can be
abbrev pub read_by : {N S M T : Type 0} → (Referent → N → Option M) → (S → Option T) → EntityOf N S → Option (EntityOf M T)
read_by name read (Timer entity) = do
  script ← read entity.script
  Some (Timer (record { period = entity.period; script = script }))
read_by name read (Subscription entity) = do
  topic ← name referent.Topic entity.topic
  script ← read entity.script
  Some (Subscription (record { topic = topic; depth = entity.depth; script = script }))
read_by name read (Service entity) = do
  script ← read entity.script
  Some (Service (record { depth = entity.depth; script = script }))
read_by name read (Client entity) = do
  service ← name (referent.Entity kind.Service) entity.service
  script ← read entity.script
  Some (Client (record { service = service; depth = entity.depth; script = script }))
read_by name read (Server entity) = do
  on_goal ← read entity.on_goal
  on_cancel ← read entity.on_cancel
  script ← read entity.script
  Some (Server (record { depth = entity.depth; result_timeout = entity.result_timeout; on_goal = on_goal; on_cancel = on_cancel; script = script }))
read_by name read (ActionClient entity) = do
  server ← name (referent.Entity kind.Server) entity.server
  on_response ← read entity.on_response
  on_code ← read entity.on_code
  on_feedback ← read entity.on_feedback
  on_result ← if_there read entity.on_result
  Some (ActionClient (record {
    server = server;
    depth = entity.depth;
    on_response = on_response;
    on_code = on_code;
    on_feedback = on_feedback;
    on_result = on_result;
  }))
