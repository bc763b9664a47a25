-- The world: what changes while a plan is run.
use Rattle.std.specs.Prelude.{ℕ, ◌+◌, ℤ, List, [], ◌∷◌, ◌++◌, map, Bool, not, ◌&&◌, ◌||◌, ◌==◌, Option, None, Some, slice_index_or, slice_set}
use Rattle.std.specs.List.{find}
use Rattle.std.specs.Option.{option_map, option_map_or}
use Rattle.exec_goal.specs.Table.{GoalRecord, has_id, holds_id, is_full}
use Rattle.exec_msg.specs.Numbers.{EntityNo, GoalId}
use Rattle.exec_script.specs.Instruction.{Script}
use Rattle.exec_plan.specs.Graph.{GroupNo}
use Rattle.exec_plan.specs.declared.order.Order.{Order}
use Rattle.exec_plan.specs.declared.order.Order.TheVariants as order
use Rattle.exec_msg.specs.KeepLast.{sent, displaced}
use Rattle.exec_msg.specs.Kind.{ready_number}
use Rattle.exec_msg.specs.Lists.{change_first}
use Rattle.exec_msg.specs.Timer.{TimerState}
use Rattle.exec_msg.specs.declared.kind.Kind.{Kind}
use Rattle.exec_msg.specs.declared.line.Line.{Line}
use Rattle.exec_msg.specs.declared.line.Line.TheVariants as line
use Rattle.exec_script.specs.Script.{Variables}
use Rattle.exec_script.specs.Zeros.{zeros}
use Rattle.exec_task.specs.Goal.{GoalTaskState}
use Rattle.exec_task.specs.Task.{TaskState}
use Rattle.exec_rules.specs.Item.{taker_of, first_of}
use Rattle.exec_rules.specs.declared.item.Item.{Item}

-- whose callback it is: an entity's, of a callback group that is mutually exclusive or not, and with which script
pub record Handler : Type 0 where
  pub entity : EntityNo
  pub group : GroupNo
  pub exclusive : Bool
  pub script : Script

-- a timer, with its callback
pub record TimerEntry : Type 0 where
  pub handler : Handler
  pub timer : TimerState

-- a queue: the callback that takes from it, of which kind that is, its depth, its items, the oldest first, and the number of
-- each item's arrival, if the order asks for numbers
pub record Queue : Type 0 where
  pub handler : Handler
  pub kind : Kind
  pub depth : ℕ
  pub items : List Item
  pub arrivals : Option (List ℕ)

-- a topic with its subscriptions, in the order of declaration
pub record TopicEntry : Type 0 where
  pub entity : EntityNo
  pub subscribers : List EntityNo

-- what a goal does: its script, the value that it was sent with, and where its task stands
pub record GoalWork : Type 0 where
  pub script : Script
  pub value : ℤ
  pub task : TaskState

-- the work that a task does
abbrev pub work_of : GoalTaskState → GoalWork
work_of task = record { script = task.script; value = task.value; task = task.task }

-- a goal that a server holds: its record, the action client that sent it (none where it was fed), its work, and the number of
-- its last arrival
pub record HeldGoal : Type 0 where
  pub goal : GoalRecord
  pub client : Option EntityNo
  pub work : GoalWork
  pub arrival : ℕ

-- a server: the callback that polls its goals, for how many ticks it keeps a result (without end where there is none), and
-- the goals that it holds, in order of acceptance
pub record ServerEntry : Type 0 where
  pub handler : Handler
  pub timeout : Option ℕ
  pub held : List HeldGoal

-- a service client: its service, the number of its last call, and the numbers of those without a reply
pub record ClientEntry : Type 0 where
  pub entity : EntityNo
  pub service : EntityNo
  pub calls : ℕ
  pub pending : List ℕ

-- an action client: its place among the action clients, from 0, its server, whether it asks for the results of its goals,
-- and the number of its last goal
pub record ActionClientEntry : Type 0 where
  pub entity : EntityNo
  pub place : ℕ
  pub server : EntityNo
  pub asks : Bool
  pub goals : ℕ

-- the world: the order in which ready callbacks are run, and the number of the last arrival; topics, timers, queues in the
-- order of their kinds, servers, service clients and action clients, each of the others in the order of declaration; the
-- variables of each callback group (no callback of a reentrant group reads or writes its own); and the lines so far
pub record WorldState : Type 0 where
  pub order : Order
  pub arrivals : ℕ
  pub topics : List TopicEntry
  pub timers : List TimerEntry
  pub queues : List Queue
  pub servers : List ServerEntry
  pub clients : List ClientEntry
  pub action_clients : List ActionClientEntry
  pub variables : List Variables
  pub lines : List Line

-- ---- lines

-- the world with one more line
abbrev pub add_line : Line → WorldState → WorldState
add_line line world = record world { lines = world.lines ++ line ∷ [] }

-- the world with more lines
abbrev pub add_lines : List Line → WorldState → WorldState
add_lines lines world = record world { lines = world.lines ++ lines }

-- ---- variables of callback groups

-- the variables of a group
abbrev pub variables_at : GroupNo → WorldState → Variables
variables_at group world = slice_index_or world.variables group zeros

-- the world with other variables of a group
abbrev pub with_variables : GroupNo → Variables → WorldState → WorldState
with_variables group variables world = record world { variables = slice_set world.variables group variables }

-- ---- arrivals

-- the number of the next arrival: the order of kinds asks for no numbers, and each is 0 there
abbrev pub next_in : Order → ℕ → ℕ
next_in order.Kind last = 0
next_in order.Arrival last = last + 1

-- the number of a world's next arrival
abbrev pub next_arrival : WorldState → ℕ
next_arrival world = next_in world.order world.arrivals

-- the world after one more arrival
abbrev pub with_arrival : WorldState → WorldState
with_arrival world = record world { arrivals = next_arrival world }

-- a goal that arrived with this number
abbrev pub arrived : ℕ → HeldGoal → HeldGoal
arrived number held = record held { arrival = number }

-- ---- queues

-- whether a queue is that of an entity and a kind
abbrev pub is_queue : EntityNo → Kind → Queue → Bool
is_queue entity kind queue = (queue.handler.entity == entity) && (ready_number queue.kind == ready_number kind)

-- the line of an item that an entity's queue lost
abbrev pub drop_line : EntityNo → Item → Line
drop_line entity lost = line.Drop entity (taker_of lost) (first_of lost)

-- a queue after an item was sent to it, with the number of its arrival
abbrev pub queue_after : ℕ → Item → Queue → Queue
queue_after number new queue = record queue { items = sent queue.depth new queue.items; arrivals = option_map (sent queue.depth number) queue.arrivals }

-- the world after an item was sent to an entity's queue of its kind: the item arrives
abbrev pub queued : EntityNo → Item → WorldState → WorldState
queued entity new world =
    record (with_arrival world) { queues = change_first (is_queue entity (taker_of new)) (queue_after (next_arrival world) new) world.queues }

-- what these queues lose by an item that is sent to an entity
abbrev pub lost_from : EntityNo → Item → List Queue → List Item
lost_from entity new queues = option_map_or (λ queue. displaced queue.depth new queue.items) (find (is_queue entity (taker_of new)) queues) []

-- what the world's queues lose by it
abbrev pub lost_by : EntityNo → Item → WorldState → List Item
lost_by entity new world = lost_from entity new world.queues

-- an item is sent to an entity: what its queue loses by it is dropped with a line
abbrev pub push : EntityNo → Item → WorldState → WorldState
push entity new world = add_lines (map (drop_line entity) (lost_by entity new world)) (queued entity new world)

-- an item is sent to an entity, if there is one
abbrev pub push_any : Option EntityNo → Item → WorldState → WorldState
push_any None new world = world
push_any (Some entity) new world = push entity new world

-- ---- topics

-- the subscriptions of a topic
abbrev pub subscribers_at : EntityNo → WorldState → List EntityNo
subscribers_at topic world = option_map_or (λ entry. entry.subscribers) (find (λ entry. entry.entity == topic) world.topics) []

-- ---- servers and their goals

-- whether a server is the one of this number
abbrev pub is_server_at : EntityNo → ServerEntry → Bool
is_server_at server entry = entry.handler.entity == server

-- the records of goals
abbrev pub records_of : List HeldGoal → List GoalRecord
records_of held = map (λ one. one.goal) held

-- the goals that the server of a number holds; one that isn't there holds none
abbrev pub held_in : EntityNo → List ServerEntry → List HeldGoal
held_in server servers = option_map_or (λ entry. entry.held) (find (is_server_at server) servers) []

-- the goals that a server holds
abbrev pub held_at : EntityNo → WorldState → List HeldGoal
held_at server world = held_in server world.servers

-- the records of the goals of the server of a number
abbrev pub goals_in : EntityNo → List ServerEntry → List GoalRecord
goals_in server servers = option_map_or (λ entry. records_of entry.held) (find (is_server_at server) servers) []

-- the records of a server's goals
abbrev pub goals_at : EntityNo → WorldState → List GoalRecord
goals_at server world = goals_in server world.servers

-- whether a server with these goals can hold one more of an identifier: it holds none of it, and isn't full
abbrev pub has_room_for : GoalId → List GoalRecord → Bool
has_room_for id goals = not (holds_id id goals || is_full goals)

-- the world in which a server is changed
abbrev pub change_server : EntityNo → (ServerEntry → ServerEntry) → WorldState → WorldState
change_server server change world = record world { servers = change_first (is_server_at server) change world.servers }

-- goals of which each has the record at its place
abbrev pub with_records : List GoalRecord → List HeldGoal → List HeldGoal
with_records (goal ∷ goals) (one ∷ held) = record one { goal = goal } ∷ with_records goals held
with_records _ _ = []

-- a server of whose goals the records are changed
abbrev pub with_goals : (List GoalRecord → List GoalRecord) → ServerEntry → ServerEntry
with_goals change entry = record entry { held = with_records (change (records_of entry.held)) entry.held }

-- the world in which the records of a server's goals are changed
abbrev pub change_goals : EntityNo → (List GoalRecord → List GoalRecord) → WorldState → WorldState
change_goals server change world = change_server server (with_goals change) world

-- whether a goal has this identifier
abbrev pub is_for : GoalId → HeldGoal → Bool
is_for id held = has_id id held.goal

-- a server whose goal of an identifier is changed
abbrev pub with_held : GoalId → (HeldGoal → HeldGoal) → ServerEntry → ServerEntry
with_held id change entry = record entry { held = change_first (is_for id) change entry.held }

-- the world in which it is changed
abbrev pub change_held : EntityNo → GoalId → (HeldGoal → HeldGoal) → WorldState → WorldState
change_held server id change world = change_server server (with_held id change) world

-- a server's goal of an identifier
abbrev pub held_for : EntityNo → GoalId → WorldState → Option HeldGoal
held_for server id world = find (is_for id) (held_at server world)

-- the work of the goal of an identifier of the server of a number, if it holds the goal
abbrev pub work_in : EntityNo → GoalId → List ServerEntry → Option GoalWork
work_in server id servers = option_map (λ held. held.work) (find (is_for id) (held_in server servers))

-- the work of a server's goal
abbrev pub work_at : EntityNo → GoalId → WorldState → Option GoalWork
work_at server id world = work_in server id world.servers

-- a goal that does this work
abbrev pub doing : GoalWork → HeldGoal → HeldGoal
doing work held = record held { work = work }

-- the world in which a server's goal does this work
abbrev pub with_work : EntityNo → GoalId → GoalWork → WorldState → WorldState
with_work server id work world = change_held server id (doing work) world

-- a goal whose task stands so
abbrev pub standing : TaskState → HeldGoal → HeldGoal
standing task held = doing (record held.work { task = task }) held

-- the world in which the task of a server's goal stands so
abbrev pub with_task : EntityNo → GoalId → TaskState → WorldState → WorldState
with_task server id task world = change_held server id (standing task) world

-- ---- clients

-- whether a service client is the one of this number
abbrev pub is_client_at : EntityNo → ClientEntry → Bool
is_client_at client entry = entry.entity == client

-- the service client of a number
abbrev pub client_at : EntityNo → WorldState → Option ClientEntry
client_at client world = find (is_client_at client) world.clients

-- a service client after its next call, which is pending
abbrev pub client_called : ClientEntry → ClientEntry
client_called entry = record entry { calls = entry.calls + 1; pending = entry.pending ++ (entry.calls + 1) ∷ [] }

-- the world after a service client made its next call
abbrev pub with_call : EntityNo → WorldState → WorldState
with_call client world = record world { clients = change_first (is_client_at client) client_called world.clients }

-- whether an action client is the one of this number
abbrev pub is_action_client_at : EntityNo → ActionClientEntry → Bool
is_action_client_at client entry = entry.entity == client

-- the action client of a number
abbrev pub action_client_at : EntityNo → WorldState → Option ActionClientEntry
action_client_at client world = find (is_action_client_at client) world.action_clients

-- the world after an action client sent its next goal
abbrev pub with_goal_sent : EntityNo → WorldState → WorldState
with_goal_sent client world =
    record world { action_clients = change_first (is_action_client_at client) (λ entry. record entry { goals = entry.goals + 1 }) world.action_clients }
