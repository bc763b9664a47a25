-- The rounds of a plan on one thread, and their transcript.
use Rattle.std.specs.Prelude.{ℕ, zero, suc, List, [], ◌∷◌, ◌++◌, length, map, replicate, Bool, not, is_some, ◌==◌, Option, None, Some, true, false}
use Rattle.std.specs.List.{filter, flat_map, fold}
use Rattle.std.specs.Option.{unwrap_or}
use Rattle.exec_goal.specs.Table.{is_expired, expired}
use Rattle.exec_msg.specs.Numbers.{EntityNo, Moment}
use Rattle.exec_plan.specs.Entity.{Resolved, queue_depth}
use Rattle.exec_plan.specs.Feeding.{fed_in}
use Rattle.exec_plan.specs.Graph.{GraphData, of_entity, is_topic, is_timer, is_client, is_server, is_action_client, wait_set, declared_at, entity_of, callback_script, is_exclusive, entities_where, names_of, Waitable}
use Rattle.exec_plan.specs.Plan.{PlanData, Fed, Feed}
use Rattle.exec_plan.specs.declared.entity.Declared.{Declared}
use Rattle.exec_plan.specs.declared.order.Order.{Order}
use Rattle.exec_plan.specs.declared.order.Order.TheVariants as order
use Rattle.exec_plan.specs.declared.entity.GraphEntity.{GraphEntity}
use Rattle.exec_plan.specs.declared.entity.EntityOf.TheVariants.{Timer, Subscription, Client, Server, ActionClient}
use Rattle.exec_plan.specs.declared.plan.FedOf.TheVariants.{Message, Goal, Cancel}
use Rattle.exec_msg.specs.Line.{transcript_text}
use Rattle.exec_msg.specs.declared.kind.Kind.{Kind}
use Rattle.exec_msg.specs.declared.kind.Kind.TheVariants as kind
use Rattle.exec_msg.specs.declared.line.Line.{Line}
use Rattle.exec_msg.specs.declared.line.Line.TheVariants as line
use Rattle.exec_script.specs.Zeros.{zeros}
use Rattle.exec_rules.specs.Give.{publish}
use Rattle.exec_rules.specs.Ready.{ready_list, take_inputs}
use Rattle.exec_rules.specs.Run.{run}
use Rattle.exec_rules.specs.World.{WorldState, Handler, TopicEntry, TimerEntry, Queue, ServerEntry, ClientEntry, ActionClientEntry, add_line, add_lines, push, records_of}
use Rattle.exec_rules.specs.declared.item.Item.TheVariants as item
use Rattle.exec_rules.specs.declared.ready.Ready.{Ready}

-- ---- the world before the first round

-- the entity as which a name is declared; of a topic, which is none, it is asked nowhere
abbrev pub as_entity : Declared → GraphEntity
as_entity declared = unwrap_or (entity_of declared) (record { group = 0; is = Timer (record { period = 0; script = [] }) })

-- the entity at a number that is one's
abbrev pub entity_at : GraphData → EntityNo → GraphEntity
entity_at graph number = as_entity (declared_at graph number)

-- the callback of a kind of an entity, which has this number
abbrev pub handler_for : GraphData → Kind → EntityNo → GraphEntity → Handler
handler_for graph kind number entity = record {
  entity = number;
  group = entity.group;
  exclusive = is_exclusive graph entity.group;
  script = unwrap_or (callback_script kind entity.is) [];
}

-- whether an entity is a subscription of a topic
abbrev pub subscribes_to : EntityNo → Resolved → Bool
subscribes_to topic (Subscription entity) = entity.topic == topic
subscribes_to topic _ = false

-- a topic with its subscriptions
abbrev pub new_topic : GraphData → EntityNo → TopicEntry
new_topic graph topic = record { entity = topic; subscribers = entities_where (of_entity false (subscribes_to topic)) graph }

-- the period of a timer
abbrev pub period_of : Resolved → ℕ
period_of (Timer entity) = entity.period
period_of _ = 0

-- a timer, made at moment 0: its first call comes after one period
abbrev pub timer_for : GraphData → EntityNo → GraphEntity → TimerEntry
timer_for graph number entity = record {
  handler = handler_for graph kind.Timer number entity;
  timer = record { next = period_of entity.is; period = period_of entity.is };
}

-- the timer that a graph has at a number, made at moment 0
abbrev pub new_timer : GraphData → EntityNo → TimerEntry
new_timer graph number = timer_for graph number (entity_at graph number)

-- whether callbacks of a kind take their input from a queue: all but those of timers and polls do
abbrev pub takes_from_queue : Kind → Bool
takes_from_queue kind.Timer = false
takes_from_queue kind.Poll = false
takes_from_queue _ = true

-- the numbers of no items, if an order asks for numbers
abbrev pub no_arrivals : Order → Option (List ℕ)
no_arrivals order.Kind = None
no_arrivals order.Arrival = Some []

-- an empty queue of a kind
abbrev pub queue_for : Order → GraphData → Kind → EntityNo → GraphEntity → Queue
queue_for under graph kind number entity = record {
  handler = handler_for graph kind number entity;
  kind = kind;
  depth = queue_depth entity.is;
  items = [];
  arrivals = no_arrivals under;
}

-- the queue of an entity's callbacks of a kind, before anything is sent to it
abbrev pub new_queue : Order → GraphData → Waitable → Queue
new_queue under graph waitable = queue_for under graph waitable.kind waitable.entity (entity_at graph waitable.entity)

-- for how many ticks a server keeps a result, where it doesn't keep it without end
abbrev pub timeout_of : Resolved → Option ℕ
timeout_of (Server entity) = entity.result_timeout
timeout_of _ = None

-- a server without goals
abbrev pub server_for : GraphData → EntityNo → GraphEntity → ServerEntry
server_for graph number entity =
    record { handler = handler_for graph kind.Poll number entity; timeout = timeout_of entity.is; held = [] }

-- the action server that a graph has at a number, before it accepts a goal
abbrev pub new_server : GraphData → EntityNo → ServerEntry
new_server graph number = server_for graph number (entity_at graph number)

-- the service of a client
abbrev pub service_of : Resolved → EntityNo
service_of (Client entity) = entity.service
service_of _ = 0

-- a service client that hasn't called yet
abbrev pub client_for : EntityNo → GraphEntity → ClientEntry
client_for number entity = record { entity = number; service = service_of entity.is; calls = 0; pending = [] }

-- the service client that a graph has at a number, before its first call
abbrev pub new_client : GraphData → EntityNo → ClientEntry
new_client graph number = client_for number (entity_at graph number)

-- the server of an action client
abbrev pub server_of : Resolved → EntityNo
server_of (ActionClient entity) = entity.server
server_of _ = 0

-- whether it asks for the results of its goals
abbrev pub is_asking : Resolved → Bool
is_asking (ActionClient entity) = is_some entity.on_result
is_asking _ = false

-- an action client that hasn't sent a goal yet, at its place among them
abbrev pub action_client_for : ℕ → EntityNo → GraphEntity → ActionClientEntry
action_client_for place number entity = record {
  entity = number;
  place = place;
  server = server_of entity.is;
  asks = is_asking entity.is;
  goals = 0;
}

-- action clients at these numbers, the first of which has this place
abbrev pub new_action_clients : GraphData → ℕ → List EntityNo → List ActionClientEntry
new_action_clients graph place [] = []
new_action_clients graph place (number ∷ numbers) = action_client_for place number (entity_at graph number) ∷ new_action_clients graph (suc place) numbers

-- the world of a plan before its first round
abbrev pub first_world : PlanData → WorldState
first_world plan = record {
  order = plan.order;
  arrivals = 0;
  topics = map (new_topic plan.graph) (entities_where is_topic plan.graph);
  timers = map (new_timer plan.graph) (entities_where is_timer plan.graph);
  queues = map (new_queue plan.order plan.graph) (filter (λ waitable. takes_from_queue waitable.kind) (wait_set plan.graph));
  servers = map (new_server plan.graph) (entities_where is_server plan.graph);
  clients = map (new_client plan.graph) (entities_where is_client plan.graph);
  action_clients = new_action_clients plan.graph 0 (entities_where is_action_client plan.graph);
  variables = replicate (length plan.graph.groups) zeros;
  lines = [];
}

-- ---- expiry

-- the lines of the goals that a server forgets, in order of acceptance
abbrev pub expire_lines : Moment → ServerEntry → List Line
expire_lines moment entry = map (λ goal. line.Expire entry.handler.entity goal.id) (expired moment entry.timeout (records_of entry.held))

-- a server without the goals that it forgets
abbrev pub server_expired : Moment → ServerEntry → ServerEntry
server_expired moment entry = record entry { held = filter (λ held. not (is_expired moment entry.timeout held.goal)) entry.held }

-- the world after expiry at a moment
abbrev pub expire : Moment → WorldState → WorldState
expire moment world = record (add_lines (flat_map (expire_lines moment) world.servers) world) { servers = map (server_expired moment) world.servers }

-- ---- feeding

-- what an entry of the feed does: only a drop that follows has a line
abbrev pub feed_one : Fed → WorldState → WorldState
feed_one (Message topic value) world = publish topic value world
feed_one (Goal server id value) world = push server (item.Goal id None value) world
feed_one (Cancel server id stamp) world = push server (item.Cancel (record { id = id; stamp = stamp }) None) world

-- the world after entries of a feed, one after another
abbrev pub feed : List Feed → WorldState → WorldState
feed entries world = fold (λ before entry. feed_one entry.fed before) world entries

-- ---- rounds

-- the world of which a round's snapshot is taken: its line, expiry, and feeding, in the order of the document
abbrev pub at_snapshot : PlanData → ℕ → Moment → WorldState → WorldState
at_snapshot plan number moment world = feed (fed_in number plan.feed) (expire moment (add_line (line.Round number moment) world))

-- the world after ready callbacks ran, one after another
abbrev pub run_all : List Ready → WorldState → WorldState
run_all list world = fold (λ before one. run one before) world list

-- the world after the snapshot at a moment and the callbacks that are ready then
abbrev pub snapshot_and_run : Moment → WorldState → WorldState
snapshot_and_run moment world = run_all (ready_list moment world) (take_inputs moment world)

-- a round: what comes before its snapshot, the snapshot, and then each ready callback in order
abbrev pub round : PlanData → ℕ → Moment → WorldState → WorldState
round plan number moment world = snapshot_and_run moment (at_snapshot plan number moment world)

-- rounds at these moments, the first of which has this number
abbrev pub rounds : PlanData → ℕ → List Moment → WorldState → WorldState
rounds plan number [] world = world
rounds plan number (moment ∷ moments) world = rounds plan (suc number) moments (round plan number moment world)

-- ---- the end

-- the line of a service client that has calls without a reply
abbrev pub pending_by : EntityNo → ℕ → List Line
pending_by number zero = []
pending_by number (suc more) = line.Pending number (suc more) ∷ []

-- the closing lines after so many rounds
abbrev pub closing_lines : ℕ → WorldState → List Line
closing_lines number world = flat_map (λ entry. pending_by entry.entity (length entry.pending)) world.clients ++ line.End number ∷ []

-- the world whose transcript is closed after so many rounds
abbrev pub finish : ℕ → WorldState → WorldState
finish number world = add_lines (closing_lines number world) world

-- the world after the last round, its transcript closed
abbrev pub last_world : PlanData → WorldState
last_world plan = finish (length plan.moments) (rounds plan 1 plan.moments (first_world plan))

-- the transcript of a plan
abbrev pub lines_of : PlanData → List Line
lines_of plan = (last_world plan).lines

-- its text
abbrev pub text_of : PlanData → List ℕ
text_of plan = transcript_text (names_of plan.graph) (lines_of plan)
