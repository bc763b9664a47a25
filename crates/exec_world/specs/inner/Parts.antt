-- The parts of the first world: entities number by number, and queues kind by kind.
use Rattle.std.specs.Prelude.{List, [], ◌∷◌, ◌++◌, length, map, Bool, true, false, if◌then◌else◌}
use Rattle.exec_msg.specs.Numbers.{EntityNo}
use Rattle.exec_plan.specs.Graph.{GraphData, declared_at, entities_where, has_kind, is_action_client, is_client, is_server, is_timer, is_topic}
use Rattle.exec_msg.specs.declared.kind.Kind.{Kind}
use Rattle.exec_plan.specs.declared.order.Order.{Order}
use Rattle.exec_rules.specs.Transcript.{action_client_for, entity_at, new_action_clients, new_client, new_queue, new_server, new_timer, new_topic, takes_from_queue}
use Rattle.exec_rules.specs.World.{ActionClientEntry, ClientEntry, Queue, ServerEntry, TimerEntry, TopicEntry}

-- the entities of a world by their kinds
pub record EntitiesData : Type 0 where
  pub topics : List TopicEntry
  pub timers : List TimerEntry
  pub servers : List ServerEntry
  pub clients : List ClientEntry
  pub action_clients : List ActionClientEntry

-- those of a graph before the first round
abbrev pub new_entities : GraphData → EntitiesData
new_entities graph = record {
  topics = map (new_topic graph) (entities_where is_topic graph);
  timers = map (new_timer graph) (entities_where is_timer graph);
  servers = map (new_server graph) (entities_where is_server graph);
  clients = map (new_client graph) (entities_where is_client graph);
  action_clients = new_action_clients graph 0 (entities_where is_action_client graph);
}

-- a list, with one more element at its end if a test says so
abbrev pub with_if : {A : Type 0} → Bool → A → List A → List A
with_if true x xs = xs ++ x ∷ []
with_if false x xs = xs

-- entities, with what a number is declared as after the others of its kind
abbrev pub with_declared : GraphData → EntityNo → EntitiesData → EntitiesData
with_declared graph number before = record {
  topics = with_if (is_topic (declared_at graph number)) (new_topic graph number) before.topics;
  timers = with_if (is_timer (declared_at graph number)) (new_timer graph number) before.timers;
  servers = with_if (is_server (declared_at graph number)) (new_server graph number) before.servers;
  clients = with_if (is_client (declared_at graph number)) (new_client graph number) before.clients;
  action_clients = with_if (is_action_client (declared_at graph number))
      (action_client_for (length before.action_clients) number (entity_at graph number)) before.action_clients;
}

-- the queue of an entity's callbacks of a kind
abbrev pub new_queue_of : Order → GraphData → Kind → EntityNo → Queue
new_queue_of under graph kind number = new_queue under graph (record { kind = kind; entity = number })

-- the queues of a kind, entity by entity
abbrev pub queues_of : Order → GraphData → Kind → List Queue
queues_of under graph kind = if takes_from_queue kind then map (new_queue_of under graph kind) (entities_where (has_kind kind) graph) else []
