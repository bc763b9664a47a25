-- What a world has of its plan.
use Rattle.std.specs.Prelude.{ℕ, List, [], length, map, replicate, Option, None, Some}
use Rattle.exec_script.specs.Zeros.{zeros}
use Rattle.exec_rules.specs.World.{WorldState, TimerEntry, Queue, ServerEntry, ClientEntry, ActionClientEntry}

-- an entry without what a run changes of it
abbrev pub timer_shape : TimerEntry → TimerEntry
timer_shape entry = record entry { timer = record entry.timer { next = 0 } }

-- numbers of which none is left, if there are any
abbrev pub numbers_shape : Option (List ℕ) → Option (List ℕ)
numbers_shape None = None
numbers_shape (Some numbers) = Some []

abbrev pub queue_shape : Queue → Queue
queue_shape queue = record queue { items = []; arrivals = numbers_shape queue.arrivals }

abbrev pub server_shape : ServerEntry → ServerEntry
server_shape entry = record entry { held = [] }

abbrev pub client_shape : ClientEntry → ClientEntry
client_shape entry = record entry { calls = 0; pending = [] }

abbrev pub action_client_shape : ActionClientEntry → ActionClientEntry
action_client_shape entry = record entry { goals = 0 }

-- what a world has of its plan: all that a run changes is taken away
abbrev pub shape_of : WorldState → WorldState
shape_of world = record {
  order = world.order;
  arrivals = 0;
  topics = world.topics;
  timers = map timer_shape world.timers;
  queues = map queue_shape world.queues;
  servers = map server_shape world.servers;
  clients = map client_shape world.clients;
  action_clients = map action_client_shape world.action_clients;
  variables = replicate (length world.variables) zeros;
  lines = [];
}
