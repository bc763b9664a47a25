-- The callbacks that are ready at a snapshot, and what the snapshot takes.
use Rattle.std.specs.Prelude.{ℕ, suc, pos, List, [], ◌∷◌, ◌++◌, length, map, drop, get_or, Bool, ◌&&◌, ◌==◌, if◌then◌else◌, Option, None, Some}
use Rattle.std.specs.List.{filter, find, flat_map, fold}
use Rattle.std.specs.Option.{option_map, option_map_or}
use Rattle.exec_goal.specs.Cancel.{candidates}
use Rattle.exec_goal.specs.Info.{info_of}
use Rattle.exec_goal.specs.State.{is_canceling, is_worked_on}
use Rattle.exec_goal.specs.Table.{GoalRecord}
use Rattle.exec_goal.specs.declared.info.GoalInfo.{GoalInfo}
use Rattle.exec_msg.specs.Numbers.{EntityNo, GoalId, Moment}
use Rattle.exec_script.specs.Instruction.{Script}
use Rattle.exec_msg.specs.Kind.{ready_number}
use Rattle.exec_msg.specs.Lists.{change_first, drop_first}
use Rattle.exec_msg.specs.Timer.{is_due, after_call}
use Rattle.exec_msg.specs.declared.kind.Kind.{Kind}
use Rattle.exec_msg.specs.declared.kind.Kind.TheVariants as kind
use Rattle.exec_msg.specs.declared.line.Line.{Line}
use Rattle.exec_msg.specs.declared.line.Line.TheVariants as line
use Rattle.exec_script.specs.Script.{CallInput}
use Rattle.exec_task.specs.Task.{is_awake, poll_input}
use Rattle.exec_task.specs.declared.wait.Turn.{Turn}
use Rattle.exec_plan.specs.declared.order.Order.{Order}
use Rattle.exec_plan.specs.declared.order.Order.TheVariants as order
use Rattle.exec_rules.specs.Item.{taker_of, first_of, aux_of, id_of}
use Rattle.exec_rules.specs.Sorting.{sorted_by}
use Rattle.exec_rules.specs.World.{WorldState, Handler, TimerEntry, Queue, HeldGoal, ServerEntry, ClientEntry}
use Rattle.exec_rules.specs.World.{goals_at, has_room_for, held_for, is_client_at, is_queue}
use Rattle.exec_rules.specs.declared.item.Item.{Item}
use Rattle.exec_rules.specs.declared.item.Item.TheVariants as item
use Rattle.exec_rules.specs.declared.ready.Cause.{Cause}
use Rattle.exec_rules.specs.declared.ready.Cause.TheVariants as cause
use Rattle.exec_rules.specs.declared.ready.Ready.{Ready}

-- ---- what a ready callback is handed

-- the kind of a callback that is ready for this cause
abbrev pub kind_of : Cause → Kind
kind_of cause.Due = kind.Timer
kind_of (cause.Took taken) = taker_of taken
kind_of (cause.Woke id value canceling) = kind.Poll

-- the turn in which a goal is polled
abbrev pub turn_at : Moment → Bool → Turn
turn_at moment canceling = record { moment = moment; canceling = canceling }

-- what it is handed at a moment, where it takes a cancel request with so many candidates
abbrev pub input_at : Moment → Cause → ℕ → CallInput
input_at moment cause.Due candidates = record { first = pos moment; aux = pos 0; moment = moment }
input_at moment (cause.Took taken) candidates = record { first = first_of taken; aux = aux_of taken candidates; moment = moment }
input_at moment (cause.Woke id value canceling) candidates = poll_input value (turn_at moment canceling)

-- what a ready callback is handed
abbrev pub input_of : Ready → CallInput
input_of ready = input_at ready.moment ready.cause (length ready.candidates)

-- the identifier on the line of a callback that is ready for this cause
abbrev pub id_of_cause : Cause → Option GoalId
id_of_cause cause.Due = None
id_of_cause (cause.Took taken) = id_of taken
id_of_cause (cause.Woke id value canceling) = Some id

-- the line with which a callback begins that is handed this
abbrev pub line_of : EntityNo → Cause → CallInput → Line
line_of entity why input = line.Run entity (kind_of why) input.first input.aux (id_of_cause why)

-- the line with which a ready callback begins
abbrev pub run_line : Ready → Line
run_line ready = line_of ready.entity ready.cause (input_of ready)

-- ---- what is ready

-- a ready callback, whose place in the ready list isn't known yet
abbrev pub ready_for : Moment → Handler → Cause → List GoalInfo → Option Script → Ready
ready_for moment handler why candidates script = record {
  position = 0;
  entity = handler.entity;
  group = handler.group;
  exclusive = handler.exclusive;
  moment = moment;
  cause = why;
  candidates = candidates;
  script = script;
}

-- a timer's callback where it is due
abbrev pub due_ready : Moment → TimerEntry → List Ready
due_ready moment entry = if is_due entry.timer moment then ready_for moment entry.handler cause.Due [] (Some entry.handler.script) ∷ [] else []

-- the candidates of an item that a server with these goals takes
abbrev pub candidates_for : Item → List GoalRecord → List GoalInfo
candidates_for (item.Cancel request client) goals = map info_of (candidates request goals)
candidates_for _ goals = []

-- the script that runs for an item that is taken, where these are the server's goals: none for an ask, and none for a goal
-- request whose identifier is held or that finds no room
abbrev pub script_to_take : Item → List GoalRecord → Script → Option Script
script_to_take (item.Goal id client value) goals script = if has_room_for id goals then Some script else None
script_to_take (item.Ask id client) goals script = None
script_to_take _ goals script = Some script

-- the callback that takes the first of these items, where these are the server's goals
abbrev pub item_ready : Moment → Handler → List GoalRecord → List Item → List Ready
item_ready moment handler goals [] = []
item_ready moment handler goals (first ∷ items) =
    ready_for moment handler (cause.Took first) (candidates_for first goals) (script_to_take first goals handler.script) ∷ []

-- the callback that takes from a queue where that has an item
abbrev pub queue_ready : Moment → WorldState → Queue → List Ready
queue_ready moment world queue = item_ready moment queue.handler (goals_at queue.handler.entity world) queue.items

-- whether a goal is awake at a moment
abbrev pub is_goal_awake : Moment → HeldGoal → Bool
is_goal_awake moment held = is_worked_on held.goal.state && is_awake held.work.task (turn_at moment (is_canceling held.goal.state))

-- the poll of a goal
abbrev pub woken : GoalRecord → Cause
woken goal = cause.Woke goal.id goal.value (is_canceling goal.state)

-- a server's polls, in order of acceptance
abbrev pub poll_ready : Moment → ServerEntry → List Ready
poll_ready moment entry =
    map (λ held. ready_for moment entry.handler (woken held.goal) [] (Some entry.handler.script)) (filter (is_goal_awake moment) entry.held)

-- ready callbacks at their places, the first of which is this
abbrev pub placed_from : ℕ → List Ready → List Ready
placed_from position [] = []
placed_from position (one ∷ others) = record one { position = position } ∷ placed_from (suc position) others

-- all callbacks that are ready: those of timers, what takes from queues, and polls
abbrev pub all_ready : Moment → WorldState → List Ready
all_ready moment world =
    flat_map (due_ready moment) world.timers ++ flat_map (queue_ready moment world) world.queues ++ flat_map (poll_ready moment) world.servers

-- the number of the arrival of a queue's first item
abbrev pub first_number : Queue → ℕ
first_number queue = option_map_or (λ numbers. get_or numbers 0 0) queue.arrivals 0

-- the same of an entity's queue of a kind
abbrev pub first_arrival : EntityNo → Kind → WorldState → ℕ
first_arrival entity kind world = option_map_or first_number (find (is_queue entity kind) world.queues) 0

-- the number of the last arrival of a server's goal
abbrev pub goal_arrival : EntityNo → GoalId → WorldState → ℕ
goal_arrival server id world = option_map_or (λ held. held.arrival) (held_for server id world) 0

-- the number of the arrival that made an entity's callback ready for this cause; a timer's is ready by none, and comes first
abbrev pub arrival_for : EntityNo → Cause → WorldState → ℕ
arrival_for entity cause.Due world = 0
arrival_for entity (cause.Took taken) world = first_arrival entity (taker_of taken) world
arrival_for entity (cause.Woke id value canceling) world = goal_arrival entity id world

-- the rank of a ready callback of a world under an order
abbrev pub rank_under : Order → WorldState → Ready → ℕ
rank_under order.Kind world one = ready_number (kind_of one.cause)
rank_under order.Arrival world one = arrival_for one.entity one.cause world

-- the ready list: all that is ready, in the order of ranks
abbrev pub ready_list : Moment → WorldState → List Ready
ready_list moment world = placed_from 1 (sorted_by (rank_under world.order world) (all_ready moment world))

-- ---- what is taken

-- a timer after the snapshot at a moment: its call is made where it is due
abbrev pub timer_taken : Moment → TimerEntry → TimerEntry
timer_taken moment entry = if is_due entry.timer moment then record entry { timer = after_call entry.timer moment } else entry

-- a queue after it: its first item is taken
abbrev pub queue_taken : Queue → Queue
queue_taken queue = record queue { items = drop 1 queue.items; arrivals = option_map (drop 1) queue.arrivals }

-- a service client whose call of a number is answered
abbrev pub call_answered : ℕ → ClientEntry → ClientEntry
call_answered number entry = record entry { pending = drop_first (λ call. call == number) entry.pending }

-- service clients after an entity's queue hands on the first of these items: a reply answers a call
abbrev pub answered_by_first : EntityNo → List Item → List ClientEntry → List ClientEntry
answered_by_first entity (item.Reply number value ∷ items) clients = change_first (is_client_at entity) (call_answered number) clients
answered_by_first entity _ clients = clients

-- service clients after a queue hands on its first item
abbrev pub reply_taken : List ClientEntry → Queue → List ClientEntry
reply_taken clients queue = answered_by_first queue.handler.entity queue.items clients

-- the world after each input is taken
abbrev pub take_inputs : Moment → WorldState → WorldState
take_inputs moment world =
    record world {
      timers = map (timer_taken moment) world.timers;
      queues = map queue_taken world.queues;
      clients = fold reply_taken world.clients world.queues;
    }

-- whether a ready callback is an entity's of a kind
abbrev pub is_callback_of : EntityNo → Kind → Ready → Bool
is_callback_of entity kind one = (one.entity == entity) && (ready_number (kind_of one.cause) == ready_number kind)
