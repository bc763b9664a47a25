-- What a snapshot makes of the queues at places.
use Rattle.std.specs.Prelude.{◌≡◌, ℕ, ◌+◌, ◌≤◌, List, [], ◌++◌, length, map, take, drop, Bool, ◌&&◌, Option, None, Some, slice_get}
use Rattle.std.specs.List.{All, AllByRecursion, filter, flat_map, fold}
use Rattle.std.specs.Option.{option_map_or}
use Rattle.exec_msg.specs.declared.kind.Kind.TheVariants as kind
use Rattle.exec_msg.specs.declared.line.Line.TheVariants as line
use Rattle.exec_plan.specs.Graph.{GraphData, script_at}
use Rattle.exec_plan.specs.declared.order.Order.{Order}
use Rattle.exec_plan.specs.declared.order.Order.TheVariants as order
use Rattle.exec_rules.specs.Item.{taker_of}
use Rattle.exec_rules.specs.Ready.{item_ready, placed_from, poll_ready, rank_under, reply_taken, timer_taken}
use Rattle.exec_rules.specs.Sorting.{sorted_by}
use Rattle.exec_rules.specs.Transcript.{expire, feed, run_all}
use Rattle.exec_rules.specs.inner.Awake.{awake_goals, poll_at}
use Rattle.exec_rules.specs.inner.ByKind.{listed_by_kind, queues_before_polls, ready_before, ready_behind, taken_in_parts}
use Rattle.exec_rules.specs.inner.Listing.{as_listed, with_script_of}
use Rattle.exec_msg.specs.Numbers.{Moment}
use Rattle.exec_rules.specs.World.{ClientEntry, Queue, ServerEntry, WorldState, add_line, goals_in}
use Rattle.exec_rules.specs.inner.Places.{places_where}
use Rattle.exec_queue.specs.inner.Queues.{has_item, is_in_part}
use Rattle.exec_rules.specs.declared.listed.Listed.{Listed}
use Rattle.exec_rules.specs.declared.ready.AwakeGoal.{AwakeGoal}
use Rattle.exec_rules.specs.declared.ready.Ready.{Ready}
use Rattle.exec_world.specs.declared.weighing.Heavy.{Heavy}
use Rattle.exec_world.specs.declared.state.round.Round.{Round}

-- the callback that takes from a queue where that has an item
abbrev pub front_of : Moment → List ServerEntry → Queue → List Ready
front_of moment servers queue = item_ready moment queue.handler (goals_in queue.handler.entity servers) queue.items

-- the callback that takes from the queue at a place, if there is one
abbrev pub front_at : Moment → List ServerEntry → List Queue → ℕ → List Ready
front_at moment servers queues place = option_map_or (front_of moment servers) (slice_get queues place) []

-- the callbacks that take from the queues at these places
abbrev pub fronts_at : Moment → List ServerEntry → List Queue → List ℕ → List Ready
fronts_at moment servers queues places = flat_map (front_at moment servers queues) places

-- service clients after the queue at a place hands on its first item
abbrev pub with_reply_at : List Queue → List ClientEntry → ℕ → List ClientEntry
with_reply_at queues clients place = option_map_or (reply_taken clients) (slice_get queues place) clients

-- service clients after the queues at these places do
abbrev pub replies_at : List Queue → List ClientEntry → List ℕ → List ClientEntry
replies_at queues clients places = fold (with_reply_at queues) clients places

-- the queues of kinds before polls, or of the other kinds
abbrev pub queues_in_part : Bool → WorldState → List Queue
queues_in_part before_polls world = filter (is_in_part before_polls) world.queues

-- the places of those of them that have an item
abbrev pub filled_places : Bool → List Queue → List ℕ
filled_places before_polls queues = places_where (λ queue. has_item queue && is_in_part before_polls queue) queues

-- all callbacks that are ready, part by part: those before polls, those behind them, and polls
abbrev pub ready_in_parts : Moment → WorldState → List Ready
ready_in_parts moment world = (ready_before moment world ++ ready_behind moment world) ++ flat_map (poll_ready moment) world.servers

-- the ready list as it is made under an order
abbrev pub listed_under : Order → Moment → WorldState → List Ready
listed_under order.Kind moment world = listed_by_kind moment world
listed_under order.Arrival moment world = placed_from 1 (sorted_by (rank_under order.Arrival world) (ready_in_parts moment world))

-- the world after the callbacks of this list
abbrev pub round_under : Order → Moment → WorldState → WorldState
round_under under moment world = run_all (listed_under under moment world) (taken_in_parts moment world)

-- both under the order of the world
abbrev pub listed_in : Moment → WorldState → List Ready
listed_in moment world = listed_under world.order moment world

abbrev pub round_in : Moment → WorldState → WorldState
round_in moment world = round_under world.order moment world

-- the world of which the snapshot of a round is taken, after what begins the round
abbrev pub begun_by : Round → WorldState → WorldState
begun_by round world = feed round.fed.now (expire round.moment (add_line (line.Round round.number round.moment) world))

-- the script of each of a world's callbacks is a graph's, and what its queues hold is of their kinds
pub record HaveScriptsOf (graph : GraphData) (world : WorldState) : Type 0 where
  pub timers : AllByRecursion (λ entry. entry.handler.script ≡ script_at graph entry.handler.entity kind.Timer) world.timers
  pub queues : AllByRecursion (λ queue. queue.handler.script ≡ script_at graph queue.handler.entity queue.kind) world.queues
  pub servers : AllByRecursion (λ entry. entry.handler.script ≡ script_at graph entry.handler.entity kind.Poll) world.servers
  pub kinds : AllByRecursion (λ queue. All (λ one. taker_of one ≡ queue.kind) queue.items) world.queues

-- ready callbacks behind others, at their places
abbrev pub placed_behind : List Ready → List Ready → List Ready
placed_behind list more = list ++ placed_from (length list + 1) more

-- the poll of a goal at a moment, with its script from a graph
abbrev pub scripted_poll : GraphData → Moment → AwakeGoal → Ready
scripted_poll graph moment goal = record (poll_at moment goal) { script = Some (script_at graph goal.server kind.Poll) }

-- callbacks that are listed so, with their scripts from a graph, and polls after the first of them, so many
abbrev pub in_parts : GraphData → Moment → ℕ → List Listed → List AwakeGoal → List Ready
in_parts graph moment before list goals =
    placed_from 1 (map (with_script_of graph) (take before list) ++ map (scripted_poll graph moment) goals ++ map (with_script_of graph) (drop before list))

-- the same callbacks, and polls behind all of them
abbrev pub with_polls : GraphData → Moment → List Listed → List AwakeGoal → List Ready
with_polls graph moment list goals = map (with_script_of graph) list ++ map (scripted_poll graph moment) goals

-- what a snapshot listed of a world at a moment: the callbacks that are no polls, the first of which, so many, come before polls,
-- and the goals that are awake; the world is then this one, whose queues still have their first items
pub record IsListed (moment : Moment) (world : WorldState) (before : ℕ) (now : WorldState) (list : List Listed) (goals : List AwakeGoal) : Type 0 where
  pub within : before ≤ length list
  pub first : take before list ≡ map as_listed (placed_from 1 (ready_before moment world))
  pub last : drop before list ≡ map as_listed (placed_from (before + 1) (ready_behind moment world))
  pub whole : list ≡ map as_listed (placed_from 1 (ready_before moment world ++ ready_behind moment world))
  pub awake : goals ≡ flat_map (awake_goals moment) world.servers
  pub taken : now ≡ record world { timers = map (timer_taken moment) world.timers; clients = fold reply_taken world.clients (queues_before_polls world) }

-- the world after a round whose work is light; of another round these are the callbacks, and each input is taken
abbrev pub IsHandedOut : Moment → WorldState → Option Heavy → WorldState → Type 0
IsHandedOut moment world None after = after ≡ round_in moment world
IsHandedOut moment world (Some heavy) after = (heavy.list.items ≡ listed_in moment world) × (after ≡ taken_in_parts moment world)
