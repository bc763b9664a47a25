-- The ready list under the order of kinds, part by part: timers, what takes from the queues of kinds before polls, polls, and what
-- takes from the other queues.
use Rattle.std.specs.Prelude.{◌≡◌, List, ◌++◌, map, nat_le, Bool, not}
use Rattle.std.specs.List.{filter, flat_map, fold}
use Rattle.exec_msg.specs.Kind.{ready_number}
use Rattle.exec_msg.specs.Numbers.{Moment}
use Rattle.exec_msg.specs.declared.kind.Kind.{Kind}
use Rattle.exec_msg.specs.declared.kind.Kind.TheVariants as kind
use Rattle.exec_rules.specs.Ready.{due_ready, placed_from, poll_ready, queue_ready, queue_taken, ready_list, reply_taken, timer_taken}
use Rattle.exec_rules.specs.World.{Queue, WorldState}
use Rattle.exec_rules.specs.declared.ready.Ready.{Ready}

-- whether a kind comes before polls
abbrev pub is_before_polls : Kind → Bool
is_before_polls of = nat_le (ready_number of) (ready_number kind.Poll)

-- the queues of these kinds, those of replies among them
abbrev pub queues_before_polls : WorldState → List Queue
queues_before_polls world = filter (λ queue. is_before_polls queue.kind) world.queues

-- the other queues
abbrev pub queues_behind_polls : WorldState → List Queue
queues_behind_polls world = filter (λ queue. not (is_before_polls queue.kind)) world.queues

-- the callbacks that come before polls, and those that come behind them
abbrev pub ready_before : Moment → WorldState → List Ready
ready_before moment world = flat_map (due_ready moment) world.timers ++ flat_map (queue_ready moment world) (queues_before_polls world)

abbrev pub ready_behind : Moment → WorldState → List Ready
ready_behind moment world = flat_map (queue_ready moment world) (queues_behind_polls world)

-- the whole list
abbrev pub listed_by_kind : Moment → WorldState → List Ready
listed_by_kind moment world = placed_from 1 (ready_before moment world ++ flat_map (poll_ready moment) world.servers ++ ready_behind moment world)

-- the world after each input is taken: the queues before polls alone hand on replies
abbrev pub taken_in_parts : Moment → WorldState → WorldState
taken_in_parts moment world =
    record world {
      timers = map (timer_taken moment) world.timers;
      queues = map queue_taken world.queues;
      clients = fold reply_taken world.clients (queues_before_polls world);
    }

-- the ready list of a world is this list
abbrev pub IsListedByKind : Moment → WorldState → Type 0
IsListedByKind moment world = ready_list moment world ≡ listed_by_kind moment world
