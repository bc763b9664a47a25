-- What the calls on a server's table of goals answer, and the table after them.
use Rattle.std.specs.Prelude.{ℕ, List, [], if◌then◌else◌, Option, None, Some}
use Rattle.std.specs.List.{find}
use Rattle.std.specs.Option.{option_map}
use Rattle.exec_msg.specs.Numbers.{EntityNo, GoalId, Moment, Ticks}
use Rattle.exec_msg.specs.Lists.{change_first, drop_first}
use Rattle.exec_msg.specs.declared.goal.Event.{Event}
use Rattle.exec_goal.specs.State.{after, is_terminal}
use Rattle.exec_goal.specs.Table.{GoalRecord, has_id, Asked, later, is_expired, asked_for, asked_by}
use Rattle.exec_goal.specs.declared.refusals.Reject.{Reject}
use Rattle.exec_goal.specs.declared.refusals.Reject.TheVariants as reject
use Rattle.exec_goal.specs.declared.state.State.{State}

-- the state of the goal of an identifier
abbrev pub state_in : GoalId → List GoalRecord → Option State
state_in id goals = option_map (λ goal. goal.state) (find (has_id id) goals)

-- the action clients that asked for the result of the goal of an identifier, of which there are none where it isn't held
abbrev pub askers_of : Option GoalRecord → List EntityNo
askers_of None = []
askers_of (Some goal) = goal.askers

abbrev pub askers_in : GoalId → List GoalRecord → List EntityNo
askers_in id goals = askers_of (find (has_id id) goals)

-- the state that an event leads to, where there is a state and such a transition
abbrev pub moved_to : Event → Option State → Option State
moved_to event None = None
moved_to event (Some before) = after before event

-- a state where it is terminal
abbrev pub where_terminal : Option State → Option State
where_terminal None = None
where_terminal (Some reached) = if is_terminal reached then Some reached else None

-- the state that an event moves the goal of an identifier to
abbrev pub next_state : GoalId → Event → List GoalRecord → Option State
next_state id event goals = moved_to event (state_in id goals)

-- the terminal state in which an event ends the goal of an identifier
abbrev pub end_state : GoalId → Event → List GoalRecord → Option State
end_state id event goals = where_terminal (next_state id event goals)

-- the table after a result request that is told so: where the result comes later, the client is noted
abbrev pub noted : Asked → GoalId → EntityNo → List GoalRecord → List GoalRecord
noted later id client goals = change_first (has_id id) (asked_by client) goals
noted _ id client goals = goals

abbrev pub after_asking : GoalId → EntityNo → List GoalRecord → List GoalRecord
after_asking id client goals = noted (asked_for id goals) id client goals

-- the table without the first goal that has expired
abbrev pub after_expiry : Moment → Option Ticks → List GoalRecord → List GoalRecord
after_expiry moment timeout goals = drop_first (is_expired moment timeout) goals

-- the numbers of refusals
abbrev pub reject_number : Reject → ℕ
reject_number reject.Held = 1
reject_number reject.Full = 2
reject_number reject.Memory = 3
