-- The goals that a server holds, in the order in which it accepted them.
use Rattle.std.specs.Prelude.{◌≢◌, ℕ, ℤ, pos, ◌+◌, List, [], ◌∷◌, ◌++◌, length, Bool, false, not, ◌&&◌, ◌==◌, nat_le, if◌then◌else◌, Option, None, Some, AllPairs}
use Rattle.std.specs.Option.{is_some, unwrap_or}
use Rattle.std.specs.List.{find, filter, list_any}
use Rattle.exec_msg.specs.Goal.{acceptance_of}
use Rattle.exec_msg.specs.Numbers.{EntityNo, GoalId, Moment, Ticks}
use Rattle.exec_msg.specs.declared.goal.Acceptance.{Acceptance}
use Rattle.exec_msg.specs.declared.goal.Acceptance.TheVariants as acceptance
use Rattle.exec_msg.specs.declared.goal.Decision.{Decision}
use Rattle.exec_msg.specs.declared.goal.Event.{Event}
use Rattle.exec_msg.specs.declared.goal.Event.TheVariants as event
use Rattle.exec_msg.specs.declared.goal.GoalStatus.{GoalStatus}
use Rattle.exec_msg.specs.declared.limits.TheConstants.{GOALS}
use Rattle.exec_goal.specs.State.{after, status_of, is_worked_on, is_terminal}
use Rattle.exec_goal.specs.declared.state.State.{State}
use Rattle.exec_goal.specs.declared.state.State.TheVariants as state

-- a goal: its identifier, its value, the moment of its acceptance, its state, its result and the moment of its end (its
-- stamp until it ends), and the action clients that asked for its result, in that order
pub record GoalRecord : Type 0 where
  pub id : GoalId
  pub value : ℤ
  pub stamp : Moment
  pub state : State
  pub result : ℤ
  pub ended : Moment
  pub askers : List EntityNo

-- whether a goal has this identifier
abbrev pub has_id : GoalId → GoalRecord → Bool
has_id id goal = goal.id == id

-- whether the table holds a goal of this identifier
abbrev pub holds_id : GoalId → List GoalRecord → Bool
holds_id id goals = list_any (has_id id) goals

-- no two goals of the table have one identifier
abbrev pub HaveDistinctIds : List GoalRecord → Type 0
HaveDistinctIds goals = AllPairs (λ first second. first.id ≢ second.id) goals

-- whether the table has no room
abbrev pub is_full : List GoalRecord → Bool
is_full goals = nat_le GOALS (length goals)

-- how many goals of the table the server works on
abbrev pub working : List GoalRecord → ℕ
working goals = length (filter (λ goal. is_worked_on goal.state) goals)

-- whether a goal handler's decision accepts the goal
abbrev pub is_accepting : Decision → Bool
is_accepting decision = is_some (acceptance_of decision)

-- the state after an event, or the state before where there is no such transition
abbrev pub moved_by : Event → State → State
moved_by event before = unwrap_or (after before event) before

-- the state of a goal that is accepted so
abbrev pub accepted_state : Acceptance → State
accepted_state acceptance.Execute = moved_by event.Execute state.Accepted
accepted_state acceptance.Defer = state.Accepted

-- a goal that is accepted at a moment
abbrev pub new_goal : GoalId → ℤ → Moment → Acceptance → GoalRecord
new_goal id value moment how = record { id = id; value = value; stamp = moment; state = accepted_state how; result = pos 0; ended = moment; askers = [] }

-- an accepted goal stands at the end of the table
abbrev pub with_accepted : GoalId → ℤ → Moment → Acceptance → List GoalRecord → List GoalRecord
with_accepted id value moment how goals = goals ++ new_goal id value moment how ∷ []

-- a goal after an event
abbrev pub after_event : Event → GoalRecord → GoalRecord
after_event event goal = record goal { state = moved_by event goal.state }

-- a goal that an event ends at a moment, with its result
abbrev pub after_end : Event → ℤ → Moment → GoalRecord → GoalRecord
after_end event value moment goal = record goal { state = moved_by event goal.state; result = value; ended = moment }

-- whether a server that keeps results for so many ticks forgets a goal at a moment; without a timeout it never does
abbrev pub is_expired : Moment → Option Ticks → GoalRecord → Bool
is_expired moment None goal = false
is_expired moment (Some timeout) goal = is_terminal goal.state && nat_le (goal.ended + timeout) moment

-- the goals that it forgets, in order of acceptance
abbrev pub expired : Moment → Option Ticks → List GoalRecord → List GoalRecord
expired moment timeout goals = filter (is_expired moment timeout) goals

-- the goals that it keeps
abbrev pub unexpired : Moment → Option Ticks → List GoalRecord → List GoalRecord
unexpired moment timeout goals = filter (λ goal. not (is_expired moment timeout goal)) goals

-- what a result request is told: a goal's status and result, that the goal hasn't ended, or that there is no such goal
pub data Asked : Type 0 where
  told : GoalStatus → ℤ → Asked
  later : Asked
  unknown : Asked

-- what is told of a goal
abbrev pub answer_to : Option GoalRecord → Asked
answer_to None = unknown
answer_to (Some goal) = if is_terminal goal.state then told (status_of goal.state) goal.result else later

-- what a result request for an identifier is told
abbrev pub asked_for : GoalId → List GoalRecord → Asked
asked_for id goals = answer_to (find (has_id id) goals)

-- a goal whose result another action client has asked for
abbrev pub asked_by : EntityNo → GoalRecord → GoalRecord
asked_by client goal = record goal { askers = goal.askers ++ client ∷ [] }
