-- What a callback does, wherever its effects go: into the world at once, or into a list that is given to the world later.
use Rattle.std.specs.Prelude.{pos, List, [], ◌∷◌, ◌++◌, Bool, true, false, Option, None, Some}
use Rattle.std.specs.List.{fold}
use Rattle.std.specs.Option.{unwrap_or}
use Rattle.exec_goal.specs.Cancel.{Decided}
use Rattle.exec_goal.specs.State.{status_of}
use Rattle.exec_goal.specs.declared.info.GoalInfo.{GoalInfo}
use Rattle.exec_script.specs.Instruction.{Script}
use Rattle.exec_msg.specs.Goal.{status_number}
use Rattle.exec_script.specs.Script.{CallInput, ScriptState, called, cancel_decided, close_of, listed, Variables}
use Rattle.exec_script.specs.declared.effects.Close.{Close}
use Rattle.exec_script.specs.declared.effects.Close.TheVariants as close
use Rattle.exec_script.specs.declared.effects.Effect.{Effect}
use Rattle.exec_script.specs.declared.place.Role.{Role}
use Rattle.exec_script.specs.declared.place.Role.TheVariants as role
use Rattle.exec_task.specs.Task.{TaskState, Polled, polled, is_awake, task_answer}
use Rattle.exec_task.specs.declared.wait.Answer.{Answer}
use Rattle.exec_task.specs.declared.wait.Answer.TheVariants as answer
use Rattle.exec_task.specs.declared.wait.Turn.{Turn}
use Rattle.exec_rules.specs.Ready.{turn_at, input_of}
use Rattle.exec_msg.specs.Numbers.{Moment}
use Rattle.exec_rules.specs.World.{GoalWork}
use Rattle.exec_rules.specs.declared.item.Item.{Item}
use Rattle.exec_rules.specs.declared.item.Item.TheVariants as item
use Rattle.exec_rules.specs.declared.ready.Cause.{Cause}
use Rattle.exec_rules.specs.declared.ready.Cause.TheVariants as cause
use Rattle.exec_rules.specs.declared.ready.Ready.{Ready}

-- a callback after it ran: its group's variables, what its effects made of where they went, what closes it, and of a poll
-- where the goal's task stands
pub record AfterCallback (S : Type 0) : Type 0 where
  pub variables : Variables
  pub given : S
  pub close : Close
  pub task : Option TaskState

-- the instructions of a script; none is empty
abbrev pub instructions_of : Option Script → Script
instructions_of script = unwrap_or script []

-- ---- callbacks that run a script once

-- the role of the script that a callback runs which takes an item
abbrev pub role_of : Item → Role
role_of (item.Request client number value) = role.Service
role_of (item.Goal id client value) = role.GoalHandler
role_of (item.Cancel request client) = role.CancelHandler
role_of _ = role.Callback

-- a callback whose script came to stand so, in a role
abbrev pub closed_by : {S : Type 0} → Role → ScriptState S → AfterCallback S
closed_by role state = record { variables = state.variables; given = state.given; close = close_of role state.reply_or_decision; task = None }

-- a callback runs its script in a role
abbrev pub call_in : {S : Type 0} → Role → (Effect → S → S) → Ready → Variables → S → AfterCallback S
call_in role give one variables given = closed_by role (called give (instructions_of one.script) variables (input_of one) given)

-- ---- cancel requests

-- a cancel handler in the midst of its candidates: its group's variables, what its effects made of where they went, and its
-- decisions so far
pub record CancelHandling (S : Type 0) : Type 0 where
  pub variables : Variables
  pub given : S
  pub decisions : List Decided

-- the input of a cancel handler for a candidate: its value, and the number of its state at the snapshot
abbrev pub candidate_input : Moment → GoalInfo → CallInput
candidate_input moment candidate = record { first = candidate.value; aux = pos (status_number (status_of candidate.state)); moment = moment }

-- a cancel handler that came to stand so for a candidate
abbrev pub handled : {S : Type 0} → GoalInfo → List Decided → ScriptState S → CancelHandling S
handled candidate decisions state =
    record { variables = state.variables; given = state.given; decisions = decisions ++ (candidate.id, cancel_decided state.reply_or_decision) ∷ [] }

-- a cancel handler runs for a candidate
abbrev pub handle_cancel : {S : Type 0} → (Effect → S → S) → Ready → CancelHandling S → GoalInfo → CancelHandling S
handle_cancel give one handling candidate =
    handled candidate handling.decisions (called give (instructions_of one.script) handling.variables (candidate_input one.moment candidate) handling.given)

-- a cancel handler that ran for each candidate
abbrev pub all_handled : {S : Type 0} → CancelHandling S → AfterCallback S
all_handled handling = record { variables = handling.variables; given = handling.given; close = close.Decisions handling.decisions; task = None }

-- a cancel handler runs for one candidate after another
abbrev pub handle_all : {S : Type 0} → (Effect → S → S) → Ready → Variables → S → AfterCallback S
handle_all give one variables given =
    all_handled (fold (handle_cancel give one) (record { variables = variables; given = given; decisions = [] }) one.candidates)

-- ---- polls

-- what closes a poll that is answered so
abbrev pub close_of_answer : Answer → Close
close_of_answer (answer.Ready ending) = close.Ended ending.event ending.value
close_of_answer (answer.Pending waits) = close.Pending

-- a poll
abbrev pub after_poll : {S : Type 0} → Polled S → AfterCallback S
after_poll poll = record { variables = poll.variables; given = poll.given; close = close_of_answer (task_answer poll.task); task = Some poll.task }

-- nothing is done, and the goal pends
abbrev pub unpolled : {S : Type 0} → Variables → S → AfterCallback S
unpolled variables given = record { variables = variables; given = given; close = close.Pending; task = None }

-- a goal that does this work is polled where it is awake
abbrev pub poll_where : {S : Type 0} → Bool → (Effect → S → S) → Turn → GoalWork → Variables → S → AfterCallback S
poll_where true give turn work variables given = after_poll (polled give work.script work.value turn work.task variables given)
poll_where false give turn work variables given = unpolled variables given

-- a goal that does this work is polled; one that isn't there isn't
abbrev pub poll : {S : Type 0} → (Effect → S → S) → Turn → Option GoalWork → Variables → S → AfterCallback S
poll give turn None variables given = unpolled variables given
poll give turn (Some work) variables given = poll_where (is_awake work.task turn) give turn work variables given

-- the same with its effects listed
abbrev pub poll_listed : Turn → Option GoalWork → Variables → AfterCallback (List Effect)
poll_listed turn work variables = poll listed turn work variables []

-- ---- callbacks

-- a callback that took an item
abbrev pub take_item : {S : Type 0} → Item → (Effect → S → S) → Ready → Variables → S → AfterCallback S
take_item (item.Cancel request client) give one variables given = handle_all give one variables given
take_item taken give one variables given = call_in (role_of taken) give one variables given

-- a callback that is ready for a cause
abbrev pub act : {S : Type 0} → Cause → (Effect → S → S) → Ready → Option GoalWork → Variables → S → AfterCallback S
act cause.Due give one work variables given = call_in role.Callback give one variables given
act (cause.Took taken) give one work variables given = take_item taken give one variables given
act (cause.Woke id value canceling) give one work variables given = poll give (turn_at one.moment canceling) work variables given

-- a ready callback runs, where a goal that it polls does this work
abbrev pub callback : {S : Type 0} → (Effect → S → S) → Ready → Option GoalWork → Variables → S → AfterCallback S
callback give one work variables given = act one.cause give one work variables given
