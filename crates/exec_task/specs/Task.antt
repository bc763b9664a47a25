-- A goal's work as a task that is polled.
use Rattle.std.specs.Prelude.{ℕ, ◌+◌, ℤ, pos, List, [], ◌∷◌, Bool, true, false, is_some, not, ◌&&◌, ◌||◌, nat_le, if◌then◌else◌, Option, None, Some}
use Rattle.exec_msg.specs.declared.goal.Event.{Event}
use Rattle.exec_msg.specs.declared.goal.Event.TheVariants as event
use Rattle.exec_msg.specs.Numbers.{Moment}
use Rattle.exec_script.specs.Instruction.{Script}
use Rattle.exec_script.specs.Script.{CallInput, Registers, ScriptState, Variables, resumed}
use Rattle.exec_script.specs.Zeros.{zeros}
use Rattle.exec_script.specs.declared.effects.Effect.{Effect}
use Rattle.exec_script.specs.declared.step.Stop.{Stop}
use Rattle.exec_script.specs.declared.step.Stop.TheVariants as stop
use Rattle.exec_task.specs.declared.wait.Answer.{Answer}
use Rattle.exec_task.specs.declared.wait.Answer.TheVariants as answer
use Rattle.exec_task.specs.declared.wait.Ending.{Ending}
use Rattle.exec_task.specs.declared.wait.Source.{Source}
use Rattle.exec_task.specs.declared.wait.Source.TheVariants as source
use Rattle.exec_task.specs.declared.wait.Turn.{Turn}
use Rattle.exec_task.specs.declared.wait.Wait.{Wait}
use Rattle.exec_task.specs.declared.wait.Wait.TheVariants as wait

-- a goal's task: the place at which its script goes on, its registers, what it waits for, whether it knows that it is
-- being canceled (was polled as such), and how it ended, if it has
pub record TaskState : Type 0 where
  pub place : ℕ
  pub registers : Registers
  pub waits : Wait
  pub knows_canceling : Bool
  pub ending : Option Ending

-- a task before its first poll
abbrev pub new_task : TaskState
new_task = record { place = 0; registers = zeros; waits = wait.NextRound; knows_canceling = false; ending = None }

-- whether a wait is over at a moment
abbrev pub is_reached : Wait → Moment → Bool
is_reached wait.NextRound moment = true
is_reached (wait.Until time) moment = nat_le time moment

-- whether a task has ended
abbrev pub has_ended : TaskState → Bool
has_ended task = is_some task.ending

-- a task that has ended is never awake; another one is where its wait is over, or where it is canceling and doesn't know so yet
abbrev pub is_awake : TaskState → Turn → Bool
is_awake task turn = not (has_ended task) && (is_reached task.waits turn.moment || (turn.canceling && not task.knows_canceling))

-- the input of a poll: `in` is the goal's value, and `aux` is 1 where it is canceling
abbrev pub poll_input : ℤ → Turn → CallInput
poll_input value turn = record { first = value; aux = if turn.canceling then pos 1 else pos 0; moment = turn.moment }

-- the event by which a goal ends: one that isn't canceling can't end as canceled, and is aborted
abbrev pub ending_event : Bool → Event → Event
ending_event canceling event.Execute = event.Execute
ending_event canceling event.CancelGoal = event.CancelGoal
ending_event canceling event.Succeed = event.Succeed
ending_event canceling event.Abort = event.Abort
ending_event true event.Canceled = event.Canceled
ending_event false event.Canceled = event.Abort

-- a task after its script stopped: it waits or yields and goes on behind that, has ended, or starts again at the top
abbrev pub after_stop : Turn → Stop → TaskState → TaskState
after_stop turn (stop.Wait ticks place) task = record task { place = place; waits = wait.Until (turn.moment + ticks) }
after_stop turn (stop.Yield place) task = record task { place = place; waits = wait.NextRound }
after_stop turn (stop.Ended event value) task = record task { ending = Some (record { event = ending_event turn.canceling event; value = value }) }
after_stop turn stop.End task = record task { place = 0; waits = wait.NextRound }

-- a task after its script ran in a turn to where the script stands
abbrev pub after_resuming : {S : Type 0} → Turn → ScriptState S → TaskState → TaskState
after_resuming turn state task =
    after_stop turn state.stop (record task { registers = state.registers; knows_canceling = task.knows_canceling || turn.canceling })

-- the script of a task goes on from its place, in a turn
abbrev pub resumption_of : {S : Type 0} → (Effect → S → S) → Script → ℤ → Turn → TaskState → Variables → S → ScriptState S
resumption_of give script value turn task variables given = resumed give script task.place task.registers variables None (poll_input value turn) given

-- what a task answers that has ended so, or that waits for this
abbrev pub answer_by : Option Ending → Wait → Answer
answer_by None waits = answer.Pending waits
answer_by (Some ending) waits = answer.Ready ending

-- what a task answers, as it stands
abbrev pub task_answer : TaskState → Answer
task_answer task = answer_by task.ending task.waits

-- a poll: the task, its group's variables and what its effects made of where they went, all after it
pub record Polled (S : Type 0) : Type 0 where
  pub task : TaskState
  pub variables : Variables
  pub given : S

-- a poll in which the script came to stand so
abbrev pub ran : {S : Type 0} → Turn → TaskState → ScriptState S → Polled S
ran turn task state = record { task = after_resuming turn state task; variables = state.variables; given = state.given }

-- a poll of a task that is awake runs it; of another one it changes nothing
abbrev pub polled_where : {S : Type 0} → Bool → (Effect → S → S) → Script → ℤ → Turn → TaskState → Variables → S → Polled S
polled_where true give script value turn task variables given = ran turn task (resumption_of give script value turn task variables given)
polled_where false give script value turn task variables given = record { task = task; variables = variables; given = given }

-- a poll of a task with a goal's script and value, in a turn; it answers `task_answer` of the task after it
abbrev pub polled : {S : Type 0} → (Effect → S → S) → Script → ℤ → Turn → TaskState → Variables → S → Polled S
polled give script value turn task variables given = polled_where (is_awake task turn) give script value turn task variables given

-- what wakes a pending task: the clock where it waits for a time, and then its cancellation too, unless it knows of that
abbrev pub sources_by : Wait → Bool → List Source
sources_by wait.NextRound knows = []
sources_by (wait.Until time) knows = source.Clock time ∷ (if knows then [] else source.Cancellation ∷ [])

-- what wakes a task that hasn't ended; one that waits for nothing yields
abbrev pub sources_of : TaskState → List Source
sources_of task = sources_by task.waits task.knows_canceling
