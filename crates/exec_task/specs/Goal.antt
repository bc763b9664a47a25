-- A goal's task with all that it owns, and what a poll leaves of it beside the definition's own state.
use Rattle.std.specs.Prelude.{◌≡◌, ℕ, ℤ, List, [], Bool, true, false, None, ⊤}
use Rattle.std.specs.List.{Any, list_any}
use Rattle.exec_script.specs.Script.{Variables, listed}
use Rattle.exec_script.specs.declared.effects.Effect.{Effect}
use Rattle.exec_script.specs.Instruction.{Script}
use Rattle.exec_task.specs.Task.{TaskState, Polled, polled, has_ended, task_answer, sources_of}
use Rattle.exec_task.specs.Wake.{WakeState, LeftWaker}
use Rattle.exec_task.specs.declared.wait.Answer.{Answer}
use Rattle.exec_task.specs.declared.wait.Answer.TheVariants as answer
use Rattle.exec_task.specs.declared.wait.Source.{Source}
use Rattle.exec_task.specs.declared.wait.Source.TheVariants as source
use Rattle.exec_task.specs.declared.wait.Turn.{Turn}
use Rattle.exec_task.specs.declared.wait.Wait.{Wait}
use Rattle.exec_task.specs.declared.wait.Wait.TheVariants as wait
use Rattle.futures.specs.Task.{Covers}
use Rattle.futures.specs.declared.task.context.Context.{Context}

-- a goal's task: its script, the goal's value, where the task stands, whether it was refused memory once, and the sources
-- that it owns
pub record GoalTaskState : Type 0 where
  pub script : Script
  pub value : ℤ
  pub task : TaskState
  pub failed : Bool
  pub clock : WakeState
  pub cancellation : WakeState

-- a poll by definition, with its effects listed
abbrev pub poll_of : GoalTaskState → Variables → Turn → Polled (List Effect)
poll_of goal variables turn = polled listed goal.script goal.value turn goal.task variables []

-- a fact of a poll that pended
abbrev pub IfPending : Answer → Type 0 → Type 0
IfPending (answer.Ready ending) fact = ⊤
IfPending (answer.Pending waits) fact = fact

-- what no poll changes: the script, the goal's value, and which sources the task owns
pub record IsSameGoal (before after : GoalTaskState) : Type 0 where
  pub script : after.script ≡ before.script
  pub value : after.value ≡ before.value
  pub clock : after.clock.source ≡ before.clock.source
  pub cancellation : after.cancellation.source ≡ before.cancellation.source

-- a name is that of a source that wakes a goal's task
abbrev pub IsSourceOfGoal : GoalTaskState → ℕ → Source → Type 0
IsSourceOfGoal goal name (source.Clock time) = name ≡ goal.clock.source
IsSourceOfGoal goal name source.Cancellation = name ≡ goal.cancellation.source
IsSourceOfGoal goal name source.Reply = ⊥

-- a name is that of a source that a pending goal waits for
abbrev pub GoalNeeds : GoalTaskState → ℕ → Type 0
GoalNeeds goal name = Any (IsSourceOfGoal goal name) (sources_of goal.task)

-- the clock, at whatever time
abbrev pub is_clock : Source → Bool
is_clock (source.Clock time) = true
is_clock _ = false

-- the goal's cancellation
abbrev pub is_cancellation : Source → Bool
is_cancellation source.Cancellation = true
is_cancellation _ = false

-- between these two moments a poll left its task's waker at a source that is waited for; any other source has none
abbrev pub LeftWhere : Bool → Context → Context → WakeState → Type 0
LeftWhere true before after wake = LeftWaker before after wake
LeftWhere false before after wake = wake.waker ≡ None

-- between these two moments a poll left its task's wakers at exactly the sources that wake the task, or could make none
pub record LeftWakers (before after : Context) (goal : GoalTaskState) : Type 0 where
  pub clock : LeftWhere (list_any is_clock (sources_of goal.task)) before after goal.clock
  pub cancellation : LeftWhere (list_any is_cancellation (sources_of goal.task)) before after goal.cancellation

-- a task that waits for the next round alone has yielded
abbrev pub HasYielded : Wait → Context → Type 0
HasYielded wait.NextRound ended = ended.is_woken ≡ true
HasYielded (wait.Until time) ended = ⊤

-- no waker stands at a source of the task
abbrev pub HoldsNoWaker : GoalTaskState → Type 0
HoldsNoWaker goal = (goal.clock.waker ≡ None) × (goal.cancellation.waker ≡ None)

-- what a poll in a turn answers that isn't refused memory, and what it leaves: of the goal, of its group's variables, and of
-- the context that it began with
pub record IsPolled (turn : Turn) (before after : GoalTaskState) (bank left : Variables) (begun ended : Context) (answered : Answer) : Type 0 where
  pub answer : answered ≡ task_answer (poll_of before bank turn).task
  pub task : after.task ≡ (poll_of before bank turn).task
  pub variables : left ≡ (poll_of before bank turn).variables
  pub registered : IfPending answered (Covers ended (GoalNeeds after))
  pub yielded : IfPending answered (HasYielded after.task.waits ended)
  pub wakers : IfPending answered (LeftWakers begun ended after)
  pub ending : has_ended before.task ≡ false → has_ended after.task ≡ true → HoldsNoWaker after
  pub unfailed : after.failed ≡ false
  pub stays : has_ended before.task ≡ true → after ≡ before

-- what a poll leaves that is refused memory
pub record IsRefused (before after : GoalTaskState) (bank left : Variables) : Type 0 where
  pub task : after ≡ record before { failed = true }
  pub variables : left ≡ bank
