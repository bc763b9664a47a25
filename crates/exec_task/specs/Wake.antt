-- The sources that a task owns, and what a poll leaves at them.
use Rattle.std.specs.Prelude.{◌≡◌, ◌⊎◌, ℕ, Bool, true, false, Option, None, Some}
use Rattle.futures.specs.Slot.{TaskId, polled_task, woken_task}
use Rattle.futures.specs.Task.{Keeps}
use Rattle.futures.specs.declared.task.context.Context.{Context}
use Rattle.futures.specs.declared.task.waker.Waker.{Waker}

-- a source: its name, and which task's waker stands in its slot, if one does
pub record WakeState : Type 0 where
  pub source : ℕ
  pub waker : Option TaskId

-- which task's waker stands in a slot; one that is laid aside does not
abbrev pub waker_in : Bool → Option Waker → Option TaskId
waker_in true slot = None
waker_in false None = None
waker_in false (Some waker) = Some (woken_task waker)

-- between these two moments of a poll no waker could be made, and the poll yielded
abbrev pub LacksWaker : Context → Context → Type 0
LacksWaker before after = (between : Context) × (Keeps before between) × (Keeps between after) × (between.lacks_waker ≡ true)

-- between these two moments a poll left its task's waker at a source, or could make none
abbrev pub LeftWaker : Context → Context → WakeState → Type 0
LeftWaker before after wake = (wake.waker ≡ Some (polled_task before)) ⊎ LacksWaker before after
