-- What a poll leaves at the sources that a task owns.
use Rattle.std.proofs.Common.{◌≡◌, refl, ap, sym, ◌∙◌, ◌⊎◌, inl, inr, ℕ, true, false, Option, None, Some, IsSomeAnd}
use Rattle.exec_task.specs.Goal.{GoalTaskState, LeftWakers}
use Rattle.exec_task.specs.Wake.{WakeState, LeftWaker, waker_in}
use Rattle.exec_task.specs.declared.wait.Wait.TheVariants as wait
use Rattle.futures.specs.Slot.{polled_task, woken_task}
use Rattle.futures.specs.Task.{Keeps, Wakes, Holds, Lasting}
use Rattle.futures.specs.declared.task.context.Context.{Context}
use Rattle.futures.specs.declared.task.waker.Waker.{Waker}

-- a waker that wakes the task of a poll is that task's
woken_is_polled : (before : Context) (waker : Waker) → Wakes waker before → woken_task waker ≡ polled_task before
woken_is_polled before waker (task, origin) = rw (task, origin) refl

-- a slot with a waker of the polled task, or that stayed as it was since none could be made, is left as a poll must
pub left_waker : (before after : Context) (slot : Option Waker) (name : ℕ) → Keeps before after → (after.lacks_waker ≡ true) ⊎ IsSomeAnd slot (λ waker. Wakes waker before) → LeftWaker before after (record { source = name; waker = waker_in false slot })
left_waker before after slot name kept (inl lacks) = inr (after, kept, (λ fact holds. holds), lacks)
left_waker before after None name kept (inr none) = absurd none
left_waker before after (Some waker) name kept (inr wakes) = inl (ap Some (woken_is_polled before waker wakes))

-- what is left stays so, as the poll goes on
left_still : (before between after : Context) (wake : WakeState) → Keeps between after → LeftWaker before between wake → LeftWaker before after wake
left_still before between after wake kept (inl holds) = inl holds
left_still before between after wake kept (inr (lacking, until_then, since, lacks)) =
    inr (lacking, until_then, (λ fact holds. kept fact (since fact holds)), lacks)

-- a poll goes on with one task
same_task : (before between : Context) → Keeps before between → polled_task between ≡ polled_task before
unfolding Holds
same_task before between kept = sym (ap polled_task (kept (Lasting.same_task before) refl))

-- what is left by the later part of a poll is left by the whole of it
left_later : (before between after : Context) (wake : WakeState) → Keeps before between → LeftWaker between after wake → LeftWaker before after wake
left_later before between after wake kept (inl holds) = inl (holds ∙ ap Some (same_task before between kept))
left_later before between after wake kept (inr (lacking, until_then, since, lacks)) =
    inr (lacking, (λ fact holds. until_then fact (kept fact holds)), since, lacks)

-- a task that waits for a time, and wasn't told of its cancellation, waits for the clock and then for its cancellation
pub both_left : (before between after : Context) (goal : GoalTaskState) (time : ℕ) → goal.task.waits ≡ wait.Until time → goal.task.knows_canceling ≡ false → Keeps before between → Keeps between after → LeftWaker before between goal.clock → LeftWaker between after goal.cancellation → LeftWakers before after goal
both_left before between after goal time waits told kept kept_on clock cancellation = record {
  clock = rw waits (left_still before between after goal.clock kept_on clock);
  cancellation = rw (waits, told) (left_later before between after goal.cancellation kept cancellation);
}
