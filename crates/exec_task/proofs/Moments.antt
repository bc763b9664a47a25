-- That one moment tells whether a task is awake that isn't being canceled.
use Rattle.std.proofs.Common.{◌≡◌, ℕ, ◌^◌, ◌-◌, ◌<◌, ◌||◌, Bool, true, false, nat_le, Option, None, Some, refl, sym, arith}
use Rattle.std.proofs.lemmas.Bool.{le-leb, lt-leb}
use Rattle.exec_task.specs.Task.{TaskState, is_awake}
use Rattle.exec_task.specs.Waking.{never, wake_by, wake_of}
use Rattle.exec_task.specs.declared.wait.Ending.{Ending}
use Rattle.exec_task.specs.declared.wait.Wait.{Wait}
use Rattle.exec_task.specs.declared.wait.Wait.TheVariants as wait

-- no moment of an executor is as late as that which stands for none
pub before_never : (moment : ℕ) → moment < 2 ^ 64 - 1 → nat_le never moment ≡ false
before_never moment before = lt-leb never moment (omega (arith, before))

either : (b : Bool) → (b || false) ≡ b
either true = refl
either false = refl

pub awake-from : (task : TaskState) (moment : ℕ) → moment < 2 ^ 64 - 1 → is_awake task (record { moment = moment; canceling = false }) ≡ nat_le (wake_of task) moment
awake-from task moment before = by task.ending task.waits refl refl
  where
    by : (ending : Option Ending) (waits : Wait) → task.ending ≡ ending → task.waits ≡ waits → is_awake task (record { moment = moment; canceling = false }) ≡ nat_le (wake_by task.ending task.waits) moment
    by (Some ending) waits ended is = rw ended (sym (before_never moment before))
    by None wait.NextRound lasts is = rw (lasts, is) (sym (le-leb 0 moment (omega arith)))
    by None (wait.Until time) lasts is = rw (lasts, is) (either (nat_le time moment))
