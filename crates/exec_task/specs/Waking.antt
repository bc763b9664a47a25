-- From when on a goal's task is awake that isn't being canceled.
use Rattle.std.specs.Prelude.{◌^◌, ◌-◌, Option, None, Some}
use Rattle.exec_msg.specs.Numbers.{Moment}
use Rattle.exec_task.specs.Task.{TaskState}
use Rattle.exec_task.specs.declared.wait.Ending.{Ending}
use Rattle.exec_task.specs.declared.wait.Wait.{Wait}
use Rattle.exec_task.specs.declared.wait.Wait.TheVariants as wait

-- the greatest number of 64 bits, which is beyond every moment of an executor
abbrev pub never : Moment
never = 2 ^ 64 - 1

-- from when on a task is awake that has ended so, or that waits for this: from the start, from a time on, or never
abbrev pub wake_by : Option Ending → Wait → Moment
wake_by (Some ending) waits = never
wake_by None wait.NextRound = 0
wake_by None (wait.Until time) = time

-- the same of a task, as it stands
abbrev pub wake_of : TaskState → Moment
wake_of task = wake_by task.ending task.waits
