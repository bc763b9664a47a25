-- From when on what a server keeps is awake.
use Rattle.std.specs.Prelude.{List, map}
use Rattle.exec_msg.specs.Numbers.{Moment}
use Rattle.exec_task.specs.Waking.{wake_of}
use Rattle.exec_entity.specs.inner.Server.{Kept}

-- from when on each task is awake whose goal isn't being canceled, each at its place; one that is out never is
abbrev pub wakes_of : List Kept → List Moment
wakes_of kept = map (λ (one : Kept). wake_of one.work.task) kept
