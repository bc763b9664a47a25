-- Words for the laws of goals' tasks.
use Rattle.std.specs.Prelude.{List, Bool, false, nat_le}
use Rattle.exec_script.specs.LawWords.{give_each}
use Rattle.exec_script.specs.declared.effects.Effect.{Effect}
use Rattle.exec_task.specs.Task.{Polled}
use Rattle.exec_task.specs.declared.wait.Source.{Source}
use Rattle.exec_task.specs.declared.wait.Source.TheVariants as source
use Rattle.exec_task.specs.declared.wait.Turn.{Turn}

-- whether what wakes a task has come in a turn: its time, or its cancellation; no script waits for a reply
abbrev pub has_come : Turn → Source → Bool
has_come turn (source.Clock time) = nat_le time turn.moment
has_come turn source.Cancellation = turn.canceling
has_come turn source.Reply = false

-- what a poll leaves that listed its effects, once these are given
abbrev pub polled_later : {S : Type 0} → (Effect → S → S) → S → Polled (List Effect) → Polled S
polled_later give given poll = record { task = poll.task; variables = poll.variables; given = give_each give poll.given given }
