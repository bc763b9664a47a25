-- The order of ready callbacks by their kinds.
use Rattle.std.specs.Prelude.{ℕ}
use Rattle.exec_msg.specs.declared.kind.Kind.{Kind}
use Rattle.exec_msg.specs.declared.kind.Kind.TheVariants as kind

-- the number of a kind, from 1: ready callbacks run in the order of these
abbrev pub ready_number : Kind → ℕ
ready_number kind.Timer = 1
ready_number kind.Message = 2
ready_number kind.Request = 3
ready_number kind.Reply = 4
ready_number kind.Goal = 5
ready_number kind.Cancel = 6
ready_number kind.Ask = 7
ready_number kind.Poll = 8
ready_number kind.Response = 9
ready_number kind.Code = 10
ready_number kind.Feedback = 11
ready_number kind.Result = 12
