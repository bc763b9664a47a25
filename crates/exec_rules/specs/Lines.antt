-- What lines say of goals and of answers.
use Rattle.std.specs.Prelude.{Bool, ◌&&◌, ◌==◌, if◌then◌else◌, List, [], ◌∷◌, true, false}
use Rattle.std.specs.List.{flat_map}
use Rattle.exec_msg.specs.Numbers.{EntityNo, GoalId}
use Rattle.exec_msg.specs.declared.kind.Kind.{Kind}
use Rattle.exec_msg.specs.declared.kind.Kind.TheVariants as kind
use Rattle.exec_msg.specs.declared.goal.GoalStatus.{GoalStatus}
use Rattle.exec_msg.specs.declared.line.Line.{Line}
use Rattle.exec_msg.specs.declared.line.Line.TheVariants as line

-- whether callbacks of a kind take what answers a request: replies, asks for results, responses and codes
abbrev pub is_answer : Kind → Bool
is_answer kind.Reply = true
is_answer kind.Ask = true
is_answer kind.Response = true
is_answer kind.Code = true
is_answer _ = false

-- whether a line says that such an answer was displaced
abbrev pub is_loss : Line → Bool
is_loss (line.Drop entity of value) = is_answer of
is_loss _ = false

-- the status that a line says of a server's goal of an identifier
abbrev pub status_in : EntityNo → GoalId → Line → List GoalStatus
status_in server id (line.State at goal status) = if (at == server) && (goal == id) then status ∷ [] else []
status_in server id _ = []

-- the statuses that lines say of it, in order
abbrev pub statuses_of : EntityNo → GoalId → List Line → List GoalStatus
statuses_of server id lines = flat_map (status_in server id) lines
