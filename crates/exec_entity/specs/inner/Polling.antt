-- What a poll makes of a server.
use Rattle.std.specs.Prelude.{◌≡◌, ◌≢◌, List, Option, None, Some}
use Rattle.std.specs.List.{find}
use Rattle.std.specs.Option.{option_map}
use Rattle.exec_msg.specs.Numbers.{EntityNo, GoalId}
use Rattle.exec_msg.specs.Lists.{change_first}
use Rattle.exec_script.specs.declared.effects.Effect.{Effect}
use Rattle.exec_task.specs.Goal.{GoalTaskState}
use Rattle.exec_task.specs.Task.{TaskState}
use Rattle.exec_task.specs.declared.wait.Turn.{Turn}
use Rattle.exec_entity.specs.declared.server.GoalTurn.{GoalTurn}
use Rattle.exec_rules.specs.Callback.{AfterCallback, poll_listed}
use Rattle.exec_rules.specs.Calls.{away}
use Rattle.exec_script.specs.Script.{Variables}
use Rattle.exec_rules.specs.World.{GoalWork, ServerEntry, is_for, is_server_at, standing, with_held, work_in, work_of}
use Rattle.exec_rules.specs.declared.ready.Cause.{Cause}
use Rattle.exec_rules.specs.declared.ready.Cause.TheVariants as cause

-- a server whose goal of an identifier stands so, if it was polled
abbrev pub server_polled : GoalId → Option TaskState → ServerEntry → ServerEntry
server_polled id None entry = entry
server_polled id (Some task) entry = with_held id (standing task) entry

-- the servers where the callback left its task so, if it polled one
abbrev pub polled_by : EntityNo → Cause → Option TaskState → List ServerEntry → List ServerEntry
polled_by server (cause.Woke id value canceling) task servers = change_first (is_server_at server) (server_polled id task) servers
polled_by server _ task servers = servers

-- a poll of a server's goal
abbrev pub goal_polled : Turn → GoalId → ServerEntry → Variables → AfterCallback (List Effect)
goal_polled turn id entry variables = poll_listed turn (option_map (λ held. held.work) (find (is_for id) entry.held)) variables

-- what is taken of a goal that does this work, if it is held: its task, or none where that is out
abbrev pub IsTaken : Option GoalWork → Option GoalTaskState → Type 0
IsTaken None task = task ≡ None
IsTaken (Some work) None = work ≡ away
IsTaken (Some work) (Some task) = (work ≡ work_of task) × (work ≢ away)

-- a poll of a goal in its turn
abbrev pub polled_in : GoalTurn → List ServerEntry → Variables → AfterCallback (List Effect)
polled_in goal servers variables = poll_listed goal.turn (work_in goal.server goal.id servers) variables
