-- What is found in a list of servers.
use Rattle.std.specs.Prelude.{List, Option, None, Some}
use Rattle.exec_goal.specs.Table.{GoalRecord, Asked, told, later, unknown, has_id, after_event, asked_by}
use Rattle.exec_msg.specs.Numbers.{EntityNo, GoalId}
use Rattle.exec_msg.specs.Lists.{change_first}
use Rattle.exec_msg.specs.declared.goal.Event.TheVariants as event
use Rattle.exec_rules.specs.World.{ServerEntry, is_server_at, with_goals}

-- servers of which one executes this goal, if there is one
abbrev pub executed_in : EntityNo → Option GoalRecord → List ServerEntry → List ServerEntry
executed_in server None servers = servers
executed_in server (Some goal) servers = change_first (is_server_at server) (with_goals (change_first (has_id goal.id) (after_event event.Execute))) servers

-- servers of which one was asked for a goal's result and told this: where the result comes later, the client is noted
abbrev pub asked_in : Asked → EntityNo → GoalId → EntityNo → List ServerEntry → List ServerEntry
asked_in (told status value) server id client servers = servers
asked_in unknown server id client servers = servers
asked_in later server id client servers = change_first (is_server_at server) (with_goals (change_first (has_id id) (asked_by client))) servers
