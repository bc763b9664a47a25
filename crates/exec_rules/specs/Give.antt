-- What one effect of a callback does to the world.
use Rattle.std.specs.Prelude.{ℕ, ◌+◌, ℤ, List, Option, None, Some}
use Rattle.std.specs.List.{find, fold}
use Rattle.std.specs.Option.{option_map_or}
use Rattle.exec_goal.specs.Cancel.{CancelRequest}
use Rattle.exec_goal.specs.State.{is_accepted, status_of}
use Rattle.exec_goal.specs.Table.{GoalRecord, has_id, after_event}
use Rattle.exec_msg.specs.Numbers.{EntityNo, GoalId}
use Rattle.exec_msg.specs.declared.goal.Event.TheVariants as event
use Rattle.exec_msg.specs.declared.line.Line.TheVariants as line
use Rattle.exec_msg.specs.Lists.{change_first}
use Rattle.exec_script.specs.declared.effects.Effect.{Effect}
use Rattle.exec_script.specs.declared.effects.Effect.TheVariants as effect
use Rattle.exec_rules.specs.Item.{goal_id}
use Rattle.exec_rules.specs.World.{WorldState, ClientEntry, ActionClientEntry, add_line, push, push_any, subscribers_at, goals_at, change_goals, held_for, client_at, with_call, action_client_at, with_goal_sent}
use Rattle.exec_rules.specs.declared.item.Item.TheVariants as item
use Rattle.exec_rules.specs.declared.ready.Cause.{Cause}
use Rattle.exec_rules.specs.declared.ready.Cause.TheVariants as cause
use Rattle.exec_rules.specs.declared.ready.Ready.{Ready}

-- a message is sent to each subscription of its topic, in the order of declaration
abbrev pub publish : EntityNo → ℤ → WorldState → WorldState
publish topic value world = fold (λ before subscriber. push subscriber (item.Message value) before) world (subscribers_at topic world)

-- a service client makes its next call, which is pending from now on; a client that isn't there does nothing
abbrev pub call_by : Option ClientEntry → ℤ → WorldState → WorldState
call_by None value world = world
call_by (Some client) value world =
    let number = client.calls + 1 in
    push client.service (item.Request client.entity number value) (add_line (line.Call client.entity number value) (with_call client.entity world))

-- an action client sends a request for its next goal; a client that isn't there does nothing
abbrev pub send_goal_by : Option ActionClientEntry → ℤ → WorldState → WorldState
send_goal_by None value world = world
send_goal_by (Some client) value world =
    let id = goal_id client.place (client.goals + 1) in
    push client.server (item.Goal id (Some client.entity) value) (add_line (line.Goal client.entity id value) (with_goal_sent client.entity world))

-- an action client sends a cancel request
abbrev pub send_cancel : ActionClientEntry → CancelRequest → WorldState → WorldState
send_cancel client request world =
    push client.server (item.Cancel request (Some client.entity)) (add_line (line.Cancel client.entity request.id request.stamp) world)

-- an action client sends a cancel request with no identifier; a client that isn't there does nothing
abbrev pub cancel_all_by : Option ActionClientEntry → ℕ → WorldState → WorldState
cancel_all_by None stamp world = world
cancel_all_by (Some client) stamp world = send_cancel client (record { id = 0; stamp = stamp }) world

-- an action client sends a cancel request for its goal of a number; a client that isn't there does nothing
abbrev pub cancel_goal_by : Option ActionClientEntry → ℕ → ℕ → WorldState → WorldState
cancel_goal_by None number stamp world = world
cancel_goal_by (Some client) number stamp world = send_cancel client (record { id = goal_id client.place number; stamp = stamp }) world

-- the oldest goal of a server that is accepted and not executed yet
abbrev pub oldest_accepted : EntityNo → WorldState → Option GoalRecord
oldest_accepted server world = find (λ goal. is_accepted goal.state) (goals_at server world)

-- the goal of an identifier is executed
abbrev pub execute_goal : EntityNo → Option GoalRecord → WorldState → WorldState
execute_goal server None world = world
execute_goal server (Some goal) world =
    let executed = after_event event.Execute in
    add_line (line.State server goal.id (status_of (executed goal).state)) (change_goals server (change_first (has_id goal.id) executed) world)

-- a server executes its oldest accepted goal, if it has one
abbrev pub execute : EntityNo → WorldState → WorldState
execute server world = execute_goal server (oldest_accepted server world) world

-- the action client that sent a goal, if one did
abbrev pub sender_at : EntityNo → GoalId → WorldState → Option EntityNo
sender_at server id world = option_map_or (λ held. held.client) (held_for server id world) None

-- a goal that is polled gives feedback, to the client that sent it; nothing else gives any
abbrev pub give_feedback : EntityNo → Cause → ℤ → WorldState → WorldState
give_feedback server (cause.Woke id goal canceling) value world =
    push_any (sender_at server id world) (item.Feedback id value) (add_line (line.Feedback server id value) world)
give_feedback server _ value world = world

-- what an effect of a ready callback does
abbrev pub give : Ready → Effect → WorldState → WorldState
give one (effect.Publish topic value) world = publish topic value (add_line (line.Pub topic value) world)
give one (effect.Call client value) world = call_by (client_at client world) value world
give one (effect.SendGoal client value) world = send_goal_by (action_client_at client world) value world
give one (effect.CancelAll client stamp) world = cancel_all_by (action_client_at client world) stamp world
give one (effect.CancelGoal client number stamp) world = cancel_goal_by (action_client_at client world) number stamp world
give one (effect.Execute server) world = execute server world
give one (effect.Log value) world = add_line (line.Log one.entity value) world
give one (effect.Feedback value) world = give_feedback one.entity one.cause value world

-- effects of a ready callback, one after another
abbrev pub give_all : Ready → List Effect → WorldState → WorldState
give_all one effects world = fold (λ before effect. give one effect before) world effects
