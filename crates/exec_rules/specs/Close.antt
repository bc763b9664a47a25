-- What closes a callback in the world, behind its effects.
use Rattle.std.specs.Prelude.{ℕ, ℤ, pos, List, [], ◌∷◌, ◌++◌, length, map, Bool, true, false, ◌&&◌, if◌then◌else◌, Option, None, Some}
use Rattle.std.specs.List.{find, fold}
use Rattle.exec_goal.specs.Calls.{end_state}
use Rattle.exec_goal.specs.Cancel.{CancelRequest, Decided, moved, table_after, code_of}
use Rattle.exec_goal.specs.State.{status_of}
use Rattle.exec_goal.specs.Table.{GoalRecord, Asked, told, later, unknown, has_id, is_accepting, new_goal, after_end, asked_for, asked_by}
use Rattle.exec_goal.specs.declared.state.State.{State}
use Rattle.exec_msg.specs.Goal.{acceptance_of}
use Rattle.exec_msg.specs.Numbers.{EntityNo, GoalId, Moment}
use Rattle.exec_script.specs.Instruction.{Script}
use Rattle.exec_msg.specs.declared.goal.Acceptance.{Acceptance}
use Rattle.exec_msg.specs.declared.goal.Acceptance.TheVariants as acceptance
use Rattle.exec_msg.specs.declared.goal.Decision.{Decision}
use Rattle.exec_msg.specs.declared.goal.Decision.TheVariants as decision
use Rattle.exec_msg.specs.declared.goal.Event.{Event}
use Rattle.exec_msg.specs.declared.goal.GoalStatus.{GoalStatus}
use Rattle.exec_msg.specs.declared.goal.GoalStatus.TheVariants as status
use Rattle.exec_msg.specs.declared.goal.ReturnCode.{ReturnCode}
use Rattle.exec_msg.specs.declared.line.Line.{Line}
use Rattle.exec_msg.specs.declared.line.Line.TheVariants as line
use Rattle.exec_msg.specs.Lists.{change_first}
use Rattle.exec_script.specs.declared.effects.Close.{Close}
use Rattle.exec_script.specs.declared.effects.Close.TheVariants as close
use Rattle.exec_task.specs.Task.{new_task}
use Rattle.exec_plan.specs.declared.order.Order.{Order}
use Rattle.exec_plan.specs.declared.order.Order.TheVariants as order
use Rattle.exec_rules.specs.World.{WorldState, HeldGoal, ServerEntry, ActionClientEntry, goals_at, has_room_for, action_client_at}
use Rattle.exec_rules.specs.World.{add_line, add_lines, push, push_any, change_server, change_goals, change_held, arrived, next_arrival, with_arrival}
use Rattle.exec_rules.specs.declared.item.Item.{Item}
use Rattle.exec_rules.specs.declared.item.Item.TheVariants as item
use Rattle.exec_rules.specs.declared.ready.Cause.{Cause}
use Rattle.exec_rules.specs.declared.ready.Cause.TheVariants as cause
use Rattle.exec_rules.specs.declared.ready.Ready.{Ready}

-- the reply that closes a callback; no other closing has one
abbrev pub reply_of_close : Close → ℤ
reply_of_close (close.Reply value) = value
reply_of_close _ = pos 0

-- the decision that closes it; any other closing rejects
abbrev pub decision_of_close : Close → Decision
decision_of_close (close.Decide made) = made
decision_of_close _ = decision.Reject

-- the decisions that close it
abbrev pub decisions_of_close : Close → List Decided
decisions_of_close (close.Decisions decisions) = decisions
decisions_of_close _ = []

-- ---- services

-- a service replies to a client's call of a number
abbrev pub reply_to : EntityNo → EntityNo → ℕ → ℤ → WorldState → WorldState
reply_to service client number value world = push client (item.Reply number value) (add_line (line.Reply service value) world)

-- ---- goal requests

-- a request for a goal: its identifier, the action client that sent it, if one did, and its value
pub record GoalRequest : Type 0 where
  pub id : GoalId
  pub client : Option EntityNo
  pub value : ℤ

-- the lines of a goal's first state, and of its execution where that follows at once
abbrev pub accepted_lines : EntityNo → GoalId → Acceptance → List Line
accepted_lines server id acceptance.Execute = line.State server id status.Accepted ∷ line.State server id status.Executing ∷ []
accepted_lines server id acceptance.Defer = line.State server id status.Accepted ∷ []

-- a goal that a server accepts at a moment, with the number of its arrival
abbrev pub held_goal : ℕ → Moment → Acceptance → Script → GoalRequest → HeldGoal
held_goal number moment how script request = record {
  goal = new_goal request.id request.value moment how;
  client = request.client;
  work = record { script = script; value = request.value; task = new_task };
  arrival = number;
}

-- a server that holds one more goal, accepted at a moment
abbrev pub server_accepting : ℕ → Moment → Acceptance → GoalRequest → ServerEntry → ServerEntry
server_accepting number moment how request entry =
    record entry { held = entry.held ++ held_goal number moment how entry.handler.script request ∷ [] }

-- a server accepts a goal at a moment: the goal arrives
abbrev pub accept : EntityNo → Moment → Acceptance → GoalRequest → WorldState → WorldState
accept server moment how request world =
    add_lines (accepted_lines server request.id how)
    (change_server server (server_accepting (next_arrival world) moment how request) (with_arrival world))

-- a goal request is accepted so, or not
abbrev pub accept_where : Option Acceptance → EntityNo → Moment → GoalRequest → WorldState → WorldState
accept_where None server moment request world = world
accept_where (Some how) server moment request world = accept server moment how request world

-- a server decides so on a goal request, and answers the client that sent it
abbrev pub decide : EntityNo → Moment → Decision → GoalRequest → WorldState → WorldState
decide server moment made request world =
    push_any request.client (item.Response request.id (is_accepting made))
    (accept_where (acceptance_of made) server moment request (add_line (line.Decide server request.id made) world))

-- a server decides on a goal request: it rejects one whose identifier it holds, or for which it has no room
abbrev pub answer_goal : EntityNo → Moment → Decision → GoalRequest → WorldState → WorldState
answer_goal server moment made request world =
    decide server moment (if has_room_for request.id (goals_at server world) then made else decision.Reject) request world

-- ---- cancel requests

-- the lines of the goals that move
abbrev pub moved_lines : EntityNo → List GoalRecord → List Line
moved_lines server goals = map (λ one. line.State server one.id status.Canceling) goals

-- a server answers a cancel request that moves these of its goals with a code
abbrev pub answer_cancel : EntityNo → Option EntityNo → ReturnCode → List GoalRecord → WorldState → WorldState
answer_cancel server client returned goals world =
    push_any client (item.Code returned (length goals)) (add_lines (moved_lines server goals ++ line.Code server returned (length goals) ∷ []) world)

-- a server cancels by what was decided of a request's candidates, as its goals are now, and answers the request
abbrev pub cancel : EntityNo → CancelRequest → Option EntityNo → List Decided → WorldState → WorldState
cancel server request client decisions world =
    let goals = goals_at server world in
    answer_cancel server client (code_of request decisions goals) (moved decisions goals) (change_goals server (table_after decisions) world)

-- ---- results

-- a server tells an action client a goal's result
abbrev pub tell : EntityNo → GoalId → GoalStatus → ℤ → EntityNo → WorldState → WorldState
tell server id status value client world = push client (item.Result id status value) (add_line (line.Result server id status value) world)

-- a result request that is told this is answered at once, or its client is noted
abbrev pub answer_ask : EntityNo → GoalId → EntityNo → Asked → WorldState → WorldState
answer_ask server id client (told status value) world = tell server id status value client world
answer_ask server id client unknown world = tell server id status.Unknown (pos 0) client world
answer_ask server id client later world = change_goals server (change_first (has_id id) (asked_by client)) world

-- a server answers a result request, or notes its client
abbrev pub ask : EntityNo → GoalId → EntityNo → WorldState → WorldState
ask server id client world = answer_ask server id client (asked_for id (goals_at server world)) world

-- an action client whose goal was accepted asks for its result, where it asks for results
abbrev pub ask_where : Bool → ActionClientEntry → GoalId → WorldState → WorldState
ask_where true client id world = push client.server (item.Ask id client.entity) (add_line (line.Ask client.entity id) world)
ask_where false client id world = world

-- an action client learns whether its goal was accepted; one that isn't there does nothing
abbrev pub respond : Option ActionClientEntry → GoalId → Bool → WorldState → WorldState
respond None id accepted world = world
respond (Some client) id accepted world = ask_where (accepted && client.asks) client id world

-- ---- polls

-- each client that asked for the result of a goal that ended is told, in order of asking
abbrev pub tell_askers : EntityNo → GoalRecord → WorldState → WorldState
tell_askers server goal world =
    fold (λ before client. tell server goal.id (status_of goal.state) goal.result client before) world goal.askers

-- a goal that ended, as its server holds it then: its line, and its askers
abbrev pub tell_end : EntityNo → Option GoalRecord → WorldState → WorldState
tell_end server None world = world
tell_end server (Some goal) world = tell_askers server goal (add_line (line.State server goal.id (status_of goal.state)) world)

-- the world in which the goal of an identifier ended by an event with a value
abbrev pub with_ended : EntityNo → GoalId → Event → ℤ → Moment → WorldState → WorldState
with_ended server id by value moment world = change_goals server (change_first (has_id id) (after_end by value moment)) world

-- the record of a server's goal of an identifier
abbrev pub goal_at : EntityNo → GoalId → WorldState → Option GoalRecord
goal_at server id world = find (has_id id) (goals_at server world)

-- a goal ends by an event with a value, where that leads to this state; where it leads to none, nothing happens
abbrev pub end_in : Option State → EntityNo → GoalId → Event → ℤ → Moment → WorldState → WorldState
end_in None server id by value moment world = world
end_in (Some reached) server id by value moment world =
    let ended = with_ended server id by value moment world in
    tell_end server (goal_at server id ended) ended

-- a goal ends by an event with a value, where that leads to a terminal state
abbrev pub end : EntityNo → GoalId → Event → ℤ → Moment → WorldState → WorldState
end server id by value moment world = end_in (end_state id by (goals_at server world)) server id by value moment world

-- a server's goal arrives anew
abbrev pub goal_arrived : EntityNo → GoalId → WorldState → WorldState
goal_arrived server id world = change_held server id (arrived (next_arrival world)) (with_arrival world)

-- a goal whose poll pends arrives anew, if the order asks for arrivals
abbrev pub pend : Order → EntityNo → GoalId → WorldState → WorldState
pend order.Kind server id world = world
pend order.Arrival server id world = goal_arrived server id world

-- a poll that ended a goal ends it, and one that pends has it arrive anew if the order asks for arrivals
abbrev pub close_poll : EntityNo → GoalId → Moment → Close → WorldState → WorldState
close_poll server id moment (close.Ended by value) world = end server id by value moment world
close_poll server id moment close.Pending world = pend world.order server id world
close_poll server id moment _ world = world

-- ---- callbacks

-- what closes a callback of an entity that took an item
abbrev pub close_item : EntityNo → Moment → Item → Close → WorldState → WorldState
close_item entity moment (item.Request client number value) closing world = reply_to entity client number (reply_of_close closing) world
close_item entity moment (item.Goal id client value) closing world =
    answer_goal entity moment (decision_of_close closing) (record { id = id; client = client; value = value }) world
close_item entity moment (item.Cancel request client) closing world = cancel entity request client (decisions_of_close closing) world
close_item entity moment (item.Ask id client) closing world = ask entity id client world
close_item entity moment (item.Response id accepted) closing world =
    respond (action_client_at entity world) id accepted world
close_item entity moment _ closing world = world

-- what closes a callback of an entity that was ready for a cause
abbrev pub close_cause : EntityNo → Moment → Cause → Close → WorldState → WorldState
close_cause entity moment cause.Due closing world = world
close_cause entity moment (cause.Took taken) closing world = close_item entity moment taken closing world
close_cause entity moment (cause.Woke id value canceling) closing world = close_poll entity id moment closing world

-- what closes a ready callback
abbrev pub close_callback : Ready → Close → WorldState → WorldState
close_callback one closing world = close_cause one.entity one.moment one.cause closing world
