-- Which closings add something to a world: a line, an item, a client that waits for a result, or the number of an arrival, which
-- has to fit into 64 bits. The others need no memory.
use Rattle.std.specs.Prelude.{Bool, true, false, ◌&&◌, Option, None, Some}
use Rattle.std.specs.Option.{is_some}
use Rattle.exec_goal.specs.Calls.{end_state}
use Rattle.exec_msg.specs.Numbers.{EntityNo, GoalId}
use Rattle.exec_plan.specs.declared.order.Order.{Order}
use Rattle.exec_plan.specs.declared.order.Order.TheVariants as order
use Rattle.exec_script.specs.declared.effects.Close.{Close}
use Rattle.exec_script.specs.declared.effects.Close.TheVariants as close
use Rattle.exec_rules.specs.World.{WorldState, ActionClientEntry, goals_at, action_client_at}
use Rattle.exec_rules.specs.declared.item.Item.{Item}
use Rattle.exec_rules.specs.declared.item.Item.TheVariants as item
use Rattle.exec_rules.specs.declared.ready.Cause.{Cause}
use Rattle.exec_rules.specs.declared.ready.Cause.TheVariants as cause
use Rattle.exec_rules.specs.declared.ready.Ready.{Ready}

-- an action client asks for the result of a goal that was accepted
abbrev pub response_adds : Option ActionClientEntry → Bool → Bool
response_adds None accepted = false
response_adds (Some client) accepted = accepted && client.asks

-- a service replies, a server answers, and a client that asks is told or noted
abbrev pub item_adds : EntityNo → Item → WorldState → Bool
item_adds entity (item.Request client number value) world = true
item_adds entity (item.Goal id client value) world = true
item_adds entity (item.Cancel request client) world = true
item_adds entity (item.Ask id client) world = true
item_adds entity (item.Response id accepted) world = response_adds (action_client_at entity world) accepted
item_adds entity _ world = false

-- a goal whose poll pends arrives anew, if the order asks for arrivals
abbrev pub pend_adds : Order → Bool
pend_adds order.Kind = false
pend_adds order.Arrival = true

-- a goal ends, or arrives anew
abbrev pub poll_adds : EntityNo → GoalId → Close → WorldState → Bool
poll_adds server id (close.Ended by value) world = is_some (end_state id by (goals_at server world))
poll_adds server id close.Pending world = pend_adds world.order
poll_adds server id _ world = false

abbrev pub cause_adds : EntityNo → Cause → Close → WorldState → Bool
cause_adds entity cause.Due closing world = false
cause_adds entity (cause.Took taken) closing world = item_adds entity taken world
cause_adds entity (cause.Woke id value canceling) closing world = poll_adds entity id closing world

-- what closes a ready callback
abbrev pub closing_adds : Ready → Close → WorldState → Bool
closing_adds one closing world = cause_adds one.entity one.cause closing world
