-- The states of a goal, and what moves it from one to another: the ROS 2 design article "Actions", section "Goal States".
use Rattle.std.specs.Prelude.{Bool, true, false, Option, None, Some}
use Rattle.exec_msg.specs.declared.goal.Event.{Event}
use Rattle.exec_msg.specs.declared.goal.Event.TheVariants as event
use Rattle.exec_msg.specs.declared.goal.GoalStatus.{GoalStatus}
use Rattle.exec_msg.specs.declared.goal.GoalStatus.TheVariants as status
use Rattle.exec_goal.specs.declared.state.State.{State}
use Rattle.exec_goal.specs.declared.state.State.TheVariants as state

-- the transitions of a goal; there are no others
pub data Transition : State → Event → State → Type 0 where
  execute : Transition state.Accepted event.Execute state.Executing
  cancel_accepted : Transition state.Accepted event.CancelGoal state.Canceling
  cancel_executing : Transition state.Executing event.CancelGoal state.Canceling
  succeed : Transition state.Executing event.Succeed state.Succeeded
  abort : Transition state.Executing event.Abort state.Aborted
  succeed_canceling : Transition state.Canceling event.Succeed state.Succeeded
  abort_canceling : Transition state.Canceling event.Abort state.Aborted
  canceled : Transition state.Canceling event.Canceled state.Canceled

-- the state after an event, where there is such a transition
abbrev pub after : State → Event → Option State
after state.Accepted event.Execute = Some state.Executing
after state.Accepted event.CancelGoal = Some state.Canceling
after state.Executing event.CancelGoal = Some state.Canceling
after state.Executing event.Succeed = Some state.Succeeded
after state.Executing event.Abort = Some state.Aborted
after state.Canceling event.Succeed = Some state.Succeeded
after state.Canceling event.Abort = Some state.Aborted
after state.Canceling event.Canceled = Some state.Canceled
after _ _ = None

-- its status in `action_msgs/msg/GoalStatus`
abbrev pub status_of : State → GoalStatus
status_of state.Accepted = status.Accepted
status_of state.Executing = status.Executing
status_of state.Canceling = status.Canceling
status_of state.Succeeded = status.Succeeded
status_of state.Canceled = status.Canceled
status_of state.Aborted = status.Aborted

-- a goal that is accepted and not executed yet
abbrev pub is_accepted : State → Bool
is_accepted state.Accepted = true
is_accepted _ = false

-- a goal that a cancel request may move
abbrev pub is_cancelable : State → Bool
is_cancelable state.Accepted = true
is_cancelable state.Executing = true
is_cancelable _ = false

-- a goal that is being canceled
abbrev pub is_canceling : State → Bool
is_canceling state.Canceling = true
is_canceling _ = false

-- a goal that the server works on
abbrev pub is_worked_on : State → Bool
is_worked_on state.Executing = true
is_worked_on state.Canceling = true
is_worked_on _ = false

-- a goal that has ended
abbrev pub is_terminal : State → Bool
is_terminal state.Succeeded = true
is_terminal state.Canceled = true
is_terminal state.Aborted = true
is_terminal _ = false
