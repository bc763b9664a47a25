-- Numbers that come from `action_msgs` and `rclcpp_action`.
use Rattle.std.specs.Prelude.{ℕ, Option, None, Some}
use Rattle.exec_msg.specs.declared.goal.Acceptance.{Acceptance}
use Rattle.exec_msg.specs.declared.goal.Acceptance.TheVariants as acceptance
use Rattle.exec_msg.specs.declared.goal.CancelDecision.{CancelDecision}
use Rattle.exec_msg.specs.declared.goal.CancelDecision.TheVariants as cancel_decision
use Rattle.exec_msg.specs.declared.goal.Decision.{Decision}
use Rattle.exec_msg.specs.declared.goal.Decision.TheVariants as decision
use Rattle.exec_msg.specs.declared.goal.GoalStatus.{GoalStatus}
use Rattle.exec_msg.specs.declared.goal.GoalStatus.TheVariants as status
use Rattle.exec_msg.specs.declared.goal.ReturnCode.{ReturnCode}
use Rattle.exec_msg.specs.declared.goal.ReturnCode.TheVariants as code

-- the number of a status: the constants of `action_msgs/msg/GoalStatus`
abbrev pub status_number : GoalStatus → ℕ
status_number status.Unknown = 0
status_number status.Accepted = 1
status_number status.Executing = 2
status_number status.Canceling = 3
status_number status.Succeeded = 4
status_number status.Canceled = 5
status_number status.Aborted = 6

-- the number of a return code: the constants of `action_msgs/srv/CancelGoal`
abbrev pub code_number : ReturnCode → ℕ
code_number code.None = 0
code_number code.Rejected = 1
code_number code.UnknownGoalId = 2
code_number code.GoalTerminated = 3

-- the number of a goal handler's decision: the constants of `rclcpp_action::GoalResponse`
abbrev pub decision_number : Decision → ℕ
decision_number decision.Reject = 1
decision_number decision.Execute = 2
decision_number decision.Defer = 3

-- how a decision accepts a goal, if it does
abbrev pub acceptance_of : Decision → Option Acceptance
acceptance_of decision.Reject = None
acceptance_of decision.Execute = Some acceptance.Execute
acceptance_of decision.Defer = Some acceptance.Defer

-- the number of a cancel handler's decision: the constants of `rclcpp_action::CancelResponse`
abbrev pub cancel_decision_number : CancelDecision → ℕ
cancel_decision_number cancel_decision.Reject = 1
cancel_decision_number cancel_decision.Accept = 2
