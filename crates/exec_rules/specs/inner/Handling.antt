-- What a cancel handler's call for a candidate is closed by.
use Rattle.exec_msg.specs.declared.goal.CancelDecision.{CancelDecision}
use Rattle.exec_msg.specs.declared.goal.CancelDecision.TheVariants as cancel_decision
use Rattle.exec_script.specs.declared.effects.Close.{Close}
use Rattle.exec_script.specs.declared.effects.Close.TheVariants as close

-- the decision of a candidate that closes a call; any other closing rejects
abbrev pub cancel_decision_in : Close → CancelDecision
cancel_decision_in (close.DecideCancel made) = made
cancel_decision_in _ = cancel_decision.Reject
