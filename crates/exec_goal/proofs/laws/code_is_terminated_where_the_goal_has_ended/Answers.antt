use Rattle.exec_goal.proofs.ReturnCodes.{terminated_to, terminated_from}
use Rattle.exec_goal.proofs.laws.code_is_terminated_where_the_goal_has_ended.Goals as goal

pub returns : goal.returns
returns c = λ request decisions goals. (terminated_to request decisions goals, terminated_from request decisions goals)
