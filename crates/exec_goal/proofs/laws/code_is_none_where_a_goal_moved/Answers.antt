use Rattle.exec_goal.proofs.ReturnCodes.{none_to, none_from}
use Rattle.exec_goal.proofs.laws.code_is_none_where_a_goal_moved.Goals as goal

pub returns : goal.returns
returns c = λ request decisions goals. (none_to request decisions goals, none_from request decisions goals)
