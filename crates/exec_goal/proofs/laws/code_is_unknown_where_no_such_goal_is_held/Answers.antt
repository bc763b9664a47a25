use Rattle.exec_goal.proofs.ReturnCodes.{unknown_to, unknown_from}
use Rattle.exec_goal.proofs.laws.code_is_unknown_where_no_such_goal_is_held.Goals as goal

pub returns : goal.returns
returns c = λ request decisions goals. (unknown_to request decisions goals, unknown_from request decisions goals)
