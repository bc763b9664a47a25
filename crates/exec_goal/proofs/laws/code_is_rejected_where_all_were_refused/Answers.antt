use Rattle.exec_goal.proofs.ReturnCodes.{rejected_from}
use Rattle.exec_goal.proofs.laws.code_is_rejected_where_all_were_refused.Goals as goal

pub returns : goal.returns
returns c = rejected_from
