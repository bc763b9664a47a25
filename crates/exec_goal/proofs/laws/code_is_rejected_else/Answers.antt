use Rattle.exec_goal.proofs.ReturnCodes.{unnamed_code, active_code}
use Rattle.exec_goal.proofs.laws.code_is_rejected_else.Goals as goal

pub returns : goal.returns
returns c = record { unnamed = unnamed_code; active = active_code }
