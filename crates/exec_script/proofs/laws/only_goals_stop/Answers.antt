use Rattle.exec_script.proofs.Lasting.{resumed_ends}
use Rattle.exec_script.proofs.laws.only_goals_stop.Goals as goal

pub returns : goal.returns
returns g c = resumed_ends
