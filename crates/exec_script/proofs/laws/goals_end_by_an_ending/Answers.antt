use Rattle.exec_script.proofs.Lasting.{resumed_ending}
use Rattle.exec_script.proofs.laws.goals_end_by_an_ending.Goals as goal

pub returns : goal.returns
returns g c = resumed_ending
