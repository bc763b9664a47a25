use Rattle.exec_script.proofs.Lasting.{resumed_behind, resumed_within}
use Rattle.exec_script.proofs.laws.goes_on_within_its_end.Goals as goal

pub returns : goal.returns
returns g c = record { behind = resumed_behind; within = resumed_within }
