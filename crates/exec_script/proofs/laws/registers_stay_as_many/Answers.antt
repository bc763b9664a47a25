use Rattle.exec_script.proofs.Lasting.{resumed_as_many}
use Rattle.exec_script.proofs.laws.registers_stay_as_many.Goals as goal

pub returns : goal.returns
returns g c = resumed_as_many
