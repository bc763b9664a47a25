use Rattle.exec_script.proofs.Lasting.{resumed_gives}
use Rattle.exec_script.proofs.laws.effects_come_of_instructions.Goals as goal

pub returns : goal.returns
returns c = resumed_gives
