use Rattle.exec_script.proofs.Lasting.{resumed_counts}
use Rattle.exec_script.proofs.laws.effects_are_at_most_the_instructions.Goals as goal

pub returns : goal.returns
returns c = resumed_counts
