use Rattle.exec_rules.proofs.Shapes.{shape_stays}
use Rattle.exec_laws.proofs.rounds.the_shape_never_changes.Goals as goal

pub returns : goal.returns
returns c = shape_stays
