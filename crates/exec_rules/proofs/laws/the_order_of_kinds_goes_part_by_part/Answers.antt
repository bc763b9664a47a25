use Rattle.exec_rules.proofs.ByKind.{listed_in_rounds}
use Rattle.exec_rules.proofs.laws.the_order_of_kinds_goes_part_by_part.Goals as goal

pub returns : goal.returns
returns c = listed_in_rounds
