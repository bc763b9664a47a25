use Rattle.exec_rules.proofs.Numbering.{numbered_in_rounds}
use Rattle.exec_rules.proofs.laws.queues_have_a_number_for_each_item.Goals as goal

pub returns : goal.returns
returns c = numbered_in_rounds
