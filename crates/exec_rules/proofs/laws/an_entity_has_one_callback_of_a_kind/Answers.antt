use Rattle.exec_rules.proofs.ReadyLists.{one_ready}
use Rattle.exec_rules.proofs.laws.an_entity_has_one_callback_of_a_kind.Goals as goal

pub returns : goal.returns
returns c = one_ready
