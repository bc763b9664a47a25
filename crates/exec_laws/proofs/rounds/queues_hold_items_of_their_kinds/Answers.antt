use Rattle.exec_rules.proofs.OfKinds.{queues_of_kinds}
use Rattle.exec_laws.proofs.rounds.queues_hold_items_of_their_kinds.Goals as goal

pub returns : goal.returns
returns c = queues_of_kinds
