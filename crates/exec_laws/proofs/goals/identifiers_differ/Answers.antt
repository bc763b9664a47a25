use Rattle.exec_rules.proofs.Identifiers.{distinct_ids}
use Rattle.exec_laws.proofs.goals.identifiers_differ.Goals as goal

pub returns : goal.returns
returns c = distinct_ids
