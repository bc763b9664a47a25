use Rattle.exec_laws.proofs.Handling.{decisions_before, decided_ids}
use Rattle.exec_laws.proofs.goals.decisions_are_of_the_candidates.Goals as goal

pub returns : goal.returns
returns g c = record {
  before = decisions_before;
  identifiers = decided_ids;
}
