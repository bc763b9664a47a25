use Rattle.exec_rules.proofs.Committing.{all_commit}
use Rattle.exec_rules.proofs.laws.callbacks_may_be_committed_behind.Goals as goal

pub returns : goal.returns
returns c = all_commit
