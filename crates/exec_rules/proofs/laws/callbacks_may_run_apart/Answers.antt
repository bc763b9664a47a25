use Rattle.exec_rules.proofs.Apart.{runs_apart}
use Rattle.exec_rules.proofs.laws.callbacks_may_run_apart.Goals as goal

pub returns : goal.returns
returns c = runs_apart
