use Rattle.exec_laws.proofs.Askers.{told_once}
use Rattle.exec_laws.proofs.exchanges.askers_are_told_once.Goals as goal

pub returns : goal.returns
returns c = told_once
