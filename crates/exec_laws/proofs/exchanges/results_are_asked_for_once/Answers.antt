use Rattle.exec_laws.proofs.Once.{asked_once}
use Rattle.exec_laws.proofs.exchanges.results_are_asked_for_once.Goals as goal

pub returns : goal.returns
returns c = λ plan client id. asked_once client id plan
