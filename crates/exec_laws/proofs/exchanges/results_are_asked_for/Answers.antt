use Rattle.exec_laws.proofs.Told.{results_fair}
use Rattle.exec_laws.proofs.exchanges.results_are_asked_for.Goals as goal

pub returns : goal.returns
returns c = λ plan client id. results_fair client id plan
