use Rattle.exec_laws.proofs.Endings.{ending_allowed}
use Rattle.exec_laws.proofs.goals.endings_are_allowed.Goals as goal

pub returns : goal.returns
returns c = λ plan number moments next moment one here id value canceling by result comes polls ends. ending_allowed plan number moments next moment one here comes id value canceling polls by result ends
