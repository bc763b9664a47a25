use Rattle.exec_laws.proofs.Results.{asks_answered}
use Rattle.exec_laws.proofs.exchanges.asks_are_answered_once.Goals as goal

pub returns : goal.returns
returns c = λ plan server id. asks_answered server id plan
