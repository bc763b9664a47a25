use Rattle.exec_rules.proofs.ByArrival.{by_arrival, timers_first}
use Rattle.exec_rules.proofs.laws.ready_callbacks_come_by_arrival.Goals as goal

pub returns : goal.returns
returns c = record { parts = timers_first; numbers = by_arrival }
