use Rattle.exec_laws.proofs.Arrivals.{arrivals_rise}
use Rattle.exec_laws.proofs.DistinctNumbers.{goals_have_arrived, numbers_differ}
use Rattle.exec_laws.proofs.rounds.numbers_of_arrivals_rise.Goals as goal

pub returns : goal.returns
returns c = record { queues = arrivals_rise; goals = goals_have_arrived; distinct = numbers_differ }
