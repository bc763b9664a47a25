use Rattle.exec_laws.proofs.Earlier.{earlier_first, goals_left, items_left}
use Rattle.exec_laws.proofs.rounds.earlier_arrivals_are_taken_first.Goals as goal

pub returns : goal.returns
returns c = record { queues = items_left; goals = goals_left; ready = earlier_first }
