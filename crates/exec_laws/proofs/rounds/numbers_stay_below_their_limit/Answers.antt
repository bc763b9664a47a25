use Rattle.exec_laws.proofs.Counted.{few_arrivals}
use Rattle.exec_laws.proofs.Numbers.{few_calls, few_goals_sent}
use Rattle.exec_laws.proofs.rounds.numbers_stay_below_their_limit.Goals as goal

pub returns : goal.returns
returns c = record { calls = few_calls; goals = few_goals_sent; arrivals = few_arrivals }
