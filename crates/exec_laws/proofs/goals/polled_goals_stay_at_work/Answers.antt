use Rattle.exec_laws.proofs.Endings.{polled_at_work, closed_at_work}
use Rattle.exec_laws.proofs.goals.polled_goals_stay_at_work.Goals as goal

pub returns : goal.returns
returns c = record {
  turn = λ plan number moments next moment one here id value canceling comes polls. polled_at_work plan number moments next moment one here comes id value canceling polls;
  closing = λ plan number moments next moment one here id value canceling comes polls. closed_at_work plan number moments next moment one here comes id value canceling polls;
}
