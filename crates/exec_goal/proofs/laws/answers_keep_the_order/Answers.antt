use Rattle.exec_goal.proofs.Answering.{table-ids}
use Rattle.exec_goal.proofs.laws.answers_keep_the_order.Goals as goal

pub returns : goal.returns
returns c = table-ids
