use Rattle.exec_msg.proofs.Queues.{fold-sent}
use Rattle.exec_msg.proofs.laws.queue_holds_the_last.Goals as goal

pub returns : goal.returns
returns g c = fold-sent
