use Rattle.exec_laws.proofs.Deliveries.{all_delivered}
use Rattle.exec_laws.proofs.exchanges.messages_are_delivered_in_order.Goals as goal

pub returns : goal.returns
returns c = all_delivered
