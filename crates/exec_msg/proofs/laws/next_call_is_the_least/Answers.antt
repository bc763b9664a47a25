use Rattle.exec_msg.proofs.NextCall.{next_call-is}
use Rattle.exec_msg.proofs.laws.next_call_is_the_least.Goals as goal

pub returns : goal.returns
returns c = next_call-is
