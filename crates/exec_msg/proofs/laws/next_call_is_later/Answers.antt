use Rattle.exec_msg.proofs.NextCall.{next_call-later}
use Rattle.exec_msg.proofs.laws.next_call_is_later.Goals as goal

pub returns : goal.returns
returns c = next_call-later
