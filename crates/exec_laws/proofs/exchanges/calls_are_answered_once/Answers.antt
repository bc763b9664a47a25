use Rattle.exec_laws.proofs.Replies.{all_answered}
use Rattle.exec_laws.proofs.exchanges.calls_are_answered_once.Goals as goal

pub returns : goal.returns
returns c = all_answered
