use Rattle.exec_stream.proofs.Balances.{last_empty, last_held}
use Rattle.exec_stream.proofs.laws.the_last_pass_knows_what_the_queue_held.Goals as goal

pub returns-clause-held : goal.returns-clause-held
returns-clause-held c = last_held

pub returns-clause-empty : goal.returns-clause-empty
returns-clause-empty c = last_empty
