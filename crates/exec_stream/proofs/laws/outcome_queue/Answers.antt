use Rattle.exec_stream.proofs.Balances.{begins}
use Rattle.exec_stream.proofs.laws.outcome_queue.Goals as goal

pub ruled-requires-clause-rule : goal.ruled-requires-clause-rule
ruled-requires-clause-rule c = begins
