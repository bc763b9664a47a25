use Rattle.exec_stream.proofs.Balances.{learns, puts}
use Rattle.exec_stream.proofs.laws.put_outcome.Goals as goal

pub push_as-requires-clause-rule : goal.push_as-requires-clause-rule
push_as-requires-clause-rule g c = (puts _ _ _ _ c.requires.parts, learns _ _)
