use Rattle.exec_stream.proofs.Balances.{forks}
use Rattle.exec_stream.proofs.laws.split_pass.Goals as goal

pub another-requires-clause-rule : goal.another-requires-clause-rule
another-requires-clause-rule c = forks _ _ c.requires.parts
