use Rattle.exec_stream.proofs.Balances.{learns, takes}
use Rattle.exec_stream.proofs.laws.take_outcome.Goals as goal

pub pop_as-requires-clause-rule : goal.pop_as-requires-clause-rule
pop_as-requires-clause-rule g c = (takes _ _ c.requires.parts, learns _ _)
