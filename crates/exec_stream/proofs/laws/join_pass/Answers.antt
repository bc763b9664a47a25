use Rattle.exec_stream.proofs.Balances.{merges}
use Rattle.exec_stream.proofs.laws.join_pass.Goals as goal

pub absorb-requires-clause-rule : goal.absorb-requires-clause-rule
absorb-requires-clause-rule c = merges _ _ _ _ c.requires.parts
