use Rattle.std.proofs.Common.{arith}
use Rattle.exec_board.proofs.Holding.{differ}
use Rattle.exec_board.proofs.laws.numbers_are_the_same_where_they_are_equal.Goals as goal

pub returns-clause-equal : goal.returns-clause-equal
returns-clause-equal c = λ a b same. omega (arith, same)

pub returns-clause-other : goal.returns-clause-other
returns-clause-other c = differ
