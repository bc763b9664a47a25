use Rattle.std.proofs.Common.{arith}
use Rattle.exec_board.proofs.laws.a_number_is_within_from_the_first_to_the_end.Goals as goal

pub returns-clause-inside : goal.returns-clause-inside
returns-clause-inside c = λ first end x low high. omega (arith, low, high)

pub returns-clause-below : goal.returns-clause-below
returns-clause-below c = λ first end x low. omega (arith, low)

pub returns-clause-beyond : goal.returns-clause-beyond
returns-clause-beyond c = λ first end x high. omega (arith, high)
