use Rattle.std.proofs.Common.{arith}
use Rattle.exec_board.proofs.Holding.{differ}
use Rattle.exec_board.proofs.laws.a_callback_is_of_segments_of_its_lane.Goals as goal

pub returns-clause-same : goal.returns-clause-same
returns-clause-same c = λ lane place segment same. omega (arith, same)

pub returns-clause-other : goal.returns-clause-other
returns-clause-other c = λ lane place segment away. let far = differ segment.lane lane away in omega (arith, far)
