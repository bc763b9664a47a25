use Rattle.std.proofs.Common.{arith}
use Rattle.exec_board.proofs.Shares.{cut, middle_within}
use Rattle.exec_board.specs.Seats.{middle}
use Rattle.exec_board.proofs.laws.a_split_keeps_what_there_was.Goals as goal

pub returns-clause-ran : goal.returns-clause-ran
returns-clause-ran c = λ lane place view. omega arith

pub returns-clause-share : goal.returns-clause-share
returns-clause-share c = λ number view long.
    let inside = middle_within view.start view.stop long in
    let least = inside.0 in
    let most = inside.1 in
    cut view.start (middle view) view.stop number (omega (arith, least)) (omega (arith, most))
