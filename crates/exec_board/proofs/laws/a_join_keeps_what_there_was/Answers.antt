use Rattle.std.proofs.Common.{arith}
use Rattle.exec_board.specs.Rule.{in_segment}
use Rattle.exec_board.proofs.Shares.{paste}
use Rattle.exec_board.proofs.Tallies.{tally-append}
use Rattle.exec_board.proofs.laws.a_join_keeps_what_there_was.Goals as goal

pub returns-clause-ran : goal.returns-clause-ran
returns-clause-ran c = λ lane place front back. tally-append (in_segment lane place) front.segments back.segments

pub returns-clause-share : goal.returns-clause-share
returns-clause-share c = λ number front back one other neighbours.
    let all = paste front.start front.stop back.start back.stop number one other neighbours in
    omega (arith, all)
