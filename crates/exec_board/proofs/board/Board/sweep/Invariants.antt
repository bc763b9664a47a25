use Rattle.std.proofs.Common.{◌≡◌}
use Rattle.exec_board.specs.Sweeps.{GotOn, IsSwept}
use Rattle.exec_board.specs.inner.Visits.{left_for}
use Rattle.exec_board.proofs.board.Board.sweep.Given as goal

-- it has swept so far, and ran a callback of each lane that it claimed
abbrev pub invariant-loop : goal.invariant-loop
invariant-loop g l = IsSwept l.quantum l.fn.pass.view l.pass.view × GotOn l.fn.pass.view l.pass.view × (l.pass.board ≡ l.fn.pass.board)

-- how many callbacks it hasn't seen to have run
abbrev pub decreases-loop : goal.decreases-loop
decreases-loop g l = left_for l.pass.view
