use Rattle.std.proofs.Common.{◌≡◌, ◌<◌, ◌≤◌, ◌-◌}
use Rattle.exec_board.specs.Board.{IsSized}
use Rattle.exec_board.specs.inner.Visits.{Turning}
use Rattle.exec_board.proofs.board.Board.visit_all.Given as goal

-- the visit to each lane has come so far
abbrev pub invariant-loop-lane : goal.invariant-loop-lane
invariant-loop-lane g l = Turning l.lane l.quantum l.claimed l.fn.pass.view l.pass.view × (l.pass.board ≡ l.fn.pass.board) × (l.lane ≤ l.self.words) × (0 < l.lane → IsSized l.self l.fn.pass.view)

abbrev pub decreases-loop-lane : goal.decreases-loop-lane
decreases-loop-lane g l = l.self.words - l.lane
