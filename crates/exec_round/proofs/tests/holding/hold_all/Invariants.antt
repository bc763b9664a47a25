use Rattle.std.proofs.Common.{◌≡◌, ℕ, length}
use Rattle.exec_round.proofs.HeldLanes.{HoldsClaims}
use Rattle.exec_round.proofs.tests.holding.hold_all.Given as goal

-- it holds the lanes that it has come to
abbrev pub invariant-loop-lane : goal.invariant-loop-lane
invariant-loop-lane l = HoldsClaims l.fn.pass l.lane l.claims.items l.pass.view × (l.pass.board ≡ l.fn.pass.board)

-- and those that are left
abbrev pub invariant-loop-claim : goal.invariant-loop-claim
invariant-loop-claim l = ((bound : ℕ) × HoldsClaims l.fn.pass bound l.claims.items l.pass.view) × (l.pass.board ≡ l.fn.pass.board)

abbrev pub decreases-loop-claim : goal.decreases-loop-claim
decreases-loop-claim l = length l.claims.items
