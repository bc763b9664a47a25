use Rattle.std.proofs.Common.{◌≡◌}
use Rattle.exec_board.specs.Sweeps.{IsSweptPass}
use Rattle.exec_round.proofs.tests.callers.call.Given as goal

-- it is the pass that it was, of the same share
abbrev pub invariant-loop : goal.invariant-loop
invariant-loop l = IsSweptPass l.fn.pass.view l.pass.view × (l.pass.board ≡ l.fn.pass.board)

abbrev pub invariant-loop-lane : goal.invariant-loop-lane
invariant-loop-lane l = IsSweptPass l.fn.pass.view l.pass.view × (l.pass.board ≡ l.fn.pass.board)
