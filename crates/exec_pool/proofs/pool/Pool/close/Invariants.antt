use Rattle.exec_pool.proofs.Following.{AreIdle}
use Rattle.exec_pool.proofs.pool.Pool.close.Given as goal

-- no job is out
abbrev pub invariant-loop-caller : goal.invariant-loop-caller
invariant-loop-caller l = AreIdle l.callers.items

abbrev pub decreases-loop-caller : goal.decreases-loop-caller
decreases-loop-caller l = goal.left-loop-caller l
