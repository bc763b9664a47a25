use Rattle.std.proofs.Common.{◌≡◌, List, length}
use Rattle.exec_msg.specs.declared.line.Line.{Line}
use Rattle.exec_msg.specs.inner.Packed.{lines_in}
use Rattle.exec_msg.proofs.packed.said.skip_ids.Given as goal

-- the lines are the same from here
abbrev pub invariant-loop-left : goal.invariant-loop-left
invariant-loop-left l = (wholes : List Line) → lines_in l.left l.on wholes ≡ lines_in l.fn.cells l.fn.told wholes

abbrev pub decreases-loop-left : goal.decreases-loop-left
decreases-loop-left l = length l.left
