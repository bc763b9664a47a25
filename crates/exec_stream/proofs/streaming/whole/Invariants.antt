use Rattle.std.proofs.Common.{◌≡◌}
use Rattle.std.specs.Arc.{arc_value}
use Rattle.exec_stream.proofs.streaming.whole.Given as goal

-- it is the round that was shared
abbrev pub invariant-loop : goal.invariant-loop
invariant-loop g l = arc_value l.left ≡ arc_value l.fn.shared
