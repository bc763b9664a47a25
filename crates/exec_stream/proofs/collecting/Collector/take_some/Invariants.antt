use Rattle.exec_stream.specs.Sending.{Collects}
use Rattle.exec_stream.proofs.collecting.Collector.take_some.Given as goal

-- it stays at its queue, and puts nothing
abbrev pub invariant-loop : goal.invariant-loop
invariant-loop g l = Collects l.fn.self l.self
