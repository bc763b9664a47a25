use Rattle.exec_stream.specs.Sending.{Collects}
use Rattle.exec_stream.proofs.collecting.Collector.drain.Given as goal

-- it stays at its queue, and puts nothing
abbrev pub invariant-loop : goal.invariant-loop
invariant-loop g l = (goal.iterator-loop g).can_next l.iterator' × (goal.iterator-loop g).is_finite l.iterator' × Collects l.initial.collector l.collector
