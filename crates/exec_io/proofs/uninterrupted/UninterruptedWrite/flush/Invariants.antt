-- A call that a signal interrupted writes nothing.
use Rattle.std.specs.Io.KnownBytes.{Keeps}
use Rattle.exec_io.proofs.uninterrupted.UninterruptedWrite.flush.Given as goal

abbrev pub invariant-loop : goal.invariant-loop
invariant-loop g l = record {
  kept : Keeps (g.W.Write.contents l.initial.self.stream) (g.W.Write.contents l.self.stream);
}
