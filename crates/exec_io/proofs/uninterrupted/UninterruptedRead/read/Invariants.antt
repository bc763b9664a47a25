-- A call that a signal interrupted takes nothing, and the buffer keeps its length.
use Rattle.std.proofs.Common.{◌≡◌, length}
use Rattle.std.specs.Io.KnownBytes.{Keeps}
use Rattle.exec_io.proofs.uninterrupted.UninterruptedRead.read.Given as goal

abbrev pub invariant-loop : goal.invariant-loop
invariant-loop g l = record {
  room : length l.buf ≡ length l.initial.buf;
  kept : Keeps (g.R.Read.remaining l.initial.self.stream) (g.R.Read.remaining l.self.stream);
}
