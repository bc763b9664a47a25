-- What is written so far is the front of the text.
use Rattle.std.proofs.Common.{◌≡◌, length, ◌-◌, ◌≤◌, take}
use Rattle.std.specs.Io.KnownBytes.{Appends}
use Rattle.exec_io.proofs.writing.put_all.Given as goal

abbrev pub invariant-loop-written : goal.invariant-loop-written
invariant-loop-written g l = record {
  within : l.written ≤ length l.text;
  sound : (g.O.Out.sink l.out).failed ≡ (g.O.Out.sink l.initial.out).failed;
  front : Appends (g.O.Out.sink l.initial.out).contents (g.O.Out.sink l.out).contents (take l.written l.text);
}

abbrev pub decreases-loop-written : goal.decreases-loop-written
decreases-loop-written g l = length l.text - l.written
