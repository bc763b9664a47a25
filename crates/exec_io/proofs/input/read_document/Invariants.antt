-- What is read so far is the front of the document.
use Rattle.std.proofs.Common.{◌+◌, ◌-◌, ◌≤◌, take, vec_len}
use Rattle.std.specs.Io.KnownBytes.{Consumes}
use Rattle.exec_msg.specs.declared.limits.TheConstants.{DOCUMENT}
use Rattle.exec_io.proofs.input.read_document.Given as goal

abbrev pub invariant-loop-filled : goal.invariant-loop-filled
invariant-loop-filled g l = record {
  within : l.filled ≤ vec_len l.document;
  bound : vec_len l.document ≤ DOCUMENT + 1;
  front : Consumes l.initial.input.remaining l.input.remaining (take l.filled l.document.items);
}

abbrev pub decreases-loop-filled : goal.decreases-loop-filled
decreases-loop-filled g l = DOCUMENT + 1 - l.filled
