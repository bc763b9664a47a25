-- What was read so far is the front of the buffer.
use Rattle.std.proofs.Common.{◌≡◌, ◌-◌, ◌≤◌, length, take}
use Rattle.exec_serve.specs.inner.Requests.{Takes}
use Rattle.exec_serve.proofs.requests.Requests.fill.Given as goal

abbrev pub invariant-loop-filled : goal.invariant-loop-filled
invariant-loop-filled g l = record {
  same_length : length l.buffer ≡ length l.initial.buffer;
  within : l.filled ≤ length l.buffer;
  taken : Takes l.initial.self l.self (take l.filled l.buffer);
}

abbrev pub decreases-loop-filled : goal.decreases-loop-filled
decreases-loop-filled g l = length l.initial.buffer - l.filled
