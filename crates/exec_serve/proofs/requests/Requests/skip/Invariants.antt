-- As many bytes were read as no longer are to be.
use Rattle.std.proofs.Common.{◌≡◌, ℕ, ◌+◌, ◌≤◌, List, length}
use Rattle.exec_serve.specs.inner.Requests.{Takes}
use Rattle.exec_serve.proofs.requests.Requests.skip.Given as goal

abbrev pub invariant-loop-left : goal.invariant-loop-left
invariant-loop-left g l = record {
  within : l.left ≤ l.size;
  taken : (bytes : List ℕ) × (length bytes + l.left ≡ l.size) × Takes l.initial.self l.self bytes;
}

abbrev pub decreases-loop-left : goal.decreases-loop-left
decreases-loop-left g l = l.left
