use Rattle.std.proofs.Common.{◌≡◌, drop}
use Rattle.exec_rules.specs.Ready.{queue_taken}
use Rattle.exec_rules.specs.inner.Places.{change_each}
use Rattle.exec_queue.proofs.queue.take_each.Given as goal

-- what is left to take at, from here, takes as all places from the start
abbrev pub invariant-loop-place : goal.invariant-loop-place
invariant-loop-place l = change_each (drop l.place-index l.places) queue_taken l.entries.items ≡ change_each l.places queue_taken l.fn.entries.items
