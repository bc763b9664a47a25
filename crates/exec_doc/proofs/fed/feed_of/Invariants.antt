use Rattle.std.proofs.Common.{◌≡◌, ◌++◌, drop, Some}
use Rattle.exec_msg.specs.Options.{◌>>=◌, each}
use Rattle.exec_doc.specs.inner.Placing.{entry_by}
use Rattle.exec_doc.proofs.fed.feed_of.Given as goal

-- the entries so far, and then those of what is left, are the entries of all
abbrev pub invariant-loop-entry : goal.invariant-loop-entry
invariant-loop-entry l =
    (each (entry_by l.graph) (drop l.entry-index l.entries) >>= (λ rest. Some (l.feed.items ++ rest)))
    ≡ each (entry_by l.graph) l.entries
