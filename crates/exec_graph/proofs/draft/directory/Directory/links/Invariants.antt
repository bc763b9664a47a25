use Rattle.std.proofs.Common.{◌≡◌, ◌++◌, drop, option_map}
use Rattle.exec_graph.specs.inner.Directory.{linked_in}
use Rattle.exec_msg.specs.Options.{each}
use Rattle.exec_graph.proofs.draft.directory.Directory.links.Given as goal

-- those so far, and then those that are left, are all
abbrev pub invariant-loop-placed : goal.invariant-loop-placed
invariant-loop-placed l =
    option_map (λ others. l.linked.items ++ others) (each (linked_in l.self) (drop l.placed-index l.placed-items))
    ≡ each (linked_in l.self) l.self.entities
