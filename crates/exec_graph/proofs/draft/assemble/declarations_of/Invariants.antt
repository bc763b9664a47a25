use Rattle.std.proofs.Common.{map, drop}
use Rattle.exec_plan.specs.inner.Entries.{entities_in as entries_of}
use Rattle.exec_graph.proofs.Appended.{Stands}
use Rattle.exec_graph.proofs.draft.assemble.declarations_of.Given as goal

-- what stands so far, and then what is left, is all
abbrev pub invariant-loop-linked : goal.invariant-loop-linked
invariant-loop-linked l = Stands l.draft (map (λ linked. linked.placed) (drop l.linked-index l.links)) (entries_of l.entities.entries)
