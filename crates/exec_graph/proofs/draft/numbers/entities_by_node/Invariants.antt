use Rattle.std.proofs.Common.{◌≡◌, ◌++◌, drop}
use Rattle.exec_graph.specs.Numbers.{entities_from}
use Rattle.exec_graph.proofs.draft.numbers.entities_by_node.Given as goal

-- the entities so far, and then those of the nodes that are left, are those of all
abbrev pub invariant-loop-number : goal.invariant-loop-number
invariant-loop-number l = l.entities.items ++ entities_from l.number (drop l.number l.nodes) ≡ entities_from 0 l.nodes
