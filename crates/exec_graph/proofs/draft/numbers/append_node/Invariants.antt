use Rattle.std.proofs.Common.{◌≡◌, ◌++◌, map, take}
use Rattle.exec_graph.specs.Numbers.{node_entity}
use Rattle.exec_graph.proofs.draft.numbers.append_node.Given as goal

abbrev pub invariant-loop-entity : goal.invariant-loop-entity
invariant-loop-entity l = l.entities.items ≡ l.fn.entities.items ++ map (node_entity l.node) (take l.entity-index l.drafts)
