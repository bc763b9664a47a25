use Rattle.std.proofs.Common.{◌≡◌, map, drop, []}
use Rattle.exec_graph.specs.inner.Directory.{names_from}
use Rattle.exec_graph.proofs.draft.directory.has_node_names.Given as goal

-- what is added so far, and then what is left, is all
abbrev pub invariant-loop-node : goal.invariant-loop-node
invariant-loop-node l = names_from l.names (map (λ node. node.name) (drop l.node-index l.nodes)) ≡ names_from [] (map (λ node. node.name) l.nodes)
