use Rattle.std.proofs.Common.{◌≡◌, map, take, string_bytes}
use Rattle.exec_graph.proofs.draft.assemble.node_names.Given as goal

abbrev pub invariant-loop-node : goal.invariant-loop-node
invariant-loop-node l = map string_bytes l.names.items ≡ map (λ node. node.name) (take l.node-index l.nodes)
