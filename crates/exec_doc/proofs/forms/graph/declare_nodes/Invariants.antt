use Rattle.std.proofs.Common.{◌≡◌, ◌++◌}
use Rattle.exec_doc.proofs.forms.graph.declare_nodes.Given as goal

-- the nodes so far, and then those that are left, are those before and all; the topics are as they were
abbrev pub invariant-loop-node : goal.invariant-loop-node
invariant-loop-node l = (l.graph.nodes ++ l.node-iterator.rest.items ≡ l.fn.graph.nodes ++ l.fn.nodes.items) × (l.graph.topics ≡ l.fn.graph.topics)
