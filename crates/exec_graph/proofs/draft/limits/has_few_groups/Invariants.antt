use Rattle.std.proofs.Common.{◌≡◌, length, nat_le, drop}
use Rattle.std.specs.List.{sum_by}
use Rattle.exec_msg.specs.declared.limits.TheConstants.{NAMED_GROUPS}
use Rattle.exec_graph.proofs.draft.limits.has_few_groups.Given as goal

-- all groups fit where those of the nodes that are left fit into the room that is left
abbrev pub invariant-loop-node : goal.invariant-loop-node
invariant-loop-node l = nat_le (sum_by (λ node. length node.groups) (drop l.node-index l.nodes)) l.room ≡ nat_le (sum_by (λ node. length node.groups) l.nodes) NAMED_GROUPS
