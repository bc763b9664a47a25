use Rattle.std.proofs.Common.{◌≡◌, ◌++◌, drop}
use Rattle.std.specs.Bool.{then_some}
use Rattle.std.specs.List.{list_all}
use Rattle.exec_graph.specs.inner.Directory.{node_groups_from}
use Rattle.exec_graph.specs.Faults.{has_named_groups}
use Rattle.exec_graph.proofs.draft.directory.node_groups.Given as goal

-- the groups so far, and then those of what is left, are all
abbrev pub invariant-loop-node : goal.invariant-loop-node
invariant-loop-node l =
    then_some (list_all has_named_groups (drop l.node-index l.nodes)) (l.groups.items ++ node_groups_from l.first (drop l.node-index l.nodes))
    ≡ then_some (list_all has_named_groups l.nodes) (node_groups_from 0 l.nodes)
