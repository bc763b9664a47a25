use Rattle.std.proofs.Common.{◌≡◌, ◌++◌, drop}
use Rattle.exec_graph.specs.Numbers.{groups_from}
use Rattle.exec_graph.proofs.draft.groups.groups_of.Given as goal

-- the groups so far, and then those of the nodes that are left, are those of all
abbrev pub invariant-loop-number : goal.invariant-loop-number
invariant-loop-number l = l.groups.items ++ groups_from l.number (drop l.number l.nodes) ≡ groups_from 0 l.nodes
