use Rattle.std.proofs.Common.{◌≡◌, ◌++◌, map, take}
use Rattle.exec_graph.specs.Numbers.{named_group}
use Rattle.exec_graph.proofs.draft.groups.append_named.Given as goal

abbrev pub invariant-loop-draft : goal.invariant-loop-draft
invariant-loop-draft l = l.groups.items ≡ l.fn.groups.items ++ map (named_group l.node) (take l.draft-index l.drafts)
