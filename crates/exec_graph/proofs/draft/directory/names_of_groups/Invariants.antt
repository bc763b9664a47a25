use Rattle.std.proofs.Common.{◌≡◌, map, drop, []}
use Rattle.exec_graph.specs.inner.Directory.{names_from}
use Rattle.exec_graph.proofs.draft.directory.names_of_groups.Given as goal

-- what is added so far, and then what is left, is all
abbrev pub invariant-loop-group : goal.invariant-loop-group
invariant-loop-group l = names_from l.names (map (λ group. group.name) (drop l.group-index l.groups)) ≡ names_from [] (map (λ group. group.name) l.groups)
