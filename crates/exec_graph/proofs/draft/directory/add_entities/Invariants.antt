use Rattle.std.proofs.Common.{◌≡◌, map, drop}
use Rattle.exec_graph.specs.inner.Directory.{names_from}
use Rattle.exec_graph.proofs.draft.directory.add_entities.Given as goal

-- what is added so far, and then what is left, is all
abbrev pub invariant-loop-placed : goal.invariant-loop-placed
invariant-loop-placed l = names_from l.names (map (λ placed. placed.entity.name) (drop l.placed-index l.entities)) ≡ names_from l.fn.names (map (λ placed. placed.entity.name) l.entities)
