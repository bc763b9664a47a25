use Rattle.std.proofs.Common.{◌≡◌, ◌++◌, drop}
use Rattle.std.specs.List.{filter}
use Rattle.exec_plan.specs.Entity.{is_of}
use Rattle.exec_graph.proofs.draft.numbers.append_kind.Given as goal

-- the entities so far, and then those of what is left, are those before and those of all
abbrev pub invariant-loop-placed : goal.invariant-loop-placed
invariant-loop-placed l =
    l.entities.items ++ filter (λ placed. is_of l.kind placed.entity.is) (drop l.placed-index l.declared)
    ≡ l.fn.entities.items ++ filter (λ placed. is_of l.kind placed.entity.is) l.declared
