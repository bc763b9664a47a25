use Rattle.std.proofs.Common.{◌≡◌, ◌++◌, drop, flat_map}
use Rattle.std.specs.List.{filter}
use Rattle.exec_plan.specs.Entity.{is_of}
use Rattle.exec_graph.specs.Numbers.{entities_from, entities_of}
use Rattle.exec_graph.proofs.draft.numbers.entities_of.Given as goal

-- the entities so far, and then those of the kinds that are left, are those of all kinds
abbrev pub invariant-loop-kind : goal.invariant-loop-kind
invariant-loop-kind l =
    l.entities.items ++ flat_map (λ kind. filter (λ placed. is_of kind placed.entity.is) (entities_from 0 l.draft.nodes)) (drop l.kind-index l.kind-items)
    ≡ entities_of l.draft
