use Rattle.std.proofs.Common.{◌≡◌, ◌≤◌, length, not, refl, sym, ap, subst, ◌∙◌, arith}
use Rattle.std.proofs.lemmas.List.Filters.{length-filter_both}
use Rattle.exec_plan.specs.Graph.{GraphData, is_topic}
use Rattle.std.proofs.lemmas.List.{length-map}
use Rattle.exec_plan.specs.inner.Entries.{entry_data}
use Rattle.exec_plan.specs.Lawful.{IsLawful}
use Rattle.exec_plan.proofs.graph.Graph.len.Goals as goal

-- at most 256 topics and 512 entities
few : (graph : GraphData) → IsLawful graph → length graph.entities ≤ 768
few graph lawful =
    omega (arith, lawful.few_topics, lawful.few_entities, length-filter_both (λ entity. is_topic entity.is) (λ entity. not (is_topic entity.is)) (λ entity. refl) graph.entities)

pub returns-clause-bound : goal.returns-clause-bound
returns-clause-bound c =
    let lawful : IsLawful c.args.self.now = subst IsLawful c.self.view_is c.self.invariant.0 in
    let number : length c.self.inside.entities.entries ≡ length c.args.self.now.entities = sym (length-map c.self.inside.entities.entries entry_data) ∙ ap (λ (g : GraphData). length g.entities) c.self.view_is in
    omega (arith, few c.args.self.now lawful, number)
