-- How many a lawful graph has of what, and which of its numbers stand for something.
use Rattle.std.proofs.Common.{◌≡◌, ℕ, ◌<◌, ◌≤◌, not, length, Some, slice_get, refl, arith}
use Rattle.std.proofs.lemmas.List.Filters.{length-filter_both}
use Rattle.std.proofs.lemmas.Option.{slice_get_within}
use Rattle.exec_plan.specs.Graph.{EntityData, GraphData, is_topic}
use Rattle.exec_plan.specs.Lawful.{IsLawful}

-- a lawful graph has at most 768 topics and entities
pub few : (graph : GraphData) → IsLawful graph → length graph.entities ≤ 768
few graph lawful =
    let both = length-filter_both (λ (entity : EntityData). is_topic entity.is) (λ entity. not (is_topic entity.is)) (λ entity. refl) graph.entities in
    omega (arith, both, lawful.few_topics, lawful.few_entities)

-- so each of their numbers has 16 bits
pub number_below : (graph : GraphData) (number : ℕ) (entity : EntityData) → IsLawful graph → slice_get graph.entities number ≡ Some entity → number < 65536
number_below graph number entity lawful there =
    let within = slice_get_within graph.entities number entity there in
    let most = few graph lawful in
    omega (arith, within, most)
