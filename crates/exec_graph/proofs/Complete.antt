-- A draft without a fault has a graph.
use Rattle.std.proofs.Common.{◌≡◌, true, false, ◌||◌, is_some, List, [], ◌∷◌, None, flat_map, refl, ap, sym, ◌∙◌}
use Rattle.std.specs.List.{list_all, list_any}
use Rattle.std.proofs.lemmas.Bool.{and_parts, or_parts, and_from}
use Rattle.std.proofs.lemmas.List.Folds.{list_any-append}
use Rattle.exec_graph.specs.declared.draft.GraphDraft.{GraphDraft}
use Rattle.exec_plan.specs.Entity.{refers, scripts_of, read_by}
use Rattle.exec_graph.specs.Faults.{is_resolved, has_faulty_script}
use Rattle.exec_graph.specs.Numbers.{NodeEntity, entities_of, named, group_named, scope_of}
use Rattle.exec_msg.specs.Options.{each}
use Rattle.exec_graph.specs.Refusals.{fault_in}
use Rattle.exec_graph.specs.Resolved.{resolved_script, resolved_entity, resolved_graph}
use Rattle.exec_graph.specs.Scripts.{is_reentrant, entity_faults}
use Rattle.exec_graph.proofs.EntityReading.{readable}
use Rattle.exec_graph.proofs.Faultless.{is_another, all_spelt}
use Rattle.exec_graph.proofs.Kept.{kept}
use Rattle.exec_plan.proofs.Reading.{goes_on, each_some}

-- ---- entities

is_entity : (source : GraphDraft) (placed : NodeEntity) → is_resolved source placed ≡ true → list_any is_another (entity_faults source placed) ≡ false → is_some (resolved_entity source placed) ≡ true
is_entity source placed resolved spelt =
    let grouped = is_some (group_named source placed.node placed.entity.group) in
    let referring = refers (λ to name. is_some (named source to name)) placed.entity.is in
    let scope = scope_of source placed.node in
    goes_on (group_named source placed.node placed.entity.group) _ (and_parts grouped referring resolved).0 (λ group.
    goes_on (read_by (named source) (resolved_script scope) placed.entity.is) _
    (readable (named source) (resolved_script scope) placed.entity.is (and_parts grouped referring resolved).1 (all_spelt scope (is_reentrant source placed) (scripts_of placed.entity.is) spelt))
    (λ is. refl))

are_entities : (source : GraphDraft) (placed : List NodeEntity) → list_all (is_resolved source) placed ≡ true → list_any is_another (flat_map (entity_faults source) placed) ≡ false → list_all (λ placed. is_some (resolved_entity source placed)) placed ≡ true
are_entities source [] resolved spelt = refl
are_entities source (placed ∷ others) resolved spelt =
    let here = list_any is_another (entity_faults source placed) in
    let behind = list_any is_another (flat_map (entity_faults source) others) in
    let split : (here || behind) ≡ false = sym (list_any-append is_another (entity_faults source placed) (flat_map (entity_faults source) others)) ∙ spelt in
    and_from (is_some (resolved_entity source placed)) (list_all (λ placed. is_some (resolved_entity source placed)) others)
    (is_entity source placed (and_parts (is_resolved source placed) (list_all (is_resolved source) others) resolved).0 (or_parts here behind split).0)
    (are_entities source others (and_parts (is_resolved source placed) (list_all (is_resolved source) others) resolved).1 (or_parts here behind split).1)

-- what is declared is there, where no script is faulty otherwise than by a variable
pub has_entities : (source : GraphDraft) → list_all (is_resolved source) (entities_of source) ≡ true → has_faulty_script source ≡ false → is_some (each (resolved_entity source) (entities_of source)) ≡ true
has_entities source resolved spelt = each_some (resolved_entity source) (entities_of source) (are_entities source (entities_of source) resolved spelt)

-- ---- the graph

pub has_graph : (source : GraphDraft) → fault_in source ≡ None → is_some (resolved_graph source) ≡ true
has_graph source faultless =
    let keeps = kept source faultless in
    goes_on (each (resolved_entity source) (entities_of source)) _ (has_entities source keeps.named.resolved (ap (list_any is_another) keeps.faultless)) (λ entities. refl)
