-- The graph of a draft without a fault is lawful.
use Rattle.std.proofs.Common.{◌≡◌, ℕ, ◌+◌, ◌<◌, ◌≤◌, true, not, length, map, sum_by, List, [], ◌∷◌, ◌++◌, None, Some, refl, sym, ap, ◌∙◌, subst, arith, length-append}
use Rattle.std.specs.List.{filter, list_all}
use Rattle.std.proofs.lemmas.Bool.{leb-true, and_parts}
use Rattle.std.proofs.lemmas.List.{length-map, map-append}
use Rattle.std.proofs.lemmas.List.Elements.{filter-append}
use Rattle.std.proofs.lemmas.Option.{same_Some}
use Rattle.exec_graph.specs.Resolved.{resolved_entity, resolved_topic, resolved_graph}
use Rattle.exec_graph.specs.declared.draft.GraphDraft.{GraphDraft}
use Rattle.exec_graph.specs.Numbers.{NodeEntity, entities_of, groups_of}
use Rattle.exec_msg.specs.Options.{each}
use Rattle.exec_graph.specs.Faults.{has_named_groups, drafted_names}
use Rattle.exec_plan.specs.Graph as graph
use Rattle.exec_plan.specs.Graph.{EntityData, GraphData, is_topic}
use Rattle.exec_graph.specs.Refusals.{fault_in}
use Rattle.exec_plan.specs.declared.entity.CallbackGroup.{CallbackGroup}
use Rattle.exec_plan.specs.Lawful.{IsLawful, IsLawfulNode, block_of, is_ascending_from}
use Rattle.exec_plan.specs.Names.{is_name, are_distinct}
use Rattle.exec_msg.specs.declared.limits.TheConstants.{NODES, NAMED_GROUPS, TOPICS, ENTITIES}
use Rattle.exec_graph.proofs.Blocks.{block_before, all_mapped, rank_at, entities_ascend, lower_start}
use Rattle.exec_graph.proofs.Entities.{entities_lawful}
use Rattle.exec_graph.proofs.Groups.{filter_same, filter_none, named_groups, groups_within, has_groups, one_default, names_are}
use Rattle.exec_graph.proofs.Kept.{IsKept, kept}
use Rattle.exec_graph.proofs.Resolving.{graph_of, AreEntities, built, no_topic, same_block}
use Rattle.exec_plan.proofs.Reading.{then_read, AreRead, are_read, as_many, seen_alike}

-- ---- names

topic_names : (topics : List (List ℕ)) → map (λ entity. entity.name) (map resolved_topic topics) ≡ topics
topic_names [] = refl
topic_names (name ∷ topics) = ap (λ (names : List (List ℕ)). name ∷ names) (topic_names topics)

pub names_kept : (source : GraphDraft) (entities : List EntityData) → AreEntities source entities → graph.names_of (graph_of source entities) ≡ drafted_names source
names_kept source entities reads =
    map-append (λ (entity : EntityData). entity.name) (map resolved_topic source.topics) entities
    ∙ ap (λ (names : List (List ℕ)). names ++ map (λ entity. entity.name) entities) (topic_names source.topics)
    ∙ ap (λ (names : List (List ℕ)). source.topics ++ names) (seen_alike (resolved_entity source) (λ placed. placed.entity.name) (λ entity. entity.name) (entities_of source) entities (λ placed entity read. (built source placed entity read).named_as) reads)

-- ---- how many

no_topics : (source : GraphDraft) (placed : List NodeEntity) (entities : List EntityData) → AreRead (resolved_entity source) placed entities → filter (λ entity. is_topic entity.is) entities ≡ []
no_topics source [] [] reads = refl
no_topics source [] (e ∷ entities) reads = absurd reads
no_topics source (p ∷ placed) [] reads = absurd reads
no_topics source (p ∷ placed) (e ∷ entities) reads =
    let fails = no_topic source p e (built source p e reads.0) in
    rw fails (no_topics source placed entities reads.1)

all_entities : (source : GraphDraft) (placed : List NodeEntity) (entities : List EntityData) → AreRead (resolved_entity source) placed entities → filter (λ entity. not (is_topic entity.is)) entities ≡ entities
all_entities source [] [] reads = refl
all_entities source [] (e ∷ entities) reads = absurd reads
all_entities source (p ∷ placed) [] reads = absurd reads
all_entities source (p ∷ placed) (e ∷ entities) reads =
    let fails = no_topic source p e (built source p e reads.0) in
    rw fails (ap (λ (es : List EntityData). e ∷ es) (all_entities source placed entities reads.1))

topics_counted : (source : GraphDraft) (entities : List EntityData) → AreEntities source entities → length (filter (λ entity. is_topic entity.is) (map resolved_topic source.topics ++ entities)) ≡ length source.topics
topics_counted source entities reads =
    ap (λ (es : List EntityData). length es) (filter-append (λ (entity : EntityData). is_topic entity.is) (map resolved_topic source.topics) entities)
    ∙ length-append (filter (λ entity. is_topic entity.is) (map resolved_topic source.topics)) (filter (λ entity. is_topic entity.is) entities)
    ∙ ap (λ (es : List EntityData). length es + length (filter (λ entity. is_topic entity.is) entities)) (filter_same (λ (entity : EntityData). is_topic entity.is) resolved_topic source.topics (λ name. refl))
    ∙ ap (λ (es : List EntityData). length (map resolved_topic source.topics) + length es) (no_topics source (entities_of source) entities reads)
    ∙ (let same = length-map source.topics resolved_topic in omega (arith, same))

entities_counted : (source : GraphDraft) (entities : List EntityData) → AreEntities source entities → length (filter (λ entity. not (is_topic entity.is)) (map resolved_topic source.topics ++ entities)) ≡ length (entities_of source)
entities_counted source entities reads =
    ap (λ (es : List EntityData). length es) (filter-append (λ (entity : EntityData). not (is_topic entity.is)) (map resolved_topic source.topics) entities)
    ∙ length-append (filter (λ entity. not (is_topic entity.is)) (map resolved_topic source.topics)) (filter (λ entity. not (is_topic entity.is)) entities)
    ∙ ap (λ (es : List EntityData). length es + length (filter (λ entity. not (is_topic entity.is)) entities)) (filter_none (λ (entity : EntityData). not (is_topic entity.is)) resolved_topic source.topics (λ name. refl))
    ∙ ap (λ (es : List EntityData). 0 + length es) (all_entities source (entities_of source) entities reads)
    ∙ (let same = as_many (resolved_entity source) (entities_of source) entities reads in omega (arith, same))

-- ---- nodes and blocks

node_lawful : (source : GraphDraft) (entities : List EntityData) (node : ℕ) → list_all has_named_groups source.nodes ≡ true → node < length source.nodes → IsLawfulNode (graph_of source entities) node
node_lawful source entities node named below =
    let has = has_groups has_named_groups node 0 source.nodes named (omega arith) (omega (arith, below)) in
    let default = one_default node (groups_of source) has.draft.groups has.groups in
    let names = names_are node (groups_of source) has.draft.groups has.groups in
    let texts = map (λ group. group.name) has.draft.groups in
    record {
      one_default = ap (λ (gs : List CallbackGroup). length gs) default;
      default_exclusive = ap (list_all (λ group. group.exclusive)) default;
      well_named = ap (list_all is_name) names ∙ (and_parts (list_all is_name texts) (are_distinct texts) has.passes).0;
      distinct = ap are_distinct names ∙ (and_parts (list_all is_name texts) (are_distinct texts) has.passes).1;
    }

topic_blocks : (topics : List (List ℕ)) → map (λ entity. block_of entity.is) (map resolved_topic topics) ≡ map (λ name. 0) topics
topic_blocks [] = refl
topic_blocks (name ∷ topics) = ap (λ (ns : List ℕ). 0 ∷ ns) (topic_blocks topics)

blocks_kept : (source : GraphDraft) (entities : List EntityData) → AreEntities source entities → is_ascending_from 0 (map (λ entity. block_of entity.is) (map resolved_topic source.topics ++ entities)) ≡ true
blocks_kept source entities reads =
    let blocks = map rank_at (entities_of source) in
    ap (is_ascending_from 0)
    (map-append (λ (entity : EntityData). block_of entity.is) (map resolved_topic source.topics) entities
    ∙ ap (λ (ns : List ℕ). ns ++ map (λ entity. block_of entity.is) entities) (topic_blocks source.topics)
    ∙ ap (λ (ns : List ℕ). map (λ name. 0) source.topics ++ ns) (seen_alike (resolved_entity source) rank_at (λ entity. block_of entity.is) (entities_of source) entities (λ placed entity read. same_block source placed entity (built source placed entity read)) reads))
    ∙ block_before 0 0 (map (λ name. 0) source.topics) blocks (omega arith) (all_mapped (λ name. 0) 0 source.topics (λ name. refl))
    (lower_start 0 1 blocks (omega arith) (entities_ascend source))

-- ---- the graph

-- a draft that keeps what the faults ask has a lawful graph
kept_lawful : (source : GraphDraft) (entities : List EntityData) → IsKept source → AreEntities source entities → IsLawful (graph_of source entities)
kept_lawful source entities keeps reads =
    let nodes = map (λ node. node.name) source.nodes in
    let many = length-map source.nodes (λ node. node.name) in
    let names = names_kept source entities reads in
    let few_nodes = leb-true (length source.nodes) NODES keeps.small.few_nodes in
    let few_groups = leb-true (sum_by (λ node. length node.groups) source.nodes) NAMED_GROUPS keeps.small.few_groups in
    let few_topics = leb-true (length source.topics) TOPICS keeps.small.few_topics in
    let few_entities = leb-true (length (entities_of source)) ENTITIES keeps.small.few_entities in
    record {
      few_nodes = subst (λ n. n ≤ NODES) (sym many) few_nodes;
      few_groups = subst (λ n. n ≤ NAMED_GROUPS) (sym (named_groups 0 source.nodes)) few_groups;
      few_topics = subst (λ n. n ≤ TOPICS) (sym (topics_counted source entities reads)) few_topics;
      few_entities = subst (λ n. n ≤ ENTITIES) (sym (entities_counted source entities reads)) few_entities;
      node_names = (and_parts (list_all is_name nodes) (are_distinct nodes) keeps.named.node_names).0;
      distinct_nodes = (and_parts (list_all is_name nodes) (are_distinct nodes) keeps.named.node_names).1;
      names = ap (list_all is_name) names ∙ (and_parts (list_all is_name (drafted_names source)) (are_distinct (drafted_names source)) keeps.named.names).0;
      distinct_names = ap are_distinct names ∙ (and_parts (list_all is_name (drafted_names source)) (are_distinct (drafted_names source)) keeps.named.names).1;
      groups = groups_within 0 source.nodes (length nodes) (omega (arith, many));
      nodes = λ node below. node_lawful source entities node keeps.named.group_names (omega (arith, below, many));
      blocks = blocks_kept source entities reads;
      entities = entities_lawful source entities reads keeps.small.within keeps.faultless;
    }

-- a draft without a fault has a lawful graph, if it has one
pub graph_lawful : (source : GraphDraft) (made : GraphData) → fault_in source ≡ None → resolved_graph source ≡ Some made → IsLawful made
graph_lawful source made faultless is =
    then_read _ (each (resolved_entity source) (entities_of source)) _ made is (λ entities read e.
    subst IsLawful (same_Some (graph_of source entities) made e)
    (kept_lawful source entities (kept source faultless) (are_read (resolved_entity source) (entities_of source) entities read)))
