use Rattle.std.proofs.Common.{◌∙◌, ap, map, List}
use Rattle.std.specs.List.{list_all}
use Rattle.exec_graph.specs.Faults.{has_named_groups}
use Rattle.exec_graph.specs.Numbers.{NodeEntity, entities_of}
use Rattle.exec_graph.proofs.Directories.{topic_refused, entity_refused, names_added, made_of}
use Rattle.exec_graph.proofs.draft.directory.Directory.of.Goals as goal

pub returns-then-not-branch : goal.returns-then-not-branch
returns-then-not-branch c =
    topic_refused c.args.draft.now.topics (map (λ placed. placed.entity.name) (entities_of c.args.draft.now)) c.new-names.result c.add_topics.new.names c.in_ok-add_topics.field-0
    c.new-names.ensures c.in_ok-add_topics.ensures (list_all has_named_groups c.args.draft.now.nodes) _ c.if-not-branch.true

pub returns-then-not-branch-2 : goal.returns-then-not-branch-2
returns-then-not-branch-2 c =
    entity_refused c.args.draft.now.topics (map (λ placed. placed.entity.name) (entities_of c.args.draft.now)) c.new-names.result c.add_topics.new.names c.in_ok-add_topics.field-0
    c.new-names.ensures c.in_ok-add_topics.ensures
    _ c.add_entities.new.names c.in_ok-add_entities.field-0 c.if-not-branch.false
    (ap (λ (placed : List NodeEntity). map (λ placed. placed.entity.name) placed) (c.deref.ensures.value ∙ c.in_ok-entities.ensures)) c.in_ok-add_entities.ensures
    (list_all has_named_groups c.args.draft.now.nodes) _ c.if-not-branch-2.true

pub returns : goal.returns
returns c =
    made_of _ _ _ _ _ _ _ _ _ _
    c.len.ensures
    (names_added c.args.draft.now.topics (map (λ placed. placed.entity.name) (entities_of c.args.draft.now)) c.new-names.result c.add_topics.new.names c.in_ok-add_topics.field-0
    c.new-names.ensures c.in_ok-add_topics.ensures
    _ c.add_entities.new.names c.in_ok-add_entities.field-0 c.if-not-branch.false
    (ap (λ (placed : List NodeEntity). map (λ placed. placed.entity.name) placed) (c.deref.ensures.value ∙ c.in_ok-entities.ensures)) c.in_ok-add_entities.ensures
    c.if-not-branch-2.false)
    (rw c.in-Some.is at c.in_ok-groups.ensures)
    (c.in_ok-entities.ensures)
