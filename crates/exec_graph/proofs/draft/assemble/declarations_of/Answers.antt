use Rattle.std.proofs.Common.{List, map, drop, ap, ◌∙◌, ◌+◌}
use Rattle.std.proofs.Math.ListN.{drop_of_length-le}
use Rattle.exec_graph.specs.inner.Directory.{Linked}
use Rattle.exec_plan.specs.inner.Entries.{entities_in as entries_of}
use Rattle.exec_graph.specs.Numbers.{entities_of}
use Rattle.exec_graph.proofs.Appended.{front_distinct, name_of, starts, next_stands, none_stands, all_stand}
use Rattle.exec_graph.proofs.Assembled.{mapped_is, mapped_none}
use Rattle.exec_graph.proofs.EntityResolving.{is_declared_at}
use Rattle.exec_plan.proofs.Reading.{nothing_else}
use Rattle.exec_graph.proofs.NameLists.{from_place}
use Rattle.exec_graph.proofs.draft.assemble.declarations_of.Goals as goal

pub topics_of-requires : goal.topics_of-requires
topics_of-requires c = front_distinct c.args.draft.now.topics (map name_of (entities_of c.args.draft.now)) c.requires.distinct

pub loop-linked-init : goal.loop-linked-init
loop-linked-init c =
    starts c.args.draft.now (map (λ linked. linked.placed) c.args.links.now) (entries_of c.in_ok-entities.entities.entries) c.requires.entities c.in_ok-entities.ensures

pub loop-linked-preserved : goal.loop-linked-preserved
loop-linked-preserved c =
    next_stands c.args.draft.now (map (λ linked. linked.placed) (drop c.loop-linked.linked-index c.args.links.now)) (map (λ linked. linked.placed) (drop (c.loop-linked.linked-index + 1) c.args.links.now)) c.linked-item.result.placed
    (entries_of c.loop-linked.entities.entries) (entries_of c.append.new.entities.entries) c.as_str.result.now c.in-Some.is'
    (ap (λ (links : List Linked). map (λ linked. linked.placed) links) (from_place c.args.links.now c.loop-linked.linked-index c.linked-item.result c.loop-linked-test.true c.linked-item.is))
    (c.as_str.ensures ∙ ap (λ (linked : Linked). linked.placed.entity.name) c.linked.view_is) c.requires.distinct (mapped_is _ _ _ _ (is_declared_at c.args.directory.now c.args.links.now c.loop-linked.linked-index c.linked-item.result c.requires.links c.loop-linked-test.true c.linked-item.is c.args.draft.now c.requires.distinct c.requires.directory c.in_ok-is.field-0 c.in_ok-is.ensures) c.in-Some.is) c.in_ok-append.ensures c.loop-linked.invariant

pub returns-in_default : goal.returns-in_default
returns-in_default c =
    none_stands c.args.draft.now (map (λ linked. linked.placed) (drop c.loop-linked.linked-index c.args.links.now)) (map (λ linked. linked.placed) (drop (c.loop-linked.linked-index + 1) c.args.links.now)) c.linked-item.result.placed
    (entries_of c.loop-linked.entities.entries)
    (ap (λ (links : List Linked). map (λ linked. linked.placed) links) (from_place c.args.links.now c.loop-linked.linked-index c.linked-item.result c.loop-linked-test.true c.linked-item.is))
    (mapped_none _ _ _ (is_declared_at c.args.directory.now c.args.links.now c.loop-linked.linked-index c.linked-item.result c.requires.links c.loop-linked-test.true c.linked-item.is c.args.draft.now c.requires.distinct c.requires.directory c.in_ok-is.field-0 c.in_ok-is.ensures) (nothing_else c.in_ok-is.field-0 c.in_default.not-Some)) c.loop-linked.invariant

pub returns : goal.returns
returns c =
    all_stand c.args.draft.now (map (λ linked. linked.placed) (drop c.loop-linked.linked-index c.args.links.now)) (entries_of c.loop-linked.entities.entries)
    (ap (λ (links : List Linked). map (λ linked. linked.placed) links) (drop_of_length-le c.args.links.now c.loop-linked-test.false)) c.loop-linked.invariant
