use Rattle.std.proofs.Common.{◌∙◌, ap, sym}
use Rattle.exec_graph.specs.inner.Directory.{names_from}
use Rattle.exec_graph.proofs.NameLists.{next_name, no_name, as_they_are}
use Rattle.exec_graph.proofs.draft.directory.add_topics.Goals as goal

pub loop-topic-preserved : goal.loop-topic-preserved
loop-topic-preserved c =
    next_name (λ topic. topic) c.as_slice-topics.result.now c.loop-topic.topic-index c.topic-item.result c.loop-topic.names c.loop-topic-test.true c.topic-item.is
    c.in_ok-add_name.field-0 c.as_str.result.now c.add_name.new.names c.if-not-branch.false c.as_str.ensures c.in_ok-add_name.ensures.added c.in_ok-add_name.ensures.names
    ∙ c.loop-topic.invariant

pub returns-then-not-branch : goal.returns-then-not-branch
returns-then-not-branch c =
    ap (names_from c.args.names.now) (sym c.as_slice-topics.ensures)
    ∙ sym (ap (names_from c.args.names.now) (as_they_are c.as_slice-topics.result.now))
    ∙ sym c.loop-topic.invariant
    ∙ no_name (λ topic. topic) c.as_slice-topics.result.now c.loop-topic.topic-index c.topic-item.result c.loop-topic.names c.loop-topic-test.true c.topic-item.is c.in_ok-add_name.field-0 c.as_str.result.now c.if-not-branch.true c.as_str.ensures c.in_ok-add_name.ensures.added
