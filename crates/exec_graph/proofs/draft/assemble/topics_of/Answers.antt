use Rattle.std.proofs.Common.{◌++◌, map, sym, ap, ◌∙◌, append-nil, List, ℕ}
use Rattle.std.proofs.Math.ListN.{drop_of_length-le}
use Rattle.exec_plan.specs.inner.Entries.{entities_in as entries_of}
use Rattle.exec_plan.specs.Graph.{EntityData}
use Rattle.exec_plan.specs.Names.{are_distinct}
use Rattle.exec_graph.specs.Resolved.{resolved_topic}
use Rattle.exec_graph.proofs.Appended.{next_topic}
use Rattle.exec_graph.proofs.draft.assemble.topics_of.Goals as goal

pub loop-topic-init : goal.loop-topic-init
loop-topic-init c = ap (λ (es : List EntityData). es ++ map resolved_topic c.as_slice-topics.result.now) (ap entries_of c.new-entities.ensures.empty)

pub loop-topic-preserved : goal.loop-topic-preserved
loop-topic-preserved c =
    next_topic c.as_slice-topics.result.now c.loop-topic.topic-index c.topic-item.result (entries_of c.loop-topic.entities.entries) (entries_of c.append.new.entities.entries) c.as_str.result.now c.loop-topic-test.true c.topic-item.is c.as_str.ensures c.in_ok-append.ensures (ap are_distinct c.as_slice-topics.ensures ∙ c.requires) c.loop-topic.invariant

pub returns : goal.returns
returns c =
    sym (append-nil (entries_of c.loop-topic.entities.entries))
    ∙ ap (λ (ts : List (List ℕ)). entries_of c.loop-topic.entities.entries ++ map resolved_topic ts) (sym (drop_of_length-le c.as_slice-topics.result.now c.loop-topic-test.false))
    ∙ c.loop-topic.invariant
    ∙ ap (map resolved_topic) c.as_slice-topics.ensures
