use Rattle.std.proofs.Common.{◌≡◌, ◌++◌, map, drop}
use Rattle.exec_plan.specs.inner.Entries.{entities_in as entries_of}
use Rattle.exec_graph.specs.Resolved.{resolved_topic}
use Rattle.exec_graph.proofs.draft.assemble.topics_of.Given as goal

-- the topics so far, and then those that are left, are all
abbrev pub invariant-loop-topic : goal.invariant-loop-topic
invariant-loop-topic l = entries_of l.entities.entries ++ map resolved_topic (drop l.topic-index l.topics) ≡ map resolved_topic l.topics
