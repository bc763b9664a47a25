use Rattle.std.proofs.Common.{◌≡◌, map, drop}
use Rattle.exec_graph.specs.inner.Directory.{names_from}
use Rattle.exec_graph.proofs.draft.directory.add_topics.Given as goal

-- what is added so far, and then what is left, is all
abbrev pub invariant-loop-topic : goal.invariant-loop-topic
invariant-loop-topic l = names_from l.names (map (λ topic. topic) (drop l.topic-index l.topics)) ≡ names_from l.fn.names (map (λ topic. topic) l.topics)
