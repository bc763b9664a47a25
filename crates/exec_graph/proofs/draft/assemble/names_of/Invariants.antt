use Rattle.std.proofs.Common.{◌≡◌, ◌++◌, map, take, string_bytes}
use Rattle.exec_graph.proofs.draft.assemble.names_of.Given as goal

abbrev pub invariant-loop-topic : goal.invariant-loop-topic
invariant-loop-topic l = map string_bytes l.names.items ≡ take l.topic-index l.topics

abbrev pub invariant-loop-placed : goal.invariant-loop-placed
invariant-loop-placed l = map string_bytes l.names.items ≡ l.draft.topics ++ map (λ placed. placed.entity.name) (take l.placed-index l.entities)
