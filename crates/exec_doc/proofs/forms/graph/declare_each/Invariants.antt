use Rattle.std.proofs.Common.{◌≡◌, ◌++◌, map, Some}
use Rattle.serde_json.specs.View.{view}
use Rattle.exec_msg.specs.Options.{◌>>=◌, each}
use Rattle.exec_doc.specs.Forms.{text}
use Rattle.exec_doc.proofs.forms.graph.declare_each.Given as goal

-- the topics so far, and then those that are left, are those before and all; the nodes are as they were
abbrev pub invariant-loop-name : goal.invariant-loop-name
invariant-loop-name l =
    ((each text (map view l.name-iterator.rest.items) >>= (λ rest. Some (l.graph.topics ++ rest)))
    ≡ (each text (map view l.fn.names.items) >>= (λ rest. Some (l.fn.graph.topics ++ rest))))
    × (l.graph.nodes ≡ l.fn.graph.nodes)
