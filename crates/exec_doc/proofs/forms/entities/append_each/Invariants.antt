use Rattle.std.proofs.Common.{◌≡◌, ◌++◌, map, drop, Some}
use Rattle.serde_json.specs.View.{view}
use Rattle.exec_msg.specs.Options.{◌>>=◌, each}
use Rattle.exec_doc.specs.Forms.{entity, form_of}
use Rattle.exec_doc.proofs.forms.entities.append_each.Given as goal

-- the entities so far, and then those of what is left, are those before and those of all
abbrev pub invariant-loop-value : goal.invariant-loop-value
invariant-loop-value l =
    (each (entity (form_of l.kind)) (map view (drop l.value-index l.values)) >>= (λ rest. Some (l.entities.items ++ rest)))
    ≡ (each (entity (form_of l.kind)) (map view l.values) >>= (λ rest. Some (l.fn.entities.items ++ rest)))
