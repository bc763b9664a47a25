use Rattle.std.proofs.Common.{◌≡◌, ◌++◌, map, drop, Some}
use Rattle.serde_json.specs.View.{view}
use Rattle.exec_msg.specs.Options.{◌>>=◌, each}
use Rattle.exec_doc.proofs.forms.fields.each.Given as goal

-- what was read, and then what is left, is what all say
abbrev pub invariant-loop-value : goal.invariant-loop-value
invariant-loop-value g l =
    (each (g.T.Form.form) (map view (drop l.value-index l.values)) >>= (λ rest. Some (l.found.items ++ rest)))
    ≡ each (g.T.Form.form) (map view l.values)
