use Rattle.std.proofs.Common.{◌≡◌, ◌++◌, map}
use Rattle.serde_json.specs.View.{view}
use Rattle.exec_doc.proofs.upgrading.keeping.changed_items.Given as goal

-- the values so far, and then what becomes of those that are left, are what becomes of all
abbrev pub invariant-loop-value : goal.invariant-loop-value
invariant-loop-value g l =
    map view l.made.items ++ map (g.C.Change.becomes l.by) (map view l.value-iterator.rest.items)
    ≡ map (g.C.Change.becomes l.by) (map view l.fn.values.items)
