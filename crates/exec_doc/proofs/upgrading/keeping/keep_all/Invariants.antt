use Rattle.std.proofs.Common.{map, drop}
use Rattle.serde_json.specs.View.{view, members_view}
use Rattle.exec_doc.specs.Upgrade.{unchanged}
use Rattle.exec_doc.specs.inner.Gathering.{with_fields}
use Rattle.exec_doc.proofs.Gathered.{IsOnTheWay}
use Rattle.exec_doc.proofs.upgrading.keeping.keep_all.Given as goal

-- what is kept, with the fields that are left, is what was kept before, with all of them; no name that is left is there twice
abbrev pub invariant-loop-name : goal.invariant-loop-name
invariant-loop-name l =
    IsOnTheWay (members_view l.kept.entries) (view l.from) (drop l.name-index l.names)
    (with_fields (unchanged (map (λ name. name.now) l.fn.names)) (view l.fn.from) (members_view l.fn.kept.entries))
