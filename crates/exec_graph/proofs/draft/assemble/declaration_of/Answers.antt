use Rattle.std.proofs.Common.{None, Some}
use Rattle.exec_graph.specs.inner.Directory.{Linked}
use Rattle.exec_graph.proofs.EntityResolving.{said_inside}
use Rattle.exec_graph.proofs.draft.assemble.declaration_of.Goals as goal

pub returns-in-Ok : goal.returns-in-Ok
returns-in-Ok c =
    let inside : Linked = record { placed = record { node = c.linked.inside.node; entity = c.linked.inside.entity.now }; group = c.linked.inside.group; reference = c.linked.inside.reference } in
    said_inside c.args.directory.now inside c.args.linked.now c.linked.view_is c.of-scope.result c.of-scope.ensures c.entity_no-reference.result c.entity_no-reference.ensures (Some c.in-Ok.is') c.in-Ok.ensures

pub returns-in-Err-Wrong : goal.returns-in-Err-Wrong
returns-in-Err-Wrong c =
    let inside : Linked = record { placed = record { node = c.linked.inside.node; entity = c.linked.inside.entity.now }; group = c.linked.inside.group; reference = c.linked.inside.reference } in
    said_inside c.args.directory.now inside c.args.linked.now c.linked.view_is c.of-scope.result c.of-scope.ensures c.entity_no-reference.result c.entity_no-reference.ensures None (rw c.in-Err-Wrong.field-0-is at c.in-Err-Wrong.ensures)
