use Rattle.std.proofs.Common.{◌∙◌, ◌&&◌, ap, sym, bytes_eq}
use Rattle.std.specs.List.{list_any}
use Rattle.exec_plan.specs.Entity.{is_of}
use Rattle.exec_plan.specs.declared.entity.EntityKind.TheVariants as kind
use Rattle.exec_graph.proofs.Declarations.{action_any}
use Rattle.exec_graph.proofs.draft.builder.has_action.Goals as goal

pub returns : goal.returns
returns c =
    c.have_server.ensures
    ∙ ap (list_any (λ node. list_any (λ entity. is_of kind.Server entity.is && bytes_eq entity.name c.args.name.now) node.entities)) c.as_slice.ensures
    ∙ sym (action_any c.args.draft.now c.args.name.now)
