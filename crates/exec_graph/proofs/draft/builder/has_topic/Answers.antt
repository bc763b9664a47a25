use Rattle.std.proofs.Common.{◌∙◌, ap, sym, bytes_eq}
use Rattle.std.specs.List.{list_any}
use Rattle.exec_plan.proofs.Positions.{found_any}
use Rattle.exec_graph.proofs.draft.builder.has_topic.Goals as goal

pub returns : goal.returns
returns c =
    c.is_among.ensures
    ∙ ap (list_any (λ topic. bytes_eq topic c.args.name.now)) c.as_slice.ensures
    ∙ sym (found_any (λ topic. bytes_eq topic c.args.name.now) 0 c.args.draft.now.topics)
