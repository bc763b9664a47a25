use Rattle.std.proofs.Common.{◌∙◌, ap, is_some, bytes_eq}
use Rattle.exec_plan.proofs.Positions.{found_any}
use Rattle.exec_graph.proofs.draft.texts.TextSet.contains.Goals as goal

pub returns : goal.returns
returns c = c.is_some.ensures ∙ ap is_some c.position.ensures.place ∙ found_any (λ other. bytes_eq other c.args.text.now) 0 c.args.self.now
