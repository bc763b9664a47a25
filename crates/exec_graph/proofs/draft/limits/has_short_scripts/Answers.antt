use Rattle.std.proofs.Common.{◌∙◌, ap, length, nat_le}
use Rattle.std.specs.List.{list_all}
use Rattle.exec_msg.specs.declared.limits.TheConstants.{INSTRUCTIONS}
use Rattle.exec_graph.proofs.EntityOrder.{all_of_there}
use Rattle.exec_graph.proofs.draft.limits.has_short_scripts.Goals as goal

pub returns : goal.returns
returns c =
    c.are_short.ensures
    ∙ all_of_there (λ roled. nat_le (length roled.script) INSTRUCTIONS) c.scripts.result
    ∙ ap (list_all (λ roled. nat_le (length roled.script) INSTRUCTIONS)) c.scripts.ensures
