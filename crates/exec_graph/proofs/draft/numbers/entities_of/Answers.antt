use Rattle.std.proofs.Common.{◌∙◌, sym}
use Rattle.exec_graph.proofs.EntityOrder.{next_gathered}
use Rattle.exec_graph.proofs.draft.numbers.entities_of.Goals as goal

pub loop-kind-preserved : goal.loop-kind-preserved
loop-kind-preserved c =
    rw (c.in_ok-append_kind.ensures, c.deref.ensures.value, c.in_ok-declared.ensures)
    (sym (next_gathered _ _ c.loop-kind.kind-index _ c.loop-kind.entities.items c.loop-kind-test.true) ∙ c.loop-kind.invariant)
