use Rattle.std.proofs.Common.{length, sym, subst, ap, ◌∙◌}
use Rattle.exec_entity.proofs.FoundByNumber.{finds_behind}
use Rattle.exec_entity.specs.inner.Numbered.{FindsByNumber}
use Rattle.exec_msg.specs.Places.{change_at, first_noted}
use Rattle.exec_entity.proofs.by_number.ByNumber.declare.Goals as goal

pub invariant_of-self-2 : goal.invariant_of-self-2
invariant_of-self-2 g c =
    subst (FindsByNumber g.E.Numbered.number_of c.note.new.self) (sym c.in_ok-push.ensures.items)
    (finds_behind g.E.Numbered.number_of c.self.inside.places c.reserve.new.self c.note.new.self c.self.inside.entries.items c.args.entry c.number-2.inside.0 c.self.invariant c.in_ok-reserve.ensures.same c.in_ok-reserve.ensures.room
    (c.number-2.view_is ∙ c.number.ensures)
    (c.note.ensures ∙ ap (λ n. change_at c.number-2.inside.0 (first_noted n) c.reserve.new.self) (ap length c.as_slice-place.ensures.value)))
