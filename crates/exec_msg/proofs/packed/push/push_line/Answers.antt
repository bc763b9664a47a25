use Rattle.std.proofs.Common.{◌≡◌, ℕ, sym, subst}
use Rattle.exec_msg.proofs.Cells.{line_pushed}
use Rattle.exec_msg.specs.inner.Packed.{a_line, said_by}
use Rattle.exec_msg.proofs.packed.push.push_line.Goals as goal

pub returns-clause-pushed : goal.returns-clause-pushed
returns-clause-pushed c is =
    let says = subst (λ (id : ℕ). said_by c.in-Some-form_of.cell id ≡ a_line c.args.line.now id) (sym c.tell.ensures.id) c.in-Some-form_of.ensures in
    line_pushed c.args.cells.now.items c.tell.new.cells.items c.push_reserved-2.new.self.items c.args.told.now c.tell.new.told c.tell.new.told c.args.line.now c.in-Some-form_of.cell
    c.tell.ensures.told says c.push_reserved-2.ensures.items
