use Rattle.std.proofs.Common.{◌≡◌, [], sym, subst}
use Rattle.std.specs.Slots.{slots_items}
use Rattle.exec_board.specs.Board.{AreClosed, PassView}
use Rattle.exec_board.specs.Seats.{IsLast}
use Rattle.exec_board.proofs.Closes.{are_boxes, are_closed, as_many_slots, finished, has_box}
use Rattle.exec_board.proofs.board.Board.close.Goals as goal

pub take_boxes-requires-clause-slots : goal.take_boxes-requires-clause-slots
take_boxes-requires-clause-slots c =
    let last : IsLast c.pass.inside.seat.me.0 = subst (λ (pass : PassView). IsLast pass.view) (sym c.pass.view_is) c.requires.last in
    let free : c.pass.inside.seat.me.0.holds ≡ [] = subst (λ (pass : PassView). pass.view.holds ≡ []) (sym c.pass.view_is) c.requires.holds_none in (
      c.close_with.ensures.values.1,
      are_boxes (slots_items c.close_with.result.slots)
          (λ number within.
          let there = has_box (slots_items c.close_with.result.words) (slots_items c.close_with.result.slots) c.pass.inside.seat.id c.pass.inside.seat.me.0 last c.pass.invariant.some_share free c.close_with.ensures.values.2 number within in
          (there.0, there.1)),
    )

pub returns-clause-closed : goal.returns-clause-closed
returns-clause-closed c =
    let last : IsLast c.pass.inside.seat.me.0 = subst (λ (pass : PassView). IsLast pass.view) (sym c.pass.view_is) c.requires.last in
    let free : c.pass.inside.seat.me.0.holds ≡ [] = subst (λ (pass : PassView). pass.view.holds ≡ []) (sym c.pass.view_is) c.requires.holds_none in
    subst (λ (pass : PassView). AreClosed pass.view c.take_boxes.result.items) c.pass.view_is
    (are_closed c.pass.inside.seat.me.0 c.take_boxes.result.items (slots_items c.close_with.result.slots) c.take_boxes.ensures
    (as_many_slots (slots_items c.close_with.result.words) (slots_items c.close_with.result.slots) c.pass.inside.seat.id c.pass.inside.seat.me.0 last c.pass.invariant.some_share free c.close_with.ensures.values.2)
    (has_box (slots_items c.close_with.result.words) (slots_items c.close_with.result.slots) c.pass.inside.seat.id c.pass.inside.seat.me.0 last c.pass.invariant.some_share free c.close_with.ensures.values.2))

pub returns-clause-finished : goal.returns-clause-finished
returns-clause-finished c = λ seen. finished c.args.pass.view c.take_boxes.result.items seen (returns-clause-closed c)
