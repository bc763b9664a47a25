use Rattle.std.proofs.Common.{◌≡◌, [], sym, ap, subst, ◌∙◌}
use Rattle.atomic_table.specs.Seated.{TableId}
use Rattle.exec_board.specs.Board.{IsSeated, PassView, held_slots}
use Rattle.exec_board.proofs.Seating.{both_seated}
use Rattle.exec_board.proofs.Shares.{joins}
use Rattle.exec_board.proofs.board.Board.join.Goals as goal

pub join_seat-requires : goal.join_seat-requires
join_seat-requires c =
    let free : c.back.inside.seat.me.0.holds ≡ [] = subst (λ (pass : PassView). pass.view.holds ≡ []) (sym c.back.view_is) c.requires.holds_none.1 in
    let neighbours : c.back.inside.seat.me.0.start ≡ c.front.inside.seat.me.0.stop = subst (λ (x : PassView × PassView). x.1.view.start ≡ x.0.view.stop) (λ i. (sym c.front.view_is i, sym c.back.view_is i)) c.requires.neighbours in (
      ap (λ x. x.board) c.front.view_is ∙ c.requires.board.0 ∙ sym c.self.view_is,
      ap (λ x. x.board) c.back.view_is ∙ c.requires.board.1 ∙ sym c.self.view_is,
      c.back.invariant.slots_are ∙ ap held_slots free,
      c.self.invariant.1,
      joins c.front.inside.seat.id c.front.inside.seat.me.0 c.back.inside.seat.id c.back.inside.seat.me.0 c.front.invariant.some_share c.back.invariant.some_share neighbours free,
    )

pub invariant_of-result : goal.invariant_of-result
invariant_of-result c =
    let neighbours : c.back.inside.seat.me.0.start ≡ c.front.inside.seat.me.0.stop = subst (λ (x : PassView × PassView). x.1.view.start ≡ x.0.view.stop) (λ i. (sym c.front.view_is i, sym c.back.view_is i)) c.requires.neighbours in
    let table : c.back.inside.seat.table_id ≡ c.front.inside.seat.table_id = ap (λ x. x.board) c.back.view_is ∙ c.requires.board.1 ∙ sym c.requires.board.0 ∙ sym (ap (λ x. x.board) c.front.view_is) in
    both_seated c.front.inside.seat.table_id c.join_seat.new.seat.table_id c.front.inside.seat.me c.back.inside.seat.me c.join_seat.new.seat.me c.front.inside.start c.front.inside.stop c.back.inside.start c.back.inside.stop c.join_seat.ensures.0 neighbours c.front.invariant
    (subst (λ (z : TableId). IsSeated z c.back.inside.seat.me.0 c.back.inside.seat.me.1 c.back.inside.start c.back.inside.stop) table c.back.invariant) c.join_seat.ensures.2
