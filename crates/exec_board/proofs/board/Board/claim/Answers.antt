use Rattle.std.proofs.Common.{◌≡◌, ◌<◌, ℕ, length, sym, ap, subst, ◌∙◌}
use Rattle.atomic_table.specs.Seated.{TableId}
use Rattle.exec_board.proofs.Claims.{claims}
use Rattle.exec_board.proofs.Handing.{taken_lane}
use Rattle.exec_board.proofs.board.Board.claim.Goals as goal

pub compare_exchange-word-requires : goal.compare_exchange-word-requires
compare_exchange-word-requires c =
    let table : c.pass.inside.seat.table_id ≡ c.self.inside.table.shared.table_id = ap (λ x. x.board) c.pass.view_is ∙ c.requires.board ∙ sym c.self.view_is in
    let lane : c.args.lane < c.self.inside.table.shared.table_id.words = subst (λ (z : TableId). c.args.lane < z.words) (sym c.self.view_is) c.requires.lane in
    let as_many : length c.pass.inside.seat.me.0.opening ≡ c.self.inside.table.shared.table_id.words = c.pass.invariant.as_many ∙ ap (λ (z : TableId). z.words) table in (
      table,
      lane,
      claims c.self.inside.table.shared.table_id.slots c.pass.inside.seat.id c.pass.inside.seat.me c.args.lane c.pass.invariant.some_share (subst (λ (n : ℕ). c.args.lane < n) (sym as_many) lane),
    )

pub exchange-requires : goal.exchange-requires
exchange-requires c =
    let table : c.pass.inside.seat.table_id ≡ c.self.inside.table.shared.table_id = ap (λ x. x.board) c.pass.view_is ∙ c.requires.board ∙ sym c.self.view_is in
    (c.compare_exchange-word.ensures.0 ∙ table, taken_lane c.args.lane c.pass.inside.seat.me c.compare_exchange-word.new.seat.me (c.compare_exchange-word.ensures.2.0 c.if-word-ne-OPEN.false))
