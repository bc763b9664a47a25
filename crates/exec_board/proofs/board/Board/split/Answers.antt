use Rattle.std.proofs.Common.{◌≡◌, ◌+◌, ◌≤◌, [], sym, ap, subst, ◌∙◌}
use Rattle.exec_board.specs.Board.{PassView}
use Rattle.exec_board.proofs.Shares.{splits}
use Rattle.exec_board.proofs.board.Board.split.Goals as goal

pub split_seat-other-requires : goal.split_seat-other-requires
split_seat-other-requires c =
    let long : c.pass.inside.seat.me.0.start + 2 ≤ c.pass.inside.seat.me.0.stop = subst (λ (pass : PassView). pass.view.start + 2 ≤ pass.view.stop) (sym c.pass.view_is) c.requires.share in
    let free : c.pass.inside.seat.me.0.holds ≡ [] = subst (λ (pass : PassView). pass.view.holds ≡ []) (sym c.pass.view_is) c.requires.holds_none in
    (ap (λ x. x.board) c.pass.view_is ∙ c.requires.board ∙ sym c.self.view_is, c.self.invariant.1, splits c.pass.inside.seat.id c.pass.inside.seat.me.0 long free)
