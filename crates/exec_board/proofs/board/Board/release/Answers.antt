use Rattle.std.proofs.Common.{◌≡◌, ◌<◌, sym, ap, subst, ◌∙◌}
use Rattle.atomic_table.specs.Seated.{TableId}
use Rattle.exec_board.specs.Board.{ClaimView, IsSeated, MayRelease, PassView, held_slots}
use Rattle.exec_board.specs.Seats.{without}
use Rattle.exec_board.proofs.Holding.{filled_is, fillable, home_is, seated_on}
use Rattle.exec_board.proofs.Releases.{releases}
use Rattle.exec_board.proofs.board.Board.release.Goals as goal

abbrev may : (c : goal.After-exchange-arg-1) → MayRelease c.pass.inside.seat.me.0 (record { board = c.claim.inside.seat.value.table_id; lane = c.claim.inside.lane; start = c.claim.inside.start.value; work = c.claim.inside.work })
may c = subst (λ (x : PassView × ClaimView). MayRelease x.0.view x.1) (λ i. (sym c.pass.view_is i, sym c.claim.view_is i)) c.requires.claim

pub exchange-requires : goal.exchange-requires
exchange-requires c =
    let table : c.pass.inside.seat.table_id ≡ c.self.inside.table.shared.table_id = ap (λ x. x.board) c.pass.view_is ∙ c.requires.board.0 ∙ sym c.self.view_is in
    let held = may c in
    (c.bring.ensures.0 ∙ table, fillable c.claim.inside.lane c.claim.inside.start.value c.pass.inside.seat.me c.bring.new.seat.me held.held c.pass.invariant.slots_are c.bring.ensures.2)

pub store-requires : goal.store-requires
store-requires c =
    let table : c.pass.inside.seat.table_id ≡ c.self.inside.table.shared.table_id = ap (λ x. x.board) c.pass.view_is ∙ c.requires.board.0 ∙ sym c.self.view_is in
    let claim : c.claim.inside.seat.value.table_id ≡ c.self.inside.table.shared.table_id = ap (λ x. x.board) c.claim.view_is ∙ c.requires.board.1 ∙ sym c.self.view_is in
    let held : MayRelease c.pass.inside.seat.me.0 (record { board = c.claim.inside.seat.value.table_id; lane = c.claim.inside.lane; start = c.claim.inside.start.value; work = c.claim.inside.work }) =
    subst (λ (x : PassView × ClaimView). MayRelease x.0.view x.1) (λ i. (sym c.pass.view_is i, sym c.claim.view_is i)) c.requires.claim in (
      c.exchange.ensures.0 ∙ c.bring.ensures.0 ∙ table,
      subst (λ (z : TableId). c.claim.inside.lane < z.words) claim c.claim.invariant,
      releases c.self.inside.table.shared.table_id.slots c.exchange.new.seat.id c.pass.inside.seat.me.0 (held_slots (without c.claim.inside.lane c.pass.inside.seat.me.0.holds)) c.claim.inside.lane c.claim.inside.start.value c.claim.inside.work c.exchange.new.seat.me c.home_word-word.result
          c.pass.invariant.some_share held.held held.work held.count c.home_word-word.ensures.within
          (filled_is c.claim.inside.lane c.claim.inside.start.value c.pass.inside.seat.me c.bring.new.seat.me held.held c.pass.invariant.slots_are c.bring.ensures.2 c.claim.inside.work c.exchange.new.seat.me c.exchange.ensures.3)
          c.home_word-word.ensures.value,
    )

pub invariant_of-pass : goal.invariant_of-pass
invariant_of-pass c =
    let held : MayRelease c.pass.inside.seat.me.0 (record { board = c.claim.inside.seat.value.table_id; lane = c.claim.inside.lane; start = c.claim.inside.start.value; work = c.claim.inside.work }) =
    subst (λ (x : PassView × ClaimView). MayRelease x.0.view x.1) (λ i. (sym c.pass.view_is i, sym c.claim.view_is i)) c.requires.claim in
    subst (λ (z : TableId). IsSeated z c.store.new.seat.me.0 c.store.new.seat.me.1 c.pass.inside.start c.pass.inside.stop) (sym (c.store.ensures.0 ∙ c.exchange.ensures.0 ∙ c.bring.ensures.0))
    (seated_on c.pass.inside.seat.table_id c.pass.inside.seat.me c.store.new.seat.me c.claim.inside.lane c.claim.inside.work.done c.pass.inside.start c.pass.inside.stop c.pass.invariant
    (home_is c.claim.inside.lane c.claim.inside.start.value c.pass.inside.seat.me c.bring.new.seat.me held.held c.pass.invariant.slots_are c.bring.ensures.2 c.claim.inside.work c.exchange.new.seat.me c.exchange.ensures.3 c.store.new.seat.me c.store.ensures.2))
