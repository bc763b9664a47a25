-- Seats of passes that were split and joined.
use Rattle.std.proofs.Common.{◌≡◌, ℕ, sym, subst, ◌∙◌, arith}
use Rattle.std.specs.Prelude.{Option}
use Rattle.atomic_table.specs.Seated.{TableId}
use Rattle.atomic_table.specs.Table.{Me}
use Rattle.exec_lane.specs.Lane.{Lane}
use Rattle.exec_board.specs.Board.{IsSeated}
use Rattle.exec_board.specs.Seats.{SeatView, together}
use Rattle.exec_board.proofs.Shares.{length-greater}

abbrev SeatOf : TableId → Me (Option Lane) SeatView → ℕ → ℕ → Type 0
SeatOf board me start stop = IsSeated board me.0 me.1 start stop

pub both_seated : (board board' : TableId) (front back me : Me (Option Lane) SeatView) (start middle_ middle' stop : ℕ) → board' ≡ board → back.0.start ≡ front.0.stop → SeatOf board front start middle_ → SeatOf board back middle' stop
    → me ≡ (together front.0 back.0, front.1) → SeatOf board' me start stop
both_seated board board' front back me start middle_ middle' stop same neighbours seated beside is = subst (λ (x : TableId × Me (Option Lane) SeatView). SeatOf x.0 x.1 start stop) (λ i. (sym same i, sym is i)) (record {
  start_is = seated.start_is;
  stop_is = beside.stop_is;
  some_share = let one = seated.some_share in let other = beside.some_share in omega (arith, one, other, neighbours);
  slots_are = seated.slots_are;
  as_many = seated.as_many;
  sized = length-greater front.0.seen back.0.seen (seated.sized ∙ sym beside.sized) ∙ seated.sized;
})
