-- The slot that a seat has taken last.
use Rattle.std.proofs.Common.{◌≡◌, ℕ, List, ◌∷◌, ap, sym, ◌∙◌}
use Rattle.std.specs.Prelude.{Option, Some}
use Rattle.atomic_table.specs.Table.{Me, rest}
use Rattle.exec_lane.specs.Lane.{Lane}
use Rattle.exec_board.specs.Plays.{Won}
use Rattle.exec_board.specs.Seats.{SeatView}

pub taken : {S : Type 0} (xs ys : List (ℕ × S)) (slot : ℕ) (x : S) → xs ≡ (slot, x) ∷ ys → xs ≡ (slot, x) ∷ rest xs
taken {S} xs ys slot x is = is ∙ ap (λ (others : List (ℕ × S)). (slot, x) ∷ others) (sym (ap rest is))

-- after a claim was won it is the lane's
pub taken_lane : (lane : ℕ) (before after : Me (Option Lane) SeatView) → Won lane before after → (x : Option Lane) × (after.1 ≡ (lane, x) ∷ rest after.1)
taken_lane lane before after won = (Some won.0, taken after.1 before.1 lane (Some won.0) (ap (λ (me : Me (Option Lane) SeatView). me.1) won.1))
