-- The box of a claim, lent.
use Rattle.std.specs.Borrow.{Lends, MutBor, Fml}
use Rattle.exec_lane.specs.Lane.{Lane}
use Rattle.exec_lane.specs.contracts.lane_box.LaneBox.{the_row as box_row}
use Rattle.exec_board.specs.Board.{ClaimView}
use Rattle.exec_board.specs.contracts.claim.Claim.{the_row}

-- the claim ends with the box that was left
abbrev pub LendsWork : MutBor ClaimView → MutBor Lane → Fml
LendsWork claim result = Lends the_row box_row claim result (λ (left : Lane). record claim.now { work = left })
