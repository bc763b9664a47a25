use Rattle.exec_board.proofs.Sweeping.{claim_released, released_lane_held}
use Rattle.exec_board.proofs.laws.a_claim_may_be_released.Goals as goal

pub returns-clause-may : goal.returns-clause-may
returns-clause-may c = claim_released

pub returns-clause-released : goal.returns-clause-released
returns-clause-released c = λ view lane first end. released_lane_held lane first end view
