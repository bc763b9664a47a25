use Rattle.exec_lane.proofs.Outcomes.{each_did, stays}
use Rattle.exec_lane.proofs.laws.outcomes_stay_as_a_lane_goes_on.Goals as goal

pub returns-clause-stay : goal.returns-clause-stay
returns-clause-stay c = stays

pub returns-clause-each : goal.returns-clause-each
returns-clause-each c = each_did
