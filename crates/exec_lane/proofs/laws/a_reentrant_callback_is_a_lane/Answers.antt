use Rattle.exec_lane.proofs.Groups.{own_lanes}
use Rattle.exec_lane.proofs.laws.a_reentrant_callback_is_a_lane.Goals as goal

pub returns : goal.returns
returns c = own_lanes
