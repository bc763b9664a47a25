use Rattle.exec_lane.proofs.Groups.{one_lane}
use Rattle.exec_lane.proofs.laws.an_exclusive_group_has_one_lane.Goals as goal

pub returns : goal.returns
returns c = one_lane
