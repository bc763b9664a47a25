use Rattle.exec_lane.proofs.Cutting.{lanes_have_all}
use Rattle.exec_lane.proofs.laws.each_callback_stands_in_one_lane.Goals as goal

pub returns : goal.returns
returns c = lanes_have_all
