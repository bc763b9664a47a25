use Rattle.exec_board.proofs.Sweeping.{last_refused}
use Rattle.exec_board.proofs.laws.the_last_pass_is_refused_finished_lanes.Goals as goal

pub returns : goal.returns
returns c = last_refused
