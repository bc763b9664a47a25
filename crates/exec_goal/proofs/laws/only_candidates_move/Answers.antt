use Rattle.exec_goal.proofs.Answering.{moved_among}
use Rattle.exec_goal.proofs.laws.only_candidates_move.Goals as goal

pub returns : goal.returns
returns c = moved_among
