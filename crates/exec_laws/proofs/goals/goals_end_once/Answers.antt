use Rattle.exec_laws.proofs.Ended.{behind_final}
use Rattle.exec_laws.proofs.goals.goals_end_once.Goals as goal

pub returns : goal.returns
returns c = λ before after final comes. behind_final c.goals_move_by_the_table.ensures c.ended_goals_stay.ensures before after final comes
