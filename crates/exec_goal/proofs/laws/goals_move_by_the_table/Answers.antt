use Rattle.exec_goal.proofs.Moving.{transition_from, after_by}
use Rattle.exec_goal.proofs.laws.goals_move_by_the_table.Goals as goal

pub returns : goal.returns
returns c = λ before by next. (transition_from before by next, after_by before by next)
