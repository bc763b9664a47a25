use Rattle.exec_goal.proofs.Asking.{unknown_to, unknown_from}
use Rattle.exec_goal.proofs.laws.other_goals_are_unknown.Goals as goal

pub returns : goal.returns
returns c = λ id goals. (unknown_to id goals, unknown_from id goals)
