use Rattle.exec_laws.proofs.Lives.{statuses_lawful}
use Rattle.exec_laws.proofs.goals.statuses_follow_the_transitions.Goals as goal

pub returns : goal.returns
returns c = λ plan server id. statuses_lawful (λ before by reached leads. (c.goals_move_by_the_table.ensures before by reached).0 leads) plan server id
