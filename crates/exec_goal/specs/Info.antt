-- What is told of a goal, and of its result.
use Rattle.exec_goal.specs.Table.{GoalRecord, Asked, told, later, unknown}
use Rattle.exec_goal.specs.declared.asked.Asked.{Asked as Answer}
use Rattle.exec_goal.specs.declared.asked.Asked.TheVariants as answer
use Rattle.exec_goal.specs.declared.info.GoalInfo.{GoalInfo}

-- what is told of a goal
abbrev pub info_of : GoalRecord → GoalInfo
info_of goal = record { id = goal.id; value = goal.value; stamp = goal.stamp; state = goal.state }

-- how a result request's answer is told
abbrev pub answer_of : Asked → Answer
answer_of (told status value) = answer.Now status value
answer_of later = answer.Later
answer_of unknown = answer.Unknown
