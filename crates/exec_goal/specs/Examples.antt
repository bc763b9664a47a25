-- Worked examples: a server's table of three goals, as requests come.
use Rattle.std.specs.Prelude.{pos, List, [], ◌∷◌, map, if◌then◌else◌}
use Rattle.exec_goal.specs.Cancel.{CancelRequest, Decided, table_after}
use Rattle.exec_goal.specs.Table.{GoalRecord, has_id, with_accepted, after_end}
use Rattle.exec_msg.specs.declared.goal.Acceptance.TheVariants as acceptance
use Rattle.exec_msg.specs.declared.goal.CancelDecision.TheVariants as cancel_decision
use Rattle.exec_msg.specs.declared.goal.Event.TheVariants as event

-- three goals of value 5: goals 1 and 2 are deferred at 10 and 20, and goal 3 is executed at 30
abbrev pub three_goals : List GoalRecord
three_goals = with_accepted 3 (pos 5) 30 acceptance.Execute (with_accepted 2 (pos 5) 20 acceptance.Defer (with_accepted 1 (pos 5) 10 acceptance.Defer []))

-- a request to cancel all goals accepted at or before 20
abbrev pub cancel_until_20 : CancelRequest
cancel_until_20 = record { id = 0; stamp = 20 }

-- goal 1 is accepted for cancelling, and goal 2 refused
abbrev pub one_accepted : List Decided
one_accepted = (1, cancel_decision.Accept) ∷ (2, cancel_decision.Reject) ∷ []

-- the table after that answer
abbrev pub one_canceling : List GoalRecord
one_canceling = table_after one_accepted three_goals

-- the table once goal 1 was canceled at 40 with the result 7
abbrev pub one_canceled : List GoalRecord
one_canceled = map (λ goal. if has_id 1 goal then after_end event.Canceled (pos 7) 40 goal else goal) one_canceling

-- a request to cancel goal 1
abbrev pub cancel_1 : CancelRequest
cancel_1 = record { id = 1; stamp = 0 }

-- a request to cancel goal 9, which is never held
abbrev pub cancel_9 : CancelRequest
cancel_9 = record { id = 9; stamp = 0 }
