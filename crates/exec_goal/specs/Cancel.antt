-- Cancel requests: `action_msgs/srv/CancelGoal`.
use Rattle.std.specs.Prelude.{zero, suc, List, [], ◌∷◌, map, Bool, true, false, not, ◌&&◌, ◌||◌, ◌==◌, nat_le, if◌then◌else◌, Option, None, Some}
use Rattle.std.specs.List.{find, filter, list_any}
use Rattle.exec_msg.specs.Numbers.{GoalId, Moment}
use Rattle.exec_msg.specs.declared.goal.CancelDecision.{CancelDecision}
use Rattle.exec_msg.specs.declared.goal.CancelDecision.TheVariants as cancel_decision
use Rattle.exec_msg.specs.declared.goal.Event.TheVariants as event
use Rattle.exec_msg.specs.declared.goal.ReturnCode.{ReturnCode}
use Rattle.exec_msg.specs.declared.goal.ReturnCode.TheVariants as code
use Rattle.exec_goal.specs.State.{is_cancelable, is_terminal}
use Rattle.exec_goal.specs.Table.{GoalRecord, has_id, after_event}

-- a cancel request: an identifier and a stamp in ticks, of which 0 is none
pub record CancelRequest : Type 0 where
  pub id : GoalId
  pub stamp : Moment

-- the policy: with neither all goals; with a stamp all goals accepted at or before it; with an identifier that goal,
-- whenever accepted; with both that goal and all goals accepted at or before the stamp
abbrev pub selects : GoalId → Moment → GoalRecord → Bool
selects zero zero goal = true
selects zero (suc before) goal = nat_le goal.stamp (suc before)
selects (suc id) zero goal = has_id (suc id) goal
selects (suc id) (suc before) goal = has_id (suc id) goal || nat_le goal.stamp (suc before)

-- a candidate is selected and may be moved
abbrev pub is_candidate : CancelRequest → GoalRecord → Bool
is_candidate request goal = selects request.id request.stamp goal && is_cancelable goal.state

-- the candidates of a request, in order of acceptance
abbrev pub candidates : CancelRequest → List GoalRecord → List GoalRecord
candidates request goals = filter (is_candidate request) goals

-- what a cancel handler decided of a candidate
abbrev pub Decided : Type 0
Decided = GoalId × CancelDecision

-- the candidate's identifier
abbrev pub decided_goal : Decided → GoalId
decided_goal decided = decided.0

-- the decision
abbrev pub decision_of : Decided → CancelDecision
decision_of decided = decided.1

-- whether a decision accepts
abbrev pub accepts : CancelDecision → Bool
accepts cancel_decision.Reject = false
accepts cancel_decision.Accept = true

-- whether a candidate is accepted for cancelling
abbrev pub is_acceptance : Decided → Bool
is_acceptance decided = accepts (decision_of decided)

-- whether the goal of an identifier is accepted for cancelling
abbrev pub is_accepted_for : List Decided → GoalId → Bool
is_accepted_for decisions id = list_any (λ decided. (decided_goal decided == id) && is_acceptance decided) decisions

-- an accepted candidate moves where it still may, by which identifiers are accepted
abbrev pub moves_by : (GoalId → Bool) → GoalRecord → Bool
moves_by accepted goal = accepted goal.id && is_cancelable goal.state

-- whether a goal moves by the decisions
abbrev pub is_moved : List Decided → GoalRecord → Bool
is_moved decisions goal = moves_by (is_accepted_for decisions) goal

-- the goals that move, in order of acceptance
abbrev pub moved : List Decided → List GoalRecord → List GoalRecord
moved decisions goals = filter (is_moved decisions) goals

-- a goal after the answer, by which identifiers are accepted
abbrev pub after_answer_by : (GoalId → Bool) → GoalRecord → GoalRecord
after_answer_by accepted goal = if moves_by accepted goal then after_event event.CancelGoal goal else goal

-- a goal after the answer
abbrev pub after_answer : List Decided → GoalRecord → GoalRecord
after_answer decisions goal = after_answer_by (is_accepted_for decisions) goal

-- the table after the answer
abbrev pub table_after : List Decided → List GoalRecord → List GoalRecord
table_after decisions goals = map (after_answer decisions) goals

-- the code where no goal moved, by the goal that the request's identifier names: unknown where there is none, terminated
-- where it has ended, and else rejected
abbrev pub code_by : GoalId → Option GoalRecord → ReturnCode
code_by zero named = code.Rejected
code_by (suc id) None = code.UnknownGoalId
code_by (suc id) (Some goal) = if is_terminal goal.state then code.GoalTerminated else code.Rejected

-- whether there were candidates, and the handler refused all of them
abbrev pub is_refused : List Decided → Bool
is_refused [] = false
is_refused (decided ∷ others) = not (list_any is_acceptance (decided ∷ others))

-- the code where no goal moved
abbrev pub code_unmoved : CancelRequest → List Decided → List GoalRecord → ReturnCode
code_unmoved request decisions goals = if is_refused decisions then code.Rejected else code_by request.id (find (has_id request.id) goals)

-- the return code of a request's answer
abbrev pub code_of : CancelRequest → List Decided → List GoalRecord → ReturnCode
code_of request decisions goals = if list_any (is_moved decisions) goals then code.None else code_unmoved request decisions goals
