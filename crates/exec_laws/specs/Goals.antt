-- The life of a goal.
use Rattle.std.specs.Prelude.{◌≡◌, ◌⊎◌, ℕ, Bool, List, [], ◌∷◌, ◌++◌, Option, None, Some, true, false}
use Rattle.exec_goal.specs.State.{Transition, is_canceling, is_worked_on, status_of}
use Rattle.exec_goal.specs.declared.state.State.{State}
use Rattle.exec_plan.specs.Plan.{PlanData}
use Rattle.exec_msg.specs.declared.goal.Event.{Event}
use Rattle.exec_msg.specs.declared.goal.GoalStatus.{GoalStatus}
use Rattle.exec_msg.specs.declared.goal.GoalStatus.TheVariants as status
use Rattle.exec_rules.specs.Ready.{ready_list, take_inputs}
use Rattle.exec_rules.specs.Transcript.{at_snapshot, run_all}
use Rattle.exec_msg.specs.Numbers.{Moment}
use Rattle.exec_rules.specs.World.{WorldState}
use Rattle.exec_rules.specs.declared.ready.Ready.{Ready}

-- a transition leads from one status to another
pub record IsStep (before after : GoalStatus) : Type 0 where
  pub source : State
  pub by : Event
  pub target : State
  pub moves : Transition source by target
  pub comes_from : status_of source ≡ before
  pub goes_to : status_of target ≡ after

-- the status of a goal that has ended
abbrev pub IsFinal : GoalStatus → Type 0
IsFinal one = (one ≡ status.Succeeded) ⊎ ((one ≡ status.Canceled) ⊎ (one ≡ status.Aborted))

-- a status may come after the last one, if there is one: a goal is accepted where there is none yet or the one before has
-- ended, and else a transition leads there
abbrev pub MayCome : Option GoalStatus → GoalStatus → Type 0
MayCome None after = after ≡ status.Accepted
MayCome (Some before) after = IsStep before after ⊎ (IsFinal before × (after ≡ status.Accepted))

-- statuses each of which may come after the one before
abbrev pub AreLawful : Option GoalStatus → List GoalStatus → Type 0
AreLawful last [] = Unit {0}
AreLawful last (after ∷ more) = MayCome last after × AreLawful (Some after) more

-- a ready callback's turn in the round of a number at a moment, where this is the world before that round: the callbacks
-- before it in the ready list ran, and the world is this one then
pub record IsTurn (plan : PlanData) (number : ℕ) (moment : Moment) (world : WorldState) (one : Ready) (here : WorldState) : Type 0 where
  pub before : List Ready
  pub behind : List Ready
  pub stands : ready_list moment (at_snapshot plan number moment world) ≡ before ++ one ∷ behind
  pub came : here ≡ run_all before (take_inputs moment (at_snapshot plan number moment world))

-- whether a goal of this state, if there is one, may be polled: as one that is being canceled where it is CANCELING, and
-- else where it is EXECUTING or CANCELING
abbrev pub may_be_polled : Bool → Option State → Bool
may_be_polled canceling None = false
may_be_polled true (Some at) = is_canceling at
may_be_polled false (Some at) = is_worked_on at
