-- Which goals of a server are awake, and what a poll of one is.
use Rattle.std.proofs.Common.{◌≡◌, ◌≢◌, ℕ, zero, suc, List, [], ◌∷◌, map, length, Bool, true, false, cond, Option, None, Some, IfSome, slice_get, slice_index_or, refl, ap}
use Rattle.std.specs.List.{filter}
use Rattle.std.specs.Option.{option_map}
use Rattle.exec_goal.specs.Info.{info_of}
use Rattle.exec_goal.specs.State.{is_worked_on}
use Rattle.exec_goal.specs.Table.{working}
use Rattle.exec_goal.specs.declared.info.GoalInfo.{GoalInfo}
use Rattle.exec_task.specs.Task.{TaskState, is_awake}
use Rattle.exec_rules.specs.Calls.{away}
use Rattle.exec_rules.specs.Ready.{is_goal_awake}
use Rattle.exec_rules.specs.World.{HeldGoal, ServerEntry, doing, is_for, records_of, with_held, work_of}
use Rattle.exec_rules.specs.Run.{work_after}
use Rattle.exec_entity.proofs.Changed.{unchanged_first}
use Rattle.exec_entity.specs.inner.Server.{Kept, work_there}
use Rattle.exec_entity.specs.inner.Polling.{IsTaken, server_polled}
use Rattle.std.specs.Prelude.{IsSomeAnd}
use Rattle.exec_rules.specs.Callback.{poll_listed}
use Rattle.exec_script.specs.Script.{Variables}
use Rattle.exec_task.specs.Goal.{GoalTaskState}
use Rattle.exec_task.specs.declared.wait.Turn.{Turn}

-- what is told of the goal at a place
pub info-at : (held : List HeldGoal) (i : ℕ) (info : GoalInfo) (d : HeldGoal) → slice_get (map info_of (records_of held)) i ≡ Some info → info ≡ info_of (slice_index_or held i d).goal
info-at [] i info d at = absurd cc
info-at (one ∷ held) zero info d at = cc
info-at (one ∷ held) (suc i) info d at = info-at held i info d at

-- where a server works on no goal none is awake
pub none-awake : (moment : ℕ) (held : List HeldGoal) → working (records_of held) ≡ 0 → filter (is_goal_awake moment) held ≡ []
none-awake moment [] none = refl
none-awake moment (one ∷ held) none = by (is_worked_on one.goal.state) refl none (none-awake moment held)
  where
    by : (b : Bool) → is_worked_on one.goal.state ≡ b → length (cond b (one.goal ∷ filter (λ goal. is_worked_on goal.state) (records_of held)) (filter (λ goal. is_worked_on goal.state) (records_of held))) ≡ 0 →
        (working (records_of held) ≡ 0 → filter (is_goal_awake moment) held ≡ []) → cond (is_goal_awake moment one) (one ∷ filter (is_goal_awake moment) held) (filter (is_goal_awake moment) held) ≡ []
    by true is none others = absurd cc
    by false is none others = rw is (others none)

-- a goal after a poll, what is kept beside its record then, and its server
abbrev pub held_polled : Option TaskState → HeldGoal → HeldGoal
held_polled task held = doing (work_after task held.work) held

abbrev pub kept_polled : Option TaskState → Kept → Kept
kept_polled task one = record one { work = work_after task one.work }

-- the work of a task that is polled where it is kept, and what is out then
pub polled_there : (turn : Turn) (task : Option GoalTaskState) (variables : Variables) → poll_listed turn (option_map work_of task) variables ≡ poll_listed turn (Some (work_there task)) variables
polled_there turn None variables = refl
polled_there turn (Some task) variables = refl

pub left_there : (turn : Turn) (task after : Option GoalTaskState) (variables : Variables) → option_map work_of after ≡ option_map (work_after (poll_listed turn (option_map work_of task) variables).task) (option_map work_of task) →
    work_there after ≡ work_after (poll_listed turn (Some (work_there task)) variables).task (work_there task)
left_there turn None None variables is = refl
left_there turn None (Some after) variables is = absurd cc
left_there turn (Some task) None variables is = absurd cc
left_there turn (Some task) (Some after) variables is = cc

-- a task that is kept as it was
pub same_there : (task after : Option GoalTaskState) → option_map work_of after ≡ option_map work_of task → work_there after ≡ work_there task
same_there None None is = refl
same_there None (Some after) is = absurd cc
same_there (Some task) None is = absurd cc
same_there (Some task) (Some after) is = cc

-- a task that is awake is there
pub some_there : (turn : Turn) (task : Option GoalTaskState) → IsSomeAnd (option_map work_of task) (λ work. is_awake work.task turn ≡ true) → IsSomeAnd (Some (work_there task)) (λ work. is_awake work.task turn ≡ true)
some_there turn None awake = absurd awake
some_there turn (Some task) awake = awake

-- a task that is taken from where it is kept is the goal's own, unless it is out
pub taken_there : (task : Option GoalTaskState) → IfSome task (λ task. work_of task ≢ away) → IsTaken (Some (work_there task)) task
taken_there None own = refl
taken_there (Some task) own = (refl, own)

pub server-polled : (id : ℕ) (task : Option TaskState) (entry : ServerEntry) → with_held id (held_polled task) entry ≡ server_polled id task entry
server-polled id None entry =
    ap (λ (held : List HeldGoal). record entry { held = held }) (unchanged_first (is_for id) entry.held)
server-polled id (Some task) entry = refl
