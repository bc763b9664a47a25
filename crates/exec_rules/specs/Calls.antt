-- A world as its calls see it.
use Rattle.std.specs.Prelude.{◌≡◌, ◌≢◌, ⊤, ℕ, suc, ◌+◌, ◌-◌, ◌<◌, ◌≤◌, pos, List, [], length, Bool, true, false, ◌&&◌, ◌==◌, if◌then◌else◌, Some, slice_index_or, take}
use Rattle.std.specs.List.{AllByRecursion, IsDistinct}
use Rattle.exec_msg.specs.Numbers.{EntityNo, GoalId, Moment}
use Rattle.exec_msg.specs.declared.goal.Event.TheVariants as event
use Rattle.exec_plan.specs.Plan.{PlanData}
use Rattle.exec_script.specs.declared.effects.Effects.{Effects}
use Rattle.exec_task.specs.Task.{new_task}
use Rattle.exec_rules.specs.Ready.{ready_list, take_inputs}
use Rattle.exec_rules.specs.Run.{commit}
use Rattle.exec_rules.specs.Transcript.{at_snapshot, first_world, finish, round, rounds, run_all}
use Rattle.exec_rules.specs.World.{GoalWork, WorldState, work_at}
use Rattle.exec_rules.specs.declared.ready.Cause.{Cause}
use Rattle.exec_rules.specs.declared.ready.Cause.TheVariants as cause
use Rattle.exec_rules.specs.declared.ready.Ready.{Ready}

-- a world: its plan, what changes while that is run, how many rounds are done, how many callbacks of the last snapshot aren't
-- committed yet, and whether it has failed, so that nothing else of it counts
pub record WorldData : Type 0 where
  pub plan : PlanData
  pub state : WorldState
  pub rounds : ℕ
  pub uncommitted : ℕ
  pub failed : Bool

-- the world of a plan before its first round
abbrev pub new_world : PlanData → WorldData
new_world plan = record { plan = plan; state = first_world plan; rounds = 0; uncommitted = 0; failed = false }

-- the world of a plan after its first rounds, so many of them
abbrev pub world_after : ℕ → PlanData → WorldData
world_after count plan = record {
  plan = plan;
  state = rounds plan 1 (take count plan.moments) (first_world plan);
  rounds = count;
  uncommitted = 0;
  failed = false;
}

-- a round is the next one of a world, and one of its plan, and the round before is done
pub record IsNext (number : ℕ) (world : WorldData) : Type 0 where
  pub next : number ≡ world.rounds + 1
  pub within : number ≤ length world.plan.moments
  pub done : world.uncommitted ≡ 0

-- the moment of a round
abbrev pub moment_of : ℕ → PlanData → Moment
moment_of number plan = slice_index_or plan.moments (number - 1) 0

-- a world of which so many callbacks are still to be committed: where there are none, its round is done
abbrev pub with_uncommitted : ℕ → WorldData → WorldData
with_uncommitted count world = record world { uncommitted = count; rounds = if count == 0 then suc world.rounds else world.rounds }

-- the state of which the snapshot of a round is taken
abbrev pub state_at : ℕ → WorldData → WorldState
state_at number world = at_snapshot world.plan number (moment_of number world.plan) world.state

-- the callbacks that are ready in a round
abbrev pub ready_in : ℕ → WorldData → List Ready
ready_in number world = ready_list (moment_of number world.plan) (state_at number world)

-- whether what makes a callback ready is that a goal of this identifier is awake
abbrev pub wakes : GoalId → Cause → Bool
wakes id (cause.Woke other value canceling) = id == other
wakes id _ = false

-- whether a callback that is ready for this cause polls the goal that another one of this server polls
abbrev pub polls_same_of : EntityNo → Cause → Ready → Bool
polls_same_of server (cause.Woke id value canceling) other = wakes id other.cause && (server == other.entity)
polls_same_of server _ other = false

-- whether two callbacks poll one goal
abbrev pub polls_same : Ready → Ready → Bool
polls_same one other = polls_same_of one.entity one.cause other

-- the goal that a callback of this server polls is held
abbrev pub IsHeldFor : EntityNo → Cause → WorldState → Type 0
IsHeldFor server (cause.Woke id value canceling) world = (work : GoalWork) × (work_at server id world ≡ Some work)
IsHeldFor server _ world = ⊤

-- what stands in the place of a goal's work while its task is out: a task that has ended, and has no registers. Each task has
-- eight, so no task's own work is this
abbrev pub away : GoalWork
away = record {
  script = [];
  value = pos 0;
  task = record new_task { registers = []; ending = Some (record { event = event.Abort; value = pos 0 }) };
}

-- the goal that a callback of this server polls is held, and its task is at home
abbrev pub IsHomeFor : EntityNo → Cause → WorldState → Type 0
IsHomeFor server (cause.Woke id value canceling) world = (work : GoalWork) × (work_at server id world ≡ Some work) × (work ≢ away)
IsHomeFor server _ world = ⊤

-- the task of each goal that callbacks poll is at home, and no two of them poll one goal
pub record AreHome (list : List Ready) (world : WorldState) : Type 0 where
  pub home : AllByRecursion (λ one. IsHomeFor one.entity one.cause world) list
  pub apart : IsDistinct polls_same list

-- the variables of each callback's group, where that is mutually exclusive, are among the world's
abbrev pub HaveVariables : List Ready → WorldState → Type 0
HaveVariables list world = AllByRecursion (λ one. one.exclusive ≡ true → one.group < length world.variables) list

-- a world after the snapshot of a round
abbrev pub after_snapshot : ℕ → WorldData → WorldData
after_snapshot number world =
    with_uncommitted (length (ready_in number world)) (record world { state = take_inputs (moment_of number world.plan) (state_at number world) })

-- a world after one of the callbacks of the last snapshot is committed
abbrev pub after_commit : Ready → Effects → WorldData → WorldData
after_commit one effects world = with_uncommitted (world.uncommitted - 1) (record world { state = commit one effects world.state })

-- a world after the callbacks of the last snapshot, these, ran one after another where they stand
abbrev pub after_all : List Ready → WorldData → WorldData
after_all list world = with_uncommitted 0 (record world { state = run_all list world.state })

-- a world after a whole round
abbrev pub after_round : ℕ → WorldData → WorldData
after_round number world = with_uncommitted 0 (record world { state = round world.plan number (moment_of number world.plan) world.state })

-- a world whose transcript is closed
abbrev pub after_finish : WorldData → WorldData
after_finish world = record world { state = finish world.rounds world.state }
