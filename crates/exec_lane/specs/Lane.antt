-- Lanes: which of a round's ready callbacks run one after another, and what they do apart from the world.
use Rattle.std.specs.Prelude.{◌≡◌, ⊤, ℕ, List, [], ◌∷◌, ◌++◌, length, map, take, Bool, false, ◌&&◌, ◌==◌, if◌then◌else◌, Option, Some}
use Rattle.std.specs.List.{fold, list_any}
use Rattle.std.specs.Option.{option_map}
use Rattle.exec_msg.specs.Numbers.{EntityNo}
use Rattle.exec_plan.specs.Graph.{GroupNo}
use Rattle.exec_msg.specs.Lists.{change_first}
use Rattle.exec_script.specs.Zeros.{zeros}
use Rattle.exec_script.specs.declared.effects.Effect.{Effect}
use Rattle.exec_script.specs.declared.effects.Effects.{Effects}
use Rattle.exec_rules.specs.Callback.{AfterCallback}
use Rattle.exec_rules.specs.Run.{apart_with, effects_of, variables_for, with_variables_for, work_after, work_for}
use Rattle.exec_script.specs.Script.{Variables}
use Rattle.exec_rules.specs.Calls.{away}
use Rattle.exec_rules.specs.World.{GoalWork, WorldState, with_work}
use Rattle.exec_rules.specs.declared.ready.Cause.{Cause}
use Rattle.exec_rules.specs.declared.ready.Cause.TheVariants as cause
use Rattle.exec_rules.specs.declared.ready.Ready.{Ready}

-- ---- which callbacks are a lane

-- whether two callbacks are of one mutually exclusive group
abbrev pub is_beside : Ready → Ready → Bool
is_beside one other = one.exclusive && other.exclusive && (one.group == other.group)

-- whether a callback goes into a lane: into that of its group
abbrev pub goes_into : Ready → List Ready → Bool
goes_into one [] = false
goes_into one (first ∷ lane) = is_beside one first

-- the lanes with one more callback: it goes into the lane of its group, and begins one where there is none
abbrev pub with_callback : List (List Ready) → Ready → List (List Ready)
with_callback lanes one =
    if list_any (goes_into one) lanes then change_first (goes_into one) (λ lane. lane ++ one ∷ []) lanes else lanes ++ (one ∷ []) ∷ []

-- the lanes of a ready list, in the order of their first callbacks: the callbacks of a mutually exclusive group are one lane, in
-- ready order, and each callback of a reentrant group is one by itself
abbrev pub lanes_of : List Ready → List (List Ready)
lanes_of list = fold with_callback [] list

-- whether a callback is of a mutually exclusive group
abbrev pub is_of_exclusive : GroupNo → Ready → Bool
is_of_exclusive group one = one.exclusive && (one.group == group)

-- whether a lane has a callback of a mutually exclusive group
abbrev pub has_exclusive : GroupNo → List Ready → Bool
has_exclusive group lane = list_any (is_of_exclusive group) lane

-- callbacks as one lane, if there are any
abbrev pub as_lane : List Ready → List (List Ready)
as_lane [] = []
as_lane (one ∷ others) = (one ∷ others) ∷ []

-- ---- what a lane does

-- a ready callback of a lane, with the work of the goal that it polls, if it polls one
pub record LaneCallback : Type 0 where
  pub ready : Ready
  pub work : Option GoalWork

-- what a callback of a lane left: what it did, and the work of the goal that it polled
pub record LeftByCallback : Type 0 where
  pub effects : Effects
  pub work : Option GoalWork

-- a lane after some of its callbacks: the variables of its group, and what each of them left
pub record LaneState : Type 0 where
  pub variables : Variables
  pub left : List LeftByCallback

-- what a callback left that came out so, where the goal that it polled did this work before
abbrev pub left_by_callback : Option GoalWork → AfterCallback (List Effect) → LeftByCallback
left_by_callback work outcome = record { effects = effects_of outcome; work = option_map (work_after outcome.task) work }

-- the lane after one more callback came out so
abbrev pub after_outcome : LaneState → Option GoalWork → AfterCallback (List Effect) → LaneState
after_outcome lane work outcome = record { variables = outcome.variables; left = lane.left ++ left_by_callback work outcome ∷ [] }

-- the lane after one more callback
abbrev pub run_entry : LaneState → LaneCallback → LaneState
run_entry lane entry = after_outcome lane entry.work (apart_with entry.ready entry.work lane.variables)

-- a lane after its first callbacks, so many of them, from the variables of its group as they were at first
abbrev pub lane_at : Variables → List LaneCallback → ℕ → LaneState
lane_at variables entries count = fold run_entry (record { variables = variables; left = [] }) (take count entries)

-- ---- lanes of a world

-- a lane as it may be moved from thread to thread: the variables and the callbacks with which it was opened, how many of these
-- ran, and whether one of them was refused memory
pub record Lane : Type 0 where
  pub variables : Variables
  pub entries : List LaneCallback
  pub done : ℕ
  pub failed : Bool

-- how it stands
abbrev pub state_of : Lane → LaneState
state_of lane = lane_at lane.variables lane.entries lane.done

-- a callback with the work of the goal that it polls, as the world has it
abbrev pub entry_in : WorldState → Ready → LaneCallback
entry_in world one = record { ready = one; work = work_for one.entity one.cause world }

-- the variables with which a lane begins: those of its first callback's group
abbrev pub variables_for_lane : WorldState → List Ready → Variables
variables_for_lane world [] = zeros
variables_for_lane world (first ∷ lane) = variables_for first world

-- a lane is opened, with its variables and tasks as the world has them
abbrev pub opened : WorldState → List Ready → Lane
opened world lane = record { variables = variables_for_lane world lane; entries = map (entry_in world) lane; done = 0; failed = false }

-- the lanes of a ready list, opened
abbrev pub opened_lanes : List Ready → WorldState → List Lane
opened_lanes list world = map (opened world) (lanes_of list)

-- the world without the task of the goal that a callback polls, if it polls one
abbrev pub without_task : EntityNo → Cause → WorldState → WorldState
without_task server (cause.Woke id value canceling) world = with_work server id away world
without_task server _ world = world

-- the world from which the tasks of the goals that callbacks poll are taken
abbrev pub tasks_out : List Ready → WorldState → WorldState
tasks_out list world = fold (λ before one. without_task one.entity one.cause before) world list

-- ---- what comes home

-- the world in which the work of the goal that a callback polled is home
abbrev pub task_home : EntityNo → Cause → Option GoalWork → WorldState → WorldState
task_home server (cause.Woke id value canceling) (Some work) world = with_work server id work world
task_home server _ _ world = world

-- the world in which the works of a lane's goals are home, as their callbacks left them, or as they were where these didn't run
abbrev pub tasks_home : List LaneCallback → List LeftByCallback → WorldState → WorldState
tasks_home [] done world = world
tasks_home (entry ∷ entries) [] world = tasks_home entries [] (task_home entry.ready.entity entry.ready.cause entry.work world)
tasks_home (entry ∷ entries) (did ∷ done) world = tasks_home entries done (task_home entry.ready.entity entry.ready.cause did.work world)

-- the world in which the variables of a lane's group are home
abbrev pub variables_home : List LaneCallback → Variables → WorldState → WorldState
variables_home [] variables world = world
variables_home (first ∷ entries) variables world = with_variables_for first.ready variables world

-- the world in which all that a lane took is home, as its callbacks left it
abbrev pub lane_home : WorldState → Lane → WorldState
lane_home world lane = tasks_home lane.entries (state_of lane).left (variables_home lane.entries (state_of lane).variables world)

abbrev pub lanes_home : List Lane → WorldState → WorldState
lanes_home lanes world = fold lane_home world lanes

-- a lane is that of an opening, and all its callbacks ran
pub record IsFinished (opening lane : Lane) : Type 0 where
  pub variables : lane.variables ≡ opening.variables
  pub entries : lane.entries ≡ opening.entries
  pub done : lane.done ≡ length opening.entries

-- lanes are those that were opened, in their order, and all their callbacks ran
abbrev pub AreFinished : List Lane → List Lane → Type 0
AreFinished [] [] = ⊤
AreFinished (opening ∷ others) (lane ∷ lanes) = IsFinished opening lane × AreFinished others lanes
AreFinished _ _ = ⊥
