-- What a lane is kept in, and what a callback does there.
use Rattle.std.specs.Prelude.{ℕ, List, [], ◌∷◌, ◌++◌, Option, None}
use Rattle.std.specs.Option.{option_map}
use Rattle.exec_rules.specs.Callback.{AfterCallback}
use Rattle.exec_rules.specs.Run.{apart_with, effects_of, work_after}
use Rattle.exec_rules.specs.World.{GoalWork}
use Rattle.exec_rules.specs.declared.ready.Cause.{Cause}
use Rattle.exec_rules.specs.declared.ready.Cause.TheVariants as cause
use Rattle.exec_rules.specs.declared.ready.Ready.{Ready}
use Rattle.exec_script.specs.Script.{Variables}
use Rattle.exec_script.specs.Zeros.{zeros}
use Rattle.exec_script.specs.declared.effects.Effect.{Effect}
use Rattle.exec_script.specs.declared.effects.Effects.{Effects}
use Rattle.exec_task.specs.Task.{TaskState}

-- what a lane's callbacks have: their places in the ready list, the variables of their group, the works of the goals that are
-- still to be polled and of those that were, and what each callback did that ran
pub record BufferState : Type 0 where
  pub places : List ℕ
  pub variables : Variables
  pub waiting : List (Option GoalWork)
  pub polled : List (Option GoalWork)
  pub did : List Effects

-- nothing
abbrev pub no_callbacks : BufferState
no_callbacks = record { places = []; variables = zeros; waiting = []; polled = []; did = [] }

-- the first of these works, and the others
abbrev pub first_work : List (Option GoalWork) → Option GoalWork
first_work [] = None
first_work (work ∷ works) = work

abbrev pub other_works : List (Option GoalWork) → List (Option GoalWork)
other_works [] = []
other_works (work ∷ works) = works

-- the work that a callback polls where these are still to be polled, and those that are left then
abbrev pub polled_work : Cause → List (Option GoalWork) → Option GoalWork
polled_work (cause.Woke id value canceling) works = first_work works
polled_work _ works = None

abbrev pub unpolled_works : Cause → List (Option GoalWork) → List (Option GoalWork)
unpolled_works (cause.Woke id value canceling) works = other_works works
unpolled_works _ works = works

-- the first of these works as a poll left it, if there is one
abbrev pub first_after : Option TaskState → List (Option GoalWork) → List (Option GoalWork)
first_after task [] = []
first_after task (work ∷ works) = option_map (work_after task) work ∷ []

abbrev pub polled_after : Cause → Option TaskState → List (Option GoalWork) → List (Option GoalWork)
polled_after (cause.Woke id value canceling) task works = first_after task works
polled_after _ task works = []

-- a lane whose next callback came out so
abbrev pub after_next : Ready → AfterCallback (List Effect) → BufferState → BufferState
after_next one outcome lane = record lane {
  variables = outcome.variables;
  waiting = unpolled_works one.cause lane.waiting;
  polled = lane.polled ++ polled_after one.cause outcome.task lane.waiting;
  did = lane.did ++ effects_of outcome ∷ [];
}

-- a lane whose next callback ran, from what the lane has
abbrev pub run_next : Ready → BufferState → BufferState
run_next one lane = after_next one (apart_with one (polled_work one.cause lane.waiting) lane.variables) lane
