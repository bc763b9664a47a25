-- Lanes as they are kept in buffers, which have the places of their callbacks in the ready list.
use Rattle.std.specs.Prelude.{◌≡◌, ℕ, ◌<◌, ◌≤◌, List, [], ◌∷◌, length, map, take, slice_index_or, false, Option, None}
use Rattle.std.specs.List.{AllByRecursion, fold}
use Rattle.exec_lane.specs.Gather.{Ran, all_ran}
use Rattle.exec_lane.specs.Lane.{LaneCallback, task_home}
use Rattle.exec_rules.specs.Run.{with_variables_for}
use Rattle.exec_rules.specs.World.{GoalWork, WorldState}
use Rattle.exec_rules.specs.declared.ready.Cause.TheVariants as cause
use Rattle.exec_rules.specs.declared.ready.Ready.{Ready}
use Rattle.exec_script.specs.Script.{Variables}
use Rattle.exec_world.specs.inner.Buffers.{BufferState, polled_work, run_next, unpolled_works}

-- ---- the callbacks at places

-- a callback for a place that the ready list doesn't have
abbrev pub no_callback : Ready
no_callback = record { position = 0; entity = 0; group = 0; exclusive = false; moment = 0; cause = cause.Due; candidates = []; script = None }

abbrev pub callback_at : List Ready → ℕ → Ready
callback_at list place = slice_index_or list place no_callback

abbrev pub callbacks_at : List Ready → List ℕ → List Ready
callbacks_at list places = map (callback_at list) places

-- the callback that is this one among those at places, from 0
abbrev pub nth_callback : List Ready → List ℕ → ℕ → Ready
nth_callback list places index = slice_index_or (callbacks_at list places) index no_callback

-- each place is one of the list
abbrev pub ArePlacesOf : List Ready → List ℕ → Type 0
ArePlacesOf list places = AllByRecursion (λ place. place < length list) places

-- ---- a lane and its buffer

-- callbacks with the works of the goals that they poll, one after another
abbrev pub entries_with : List Ready → List (Option GoalWork) → List LaneCallback
entries_with [] works = []
entries_with (one ∷ list) works = record { ready = one; work = polled_work one.cause works } ∷ entries_with list (unpolled_works one.cause works)

-- the callbacks of a buffer of which none ran
abbrev pub entries_in : List Ready → BufferState → List LaneCallback
entries_in list buffer = entries_with (callbacks_at list buffer.places) buffer.waiting

-- a buffer after its first callbacks ran, so many of them
abbrev pub run_first : ℕ → List Ready → BufferState → BufferState
run_first count list buffer = fold (λ before one. run_next one before) buffer (take count list)

-- a buffer has what so many of a lane's callbacks leave that was opened with another
pub record IsBuffered (list : List Ready) (first buffer : BufferState) (done : ℕ) : Type 0 where
  pub places : ArePlacesOf list first.places
  pub polled : first.polled ≡ []
  pub did : first.did ≡ []
  pub within : done ≤ length first.places
  pub run : buffer ≡ run_first done (callbacks_at list first.places) first

-- ---- what a buffer brings home

-- the world in which the variables of callbacks' group are home
abbrev pub bank_home : List Ready → Variables → WorldState → WorldState
bank_home [] variables world = world
bank_home (first ∷ list) variables world = with_variables_for first variables world

-- the world in which the works of the goals that callbacks poll are home, as they are now
abbrev pub works_home : List Ready → List (Option GoalWork) → WorldState → WorldState
works_home [] works world = world
works_home (one ∷ list) works world =
    works_home list (unpolled_works one.cause works) (task_home one.entity one.cause (polled_work one.cause works) world)

-- the callbacks of a buffer that ran
abbrev pub ran_from : List Ready → BufferState → List Ran
ran_from list buffer = all_ran (callbacks_at list buffer.places) buffer.did
