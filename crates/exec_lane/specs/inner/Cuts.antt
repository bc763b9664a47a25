-- A ready list that is cut into lanes.
use Rattle.std.specs.Prelude.{◌≡◌, ℕ, ◌+◌, List, [], ◌∷◌, ◌++◌, length, map, Bool, false, ◌&&◌, ◌==◌, if◌then◌else◌, Option, None}
use Rattle.std.specs.List.{list_any}
use Rattle.exec_plan.specs.Graph.{GroupNo}
use Rattle.exec_lane.specs.Lane.{Lane, LaneCallback, entry_in, goes_into, variables_for_lane, without_task}
use Rattle.exec_lane.specs.inner.Buffered.{ArePlacesOf, callbacks_at}
use Rattle.exec_msg.specs.Lists.{change_first}
use Rattle.exec_rules.specs.World.{WorldState}
use Rattle.exec_rules.specs.declared.ready.Cause.{Cause}
use Rattle.exec_rules.specs.declared.ready.Cause.TheVariants as cause
use Rattle.exec_rules.specs.declared.ready.Ready.{Ready}
use Rattle.exec_msg.specs.Places.{first_place, place_under}
use Rattle.exec_world.specs.inner.Buffers.{BufferState}

-- a ready list, and the lanes into which its first callbacks are cut
pub record CutState : Type 0 where
  pub list : List Ready
  pub lanes : List (List LaneCallback)

-- the callbacks of entries
abbrev pub callbacks_of : List LaneCallback → List Ready
callbacks_of entries = map (λ entry. entry.ready) entries

-- whether an entry goes into a lane of entries
abbrev pub takes : LaneCallback → List LaneCallback → Bool
takes entry lane = goes_into entry.ready (callbacks_of lane)

-- a lane with one more entry
abbrev pub lane_with : LaneCallback → List LaneCallback → List LaneCallback
lane_with entry lane = lane ++ entry ∷ []

-- the lanes with one more entry: it goes into the lane of its group, and begins one where there is none
abbrev pub with_entry : List (List LaneCallback) → LaneCallback → List (List LaneCallback)
with_entry lanes entry = if list_any (takes entry) lanes then change_first (takes entry) (lane_with entry) lanes else lanes ++ (entry ∷ []) ∷ []

-- whether a lane is that of a mutually exclusive group
abbrev pub is_lane_of : GroupNo → List LaneCallback → Bool
is_lane_of group [] = false
is_lane_of group (first ∷ lane) = first.ready.exclusive && (group == first.ready.group)

-- a look-up by a mutually exclusive group gives the place of its first lane
abbrev pub FindsLanes : List (Option ℕ) → List (List LaneCallback) → Type 0
FindsLanes places lanes = (group : GroupNo) → place_under group places ≡ first_place (is_lane_of group) lanes

-- the place of the lane that a callback goes into
abbrev pub place_for : Ready → List (List LaneCallback) → Option ℕ
place_for one lanes = if one.exclusive then first_place (is_lane_of one.group) lanes else None

-- lanes to which callbacks are added one after another, each with its task, which is then out of the world
abbrev pub cut_from : List (List LaneCallback) → List Ready → WorldState → List (List LaneCallback)
cut_from lanes [] world = lanes
cut_from lanes (one ∷ list) world = cut_from (with_entry lanes (entry_in world one)) list (without_task one.entity one.cause world)

-- a lane of entries, opened with its group's variables as the world has them
abbrev pub opened_entries : WorldState → List LaneCallback → Lane
opened_entries world entries = record { variables = variables_for_lane world (callbacks_of entries); entries = entries; done = 0; failed = false }

-- ---- buffers in which lanes are cut

-- how many goals these callbacks poll
abbrev pub polls_by : Cause → ℕ
polls_by (cause.Woke id value canceling) = 1
polls_by _ = 0

abbrev pub polls_in : List Ready → ℕ
polls_in [] = 0
polls_in (one ∷ list) = polls_by one.cause + polls_in list

-- none of a buffer's callbacks ran, and it has a work for each that polls a goal
pub record IsUnrun (list : List Ready) (buffer : BufferState) : Type 0 where
  pub places : ArePlacesOf list buffer.places
  pub works : length buffer.waiting ≡ polls_in (callbacks_at list buffer.places)
  pub polled : buffer.polled ≡ []
  pub did : buffer.did ≡ []
