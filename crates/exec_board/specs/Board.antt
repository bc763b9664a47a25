-- What the calls of a board promise.
use Rattle.std.specs.Prelude.{◌≡◌, ℕ, ◌<◌, ◌≤◌, List, length, map, Option, None, slice_index}
use Rattle.atomic_table.specs.Seated.{TableId}
use Rattle.exec_lane.specs.Lane.{Lane}
use Rattle.exec_lane.specs.Opening.{IsLaneOf, opened_lane}
use Rattle.exec_board.specs.Plays.{IsBoxOf}
use Rattle.exec_board.specs.Rule.{covered, in_range}
use Rattle.exec_board.specs.Seats.{Hold, Holds, SeatView}
use Rattle.exec_board.specs.declared.claim.Busy.{Busy}
use Rattle.exec_board.specs.declared.claim.Busy.TheVariants as busy
use Rattle.exec_board.specs.declared.rule.TheConstants.{FINISHED, HELD}

-- a pass: its board, and what its caller knows
pub record PassView : Type 0 where
  pub board : TableId
  pub view : SeatView

-- a claim: its board, its lane, the count at which the lane was claimed, and the lane as it stands
pub record ClaimView : Type 0 where
  pub board : TableId
  pub lane : ℕ
  pub start : ℕ
  pub work : Lane

-- the slot of a lane that a pass holds; while the claim stands, its box lies in the claim
abbrev pub held_slot : Hold → ℕ × Option Lane
held_slot hold = (hold.lane, None)

abbrev pub held_slots : List Hold → List (ℕ × Option Lane)
held_slots holds = map held_slot holds

-- a seat is that of a pass with this share: it has the slots of the lanes that it holds, and its share isn't empty
pub record IsSeated (board : TableId) (view : SeatView) (slots : List (ℕ × Option Lane)) (start stop : ℕ) : Type 0 where
  pub start_is : start ≡ view.start
  pub stop_is : stop ≡ view.stop
  pub some_share : view.start < view.stop
  pub slots_are : slots ≡ held_slots view.holds
  pub as_many : length view.opening ≡ board.words
  pub sized : length view.seen ≡ board.words

-- a pass has seen a count for each lane of its board
pub record IsSized (board : TableId) (view : SeatView) : Type 0 where
  pub opening : length view.opening ≡ board.words
  pub seen : length view.seen ≡ board.words

-- the word for a refusal
abbrev pub busy_word : Busy → ℕ
busy_word busy.Held = HELD
busy_word busy.Finished = FINISHED

-- a claim was won: it is of the lane, with its box
pub record IsClaimOf (view : SeatView) (number : ℕ) (claim : ClaimView) : Type 0 where
  pub lane : claim.lane ≡ number
  pub start : claim.start ≡ claim.work.done
  pub work : IsBoxOf view number claim.work

-- a claim may be released by a pass: the pass made it, and the box in it is still the lane's and has lost no callback
pub record MayRelease (view : SeatView) (claim : ClaimView) : Type 0 where
  pub held : Holds view claim.lane claim.start
  pub work : IsLaneOf (opened_lane view.opening claim.lane) claim.work
  pub count : claim.start ≤ claim.work.done

-- a box is a lane's at the end: at least as many callbacks ran as the pass has seen; each that ran since the board was opened is
-- of exactly one of the pass's segments, and no other callback of the lane is of any
pub record IsClosedLane (view : SeatView) (number : ℕ) (lane : Lane) : Type 0 where
  pub same : IsLaneOf (opened_lane view.opening number) lane
  pub within : lane.done ≤ length lane.entries
  pub seen : slice_index view.seen number ≤ lane.done
  pub whole : (callback : ℕ) → covered number callback view ≡ in_range (opened_lane view.opening number).done lane.done callback

-- boxes are those of all lanes, in their order
pub record AreClosed (view : SeatView) (lanes : List Lane) : Type 0 where
  pub as_many : length lanes ≡ length view.opening
  pub each : (number : ℕ) → number < length lanes → IsClosedLane view number (opened_lane lanes number)
