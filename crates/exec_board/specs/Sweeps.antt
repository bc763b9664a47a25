-- What a caller that goes over the lanes of a board again and again comes to know.
use Rattle.std.specs.Prelude.{◌≡◌, ◌⊎◌, ℕ, zero, suc, ◌+◌, ◌<◌, ◌≤◌, List, [], ◌∷◌, ◌++◌, All, length, map, slice_index}
use Rattle.exec_lane.specs.Opening.{opened_lane}
use Rattle.exec_board.specs.Seats.{IsLast, Refusal, SeatView, Segment}
use Rattle.exec_board.specs.declared.rule.TheConstants.{FINISHED, HELD}

-- a segment has at most so many callbacks
abbrev pub IsWithinQuantum : ℕ → Segment → Type 0
IsWithinQuantum quantum segment = segment.end ≤ segment.first + quantum

-- a segment has a callback
abbrev pub HasSome : Segment → Type 0
HasSome segment = segment.first < segment.end

-- a refused claim found its lane held or finished
abbrev pub IsBusy : Refusal → Type 0
IsBusy refusal = (refusal.word ≡ HELD) ⊎ (refusal.word ≡ FINISHED)

-- a pass kept its share and holds no lane, and to what it had it added segments, each of at most so many callbacks, and refusals
pub record IsSwept (quantum : ℕ) (before after : SeatView) : Type 0 where
  pub opening : after.opening ≡ before.opening
  pub passes : after.passes ≡ before.passes
  pub start : after.start ≡ before.start
  pub stop : after.stop ≡ before.stop
  pub holds : after.holds ≡ []
  pub sized : length after.seen ≡ length before.seen
  pub ran : (segments : List Segment) × (after.segments ≡ before.segments ++ segments) × All (IsWithinQuantum quantum) segments
  pub asked : (refusals : List Refusal) × (after.busy ≡ before.busy ++ refusals) × All IsBusy refusals

-- a pass whose caller swept a board, or had others sweep it, kept its opening and its share, and holds no lane
pub record IsSweptPass (before after : SeatView) : Type 0 where
  pub opening : after.opening ≡ before.opening
  pub passes : after.passes ≡ before.passes
  pub start : after.start ≡ before.start
  pub stop : after.stop ≡ before.stop
  pub holds : after.holds ≡ []

-- the numbers from 0 up to, not including, this one
abbrev pub numbers : ℕ → List ℕ
numbers zero = []
numbers (suc n) = numbers n ++ n ∷ []

-- the last refusals that were added are those of so many lanes, one after another from 0
abbrev pub EndsRefused : ℕ → SeatView → SeatView → Type 0
EndsRefused lanes before after =
    (others : List Refusal) × (last : List Refusal) × (after.busy ≡ before.busy ++ others ++ last)
    × (map (λ (refusal : Refusal). refusal.lane) last ≡ numbers lanes)

-- a pass has seen all callbacks of the first so many lanes to have run
abbrev pub FirstSeen : ℕ → SeatView → Type 0
FirstSeen lanes view = (lane : ℕ) → lane < lanes → slice_index view.seen lane ≡ length (opened_lane view.opening lane).entries

-- and of all lanes
abbrev pub AllSeen : SeatView → Type 0
AllSeen view = FirstSeen (length view.opening) view

-- a pass has seen a lane of which callbacks are left
abbrev pub LeavesSome : SeatView → Type 0
LeavesSome view = (lane : ℕ) × (lane < length view.opening) × (slice_index view.seen lane < length (opened_lane view.opening lane).entries)

-- a pass added segments, each of which has a callback
abbrev pub GotOn : SeatView → SeatView → Type 0
GotOn before after = (segments : List Segment) × (after.segments ≡ before.segments ++ segments) × All HasSome segments

-- it came round without a claim, and ran a callback each time that it had claimed a lane
pub record EndsSweep (lanes : ℕ) (before after : SeatView) : Type 0 where
  pub refused : EndsRefused lanes before after
  pub got_on : GotOn before after
  pub seen : IsLast before → AllSeen after
