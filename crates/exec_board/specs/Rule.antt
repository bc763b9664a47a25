-- The rule of a board: how words, boxes and what all passes know hang together between any two atomic steps.
use Rattle.std.specs.Prelude.{◌≡◌, ◌≢◌, ⊤, ℕ, suc, ◌+◌, ◌-◌, ◌<◌, ◌≤◌, List, [], ◌∷◌, length, Option, Some, slice_index}
use mathlib.Core.Option.{some, none}
use mathlib.Core.Option as place
use lib.ListN.{get_elem?}
use Rattle.atomic_table.specs.Table.{State}
use Rattle.exec_lane.specs.Lane.{Lane}
use Rattle.exec_lane.specs.Opening.{IsLaneOf, opened_lane}
use Rattle.exec_board.specs.declared.rule.TheConstants.{FINISHED, HELD, OPEN}
use Rattle.exec_board.specs.Seats.{Hold, SeatView, Segment, nobody}

-- ---- counting, by sums of numbers that are 0 or 1

-- a number of each element, added up
abbrev pub tally : {A : Type 0} → (A → ℕ) → List A → ℕ
tally number [] = 0
tally number (x ∷ xs) = number x + tally number xs

-- how far two numbers are from one another
abbrev pub gap : ℕ → ℕ → ℕ
gap a b = (a - b) + (b - a)

-- 1 where two numbers are equal, else 0
abbrev pub is_same : ℕ → ℕ → ℕ
is_same a b = 1 - gap a b

-- 1 where first ≤ x and x < end, else 0
abbrev pub in_range : ℕ → ℕ → ℕ → ℕ
in_range first end x = (1 - (first - x)) - (suc x - end)

-- 1 where a callback, by its place from 0, of a lane is of a segment, else 0
abbrev pub in_segment : ℕ → ℕ → Segment → ℕ
in_segment lane place segment = in_range segment.first segment.end place - gap segment.lane lane

-- how often a pass holds a lane
abbrev pub held : ℕ → SeatView → ℕ
held lane view = tally (λ (hold : Hold). is_same hold.lane lane) view.holds

-- how many segments of a pass have a callback
abbrev pub covered : ℕ → ℕ → SeatView → ℕ
covered lane place view = tally (in_segment lane place) view.segments

-- 1 where a number is of the share of a pass, else 0
abbrev pub has_number : ℕ → SeatView → ℕ
has_number number view = in_range view.start view.stop number

-- ---- lanes

-- what the table says of a slot: none where there is no such slot, some none while a seat holds it, and what lies in it where it
-- is at home, a box or nothing
abbrev pub Home : Type 0
Home = place.Option (place.Option (Option Lane))

-- a box is at home: it is that of the lane, and this many of its callbacks ran
abbrev pub IsHome : Lane → ℕ → Home → Type 0
IsHome first count home = (box : Lane) × (home ≡ some (some (Some box))) × IsLaneOf first box × (box.done ≡ count)

-- A lane, by what it was when the board was opened and how many of its callbacks have run: its word says whether it is open, held
-- or finished. While it is held, one pass holds it, once, and its slot is out; otherwise none does, and its box lies in its slot.
-- Each callback that ran since the board was opened is of exactly one segment of all passes, and no other callback of the lane is
-- of any.
pub record LaneOk (first : Lane) (count word : ℕ) (home : Home) (holders : ℕ) (cover : ℕ → ℕ) : Type 0 where
  pub known : word ≤ FINISHED
  pub since : first.done ≤ count
  pub within : count ≤ length first.entries
  pub at_home : word ≢ HELD → IsHome first count home
  pub out : word ≡ HELD → home ≡ some none
  pub unfinished : word ≡ OPEN → count < length first.entries
  pub finished : word ≡ FINISHED → count ≡ length first.entries
  pub one_holder : word ≡ HELD → holders ≡ 1
  pub no_holder : word ≢ HELD → holders ≡ 0
  pub whole : (callback : ℕ) → cover callback ≡ in_range first.done count callback

-- ---- passes

-- held lanes are lanes of the board, each held from the count at which it stands
abbrev pub AreHeld : ℕ → (ℕ → ℕ) → List Hold → Type 0
AreHeld lanes count [] = ⊤
AreHeld lanes count (hold ∷ holds) = (hold.lane < lanes) × (hold.start ≡ count hold.lane) × AreHeld lanes count holds

-- what a pass with a share knows is true
pub record LiveOk (lanes : List Lane) (most : ℕ) (count : ℕ → ℕ) (view : SeatView) : Type 0 where
  pub same_opening : view.opening ≡ lanes
  pub same_passes : view.passes ≡ most
  pub within : view.stop ≤ most
  pub sized : length view.seen ≡ length lanes
  pub ran : (lane : ℕ) → lane < length lanes → slice_index view.seen lane ≤ count lane
  pub held_so : AreHeld (length lanes) count view.holds

-- a pass has a share and knows what is true, or was joined to another
pub record ViewOk (lanes : List Lane) (most : ℕ) (count : ℕ → ℕ) (view : SeatView) : Type 0 where
  pub spent : view.stop ≤ view.start → view ≡ nobody
  pub live : view.start < view.stop → LiveOk lanes most count view

-- ---- the rule

-- All passes know one opening, each lane is as its word says, and no number is of two shares.
pub record BoardRule (s : State (Option Lane) SeatView) : Type 0 where
  pub opening : List Lane
  pub most : ℕ
  pub count : ℕ → ℕ
  pub words_are : length s.words ≡ length opening
  pub homes_are : length s.homes ≡ length opening
  pub lanes_ok : (lane : ℕ) → lane < length opening →
      LaneOk (opened_lane opening lane) (count lane) (slice_index s.words lane) (get_elem? s.homes lane)
      (tally (held lane) s.views) (λ callback. tally (covered lane callback) s.views)
  pub views_ok : (seat : ℕ) (view : SeatView) → get_elem? s.views seat ≡ some view → ViewOk opening most count view
  pub disjoint : (number : ℕ) → tally (has_number number) s.views ≤ 1
