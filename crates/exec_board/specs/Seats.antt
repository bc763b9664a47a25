-- What the callers of a board know: each pass has a view, which its calls alone change. A view exists in proofs alone.
use Rattle.std.specs.Prelude.{◌≡◌, ℕ, ◌+◌, ◌/◌, ◌-◌, max, List, [], ◌∷◌, ◌++◌, length, map, Option, None, Some, if◌then◌else◌, ◌==◌, slice_set, unwrap_or}
use Rattle.exec_lane.specs.Lane.{Lane}
use Rattle.exec_lane.specs.Opening.{opened_lane}
use Rattle.exec_board.specs.declared.rule.TheConstants.{FINISHED}

-- a lane that a pass holds, and how many of its callbacks had run when it was claimed
pub record Hold : Type 0 where
  pub lane : ℕ
  pub start : ℕ

-- callbacks of a lane that ran between a claim and its release: those from `first` up to, not including, `end`
pub record Segment : Type 0 where
  pub lane : ℕ
  pub first : ℕ
  pub end : ℕ

-- a claim that was refused, and the word that it found: that of a lane that is held, or finished
pub record Refusal : Type 0 where
  pub lane : ℕ
  pub word : ℕ

-- what the caller with a pass knows: the lanes with which the board was opened, the most passes that may stand at once, how
-- many callbacks of each lane it saw to have run, its share of the numbers of passes (from `start` up to, not including,
-- `stop`), the lanes that it holds, the last one first, and what it ran and was refused, the last one last
pub record SeatView : Type 0 where
  pub opening : List Lane
  pub passes : ℕ
  pub seen : List ℕ
  pub start : ℕ
  pub stop : ℕ
  pub holds : List Hold
  pub segments : List Segment
  pub busy : List Refusal

-- the view of a pass that was joined to another
abbrev pub nobody : SeatView
nobody = record { opening = []; passes = 0; seen = []; start = 0; stop = 0; holds = []; segments = []; busy = [] }

-- the view of the first pass
abbrev pub opener : List Lane → ℕ → SeatView
opener opening passes =
    record {
      opening = opening;
      passes = passes;
      seen = map (λ (lane : Lane). lane.done) opening;
      start = 0;
      stop = passes;
      holds = [];
      segments = [];
      busy = [];
    }

-- a pass is the last one: it has all numbers, so no other pass stands beside it
abbrev pub IsLast : SeatView → Type 0
IsLast view = (view.start ≡ 0) × (view.stop ≡ view.passes)

-- ---- what calls change

-- a claim was won: the pass holds the lane from this count
abbrev pub holding : ℕ → ℕ → SeatView → SeatView
holding lane count view = record view { holds = record { lane = lane; start = count } ∷ view.holds }

-- how many callbacks of a lane a caller has seen to have run when it found this word: all of them where it is finished
abbrev pub seen_at : ℕ → ℕ → SeatView → List ℕ
seen_at lane word view = if word == FINISHED then slice_set view.seen lane (length (opened_lane view.opening lane).entries) else view.seen

-- a claim was refused with this word
abbrev pub refused : ℕ → ℕ → SeatView → SeatView
refused lane word view = record view { seen = seen_at lane word view; busy = view.busy ++ record { lane = lane; word = word } ∷ [] }

-- from which count a lane is held
abbrev pub start_of : ℕ → List Hold → Option ℕ
start_of lane [] = None
start_of lane (hold ∷ holds) = if hold.lane == lane then Some hold.start else start_of lane holds

-- the holds without that of a lane
abbrev pub without : ℕ → List Hold → List Hold
without lane [] = []
without lane (hold ∷ holds) = if hold.lane == lane then holds else hold ∷ without lane holds

-- a pass holds a lane from a count
abbrev pub Holds : SeatView → ℕ → ℕ → Type 0
Holds view lane count = start_of lane view.holds ≡ Some count

-- what a pass ran of a lane that it held, where this many callbacks have run
abbrev pub segment_of : ℕ → ℕ → SeatView → Segment
segment_of lane count view = record { lane = lane; first = unwrap_or (start_of lane view.holds) 0; end = count }

-- a lane was released at this count: the hold has become a segment
abbrev pub released_lane : ℕ → ℕ → SeatView → SeatView
released_lane lane count view =
    record view { seen = slice_set view.seen lane count; holds = without lane view.holds; segments = view.segments ++ segment_of lane count view ∷ [] }

-- ---- split and join

-- where a share is cut
abbrev pub middle : SeatView → ℕ
middle view = view.start + (view.stop - view.start) / 2

-- the pass with the front half of a share, which keeps the segments and refusals
abbrev pub front_half : SeatView → SeatView
front_half view = record view { stop = middle view }

-- the pass with the other half
abbrev pub back_half : SeatView → SeatView
back_half view = record view { start = middle view; holds = []; segments = []; busy = [] }

-- of two counts of each lane the greater
abbrev pub greater : List ℕ → List ℕ → List ℕ
greater (count ∷ counts) (other ∷ others) = max count other ∷ greater counts others
greater _ _ = []

-- two passes joined
abbrev pub together : SeatView → SeatView → SeatView
together front back =
    record front { seen = greater front.seen back.seen; stop = back.stop; segments = front.segments ++ back.segments; busy = front.busy ++ back.busy }
