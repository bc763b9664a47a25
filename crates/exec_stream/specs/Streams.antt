-- How runners of a streamed round run lanes and send on what the callbacks did.
use Rattle.std.specs.Prelude.{◌≡◌, ℕ, ◌-◌, ◌≤◌, All, List, [], length, IsPermutation}
use Rattle.std.specs.List.{flat_map, range_with_len, slice_get}
use Rattle.std.specs.Option.{option_to_list}
use Rattle.atomic_table.specs.Seated.{TableId}
use Rattle.exec_board.specs.Seats.{SeatView, Segment}
use Rattle.exec_lane.specs.Gather.{outcomes_in}
use Rattle.exec_lane.specs.Lane.{Lane}
use Rattle.exec_lane.specs.Opening.{IsLaneOf, opened_lane}
use Rattle.exec_lane.specs.declared.outcome.Outcome.{Outcome}
use Rattle.exec_stream.specs.declared.streaming.Runner.{Runner}
use Rattle.exec_stream.specs.Sending.{MaySend, sent_by}
use Rattle.exec_board.specs.Sweeps.{IsSweptPass}

-- what a list has at places, so many from this one on
abbrev pub items_from : {A : Type 0} → List A → ℕ → ℕ → List A
items_from xs first count = flat_map (λ (i : ℕ). option_to_list (slice_get xs i)) (range_with_len first count)

-- what all callbacks of a lane do
abbrev pub all_outcomes : Lane → List Outcome
all_outcomes lane = outcomes_in (record lane { done = length lane.entries })

-- what the callbacks of a lane do from one place, from 0, up to, not including, another
abbrev pub outcomes_between : Lane → ℕ → ℕ → List Outcome
outcomes_between lane first end = items_from (all_outcomes lane) first (end - first)

-- what the callbacks of a segment did, and all that a pass ran
abbrev pub outcomes_of : List Lane → Segment → List Outcome
outcomes_of opening segment = outcomes_between (opened_lane opening segment.lane) segment.first segment.end

abbrev pub outcomes_by : SeatView → List Outcome
outcomes_by view = flat_map (outcomes_of view.opening) view.segments

-- a lane went on: it is the lane that it was, and as many callbacks ran or more
pub record GoesOn (before after : Lane) : Type 0 where
  pub same : IsLaneOf before after
  pub since : before.done ≤ after.done
  pub within : after.done ≤ length after.entries

-- a runner stands at a board and at a queue, and holds no lane
pub record IsRunnerAt (board queue : TableId) (runner : Runner) : Type 0 where
  pub seat : runner.pass.board ≡ board
  pub holds : runner.pass.view.holds ≡ []
  pub sends : MaySend queue runner.sender

-- it kept its share of the passes and its parts of the queue
pub record KeepsShare (before after : Runner) : Type 0 where
  pub pass : IsSweptPass before.pass.view after.pass.view
  pub parts : after.sender.hand.parts ≡ before.sender.hand.parts

-- it put or kept what all callbacks did that its pass ran, and took nothing
pub record HasSentAll (runner : Runner) : Type 0 where
  pub took : runner.sender.hand.took ≡ []
  pub all : IsPermutation (outcomes_by runner.pass.view) (sent_by runner.sender)

-- it has run nothing, and put and kept nothing
pub record HasNotBegun (runner : Runner) : Type 0 where
  pub segments : runner.pass.view.segments ≡ []
  pub put : runner.sender.hand.put ≡ []
  pub took : runner.sender.hand.took ≡ []
  pub kept : runner.sender.kept ≡ []

-- it may begin: it has run nothing, and as many parts of the queue as numbers of passes, at least
pub record MayBegin (board queue : TableId) (runner : Runner) : Type 0 where
  pub at : IsRunnerAt board queue runner
  pub begun : HasNotBegun runner
  pub parts : runner.pass.view.stop - runner.pass.view.start ≤ runner.sender.hand.parts

-- no callback of a lane ran
abbrev pub AreUnrun : List Lane → Type 0
AreUnrun lanes = All (λ (lane : Lane). lane.done ≡ 0) lanes
