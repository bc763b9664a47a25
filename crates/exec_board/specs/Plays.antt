-- What each atomic step on a lane's word tells the pass that makes it.
use Rattle.std.specs.Prelude.{◌≡◌, ◌≢◌, ℕ, ◌<◌, ◌≤◌, List, [], ◌∷◌, length, Option, None, Some, slice_index}
use mathlib.Core.Option.{some}
use lib.ListN.{get_elem?}
use Rattle.atomic_table.specs.Table.{Me, Step, rest}
use Rattle.exec_lane.specs.Lane.{Lane}
use Rattle.exec_lane.specs.Opening.{IsLaneOf, opened_lane}
use Rattle.exec_board.specs.Rule.{covered, held, in_range, tally}
use Rattle.exec_board.specs.declared.rule.TheConstants.{FINISHED, HELD, OPEN}
use Rattle.exec_board.specs.Seats.{IsLast, SeatView, holding, refused, released_lane}

-- a lane was whole up to a count: over all passes that there were, this one among them, each callback from the opening's count
-- up to, not including, that one was of exactly one segment, and no other callback of the lane was of any
abbrev pub WasWhole : SeatView → ℕ → ℕ → Type 0
WasWhole view lane count =
    (views : List SeatView) × (seat : ℕ) × (get_elem? views seat ≡ some view)
    × ((callback : ℕ) → tally (covered lane callback) views ≡ in_range (opened_lane view.opening lane).done count callback)

-- a box is that of a lane as it was last released, or as it was opened
pub record IsBoxOf (view : SeatView) (lane : ℕ) (box : Lane) : Type 0 where
  pub same : IsLaneOf (opened_lane view.opening lane) box
  pub unfinished : box.done < length box.entries
  pub since : (opened_lane view.opening lane).done ≤ box.done
  pub seen : slice_index view.seen lane ≤ box.done
  pub whole : WasWhole view lane box.done
  pub alone : IsLast view → (callback : ℕ) → covered lane callback view ≡ in_range (opened_lane view.opening lane).done box.done callback

-- the seat, which didn't hold the lane, has taken its slot, in which its box lies, and holds it from the box's count
abbrev pub Won : ℕ → Me (Option Lane) SeatView → Me (Option Lane) SeatView → Type 0
Won lane before after =
    (box : Lane) × (after ≡ (holding lane box.done before.0, (lane, Some box) ∷ before.1))
    × IsBoxOf before.0 lane box × (held lane before.0 ≡ 0)

-- the seat was refused with this word: the last pass isn't told that a lane is held, but where it holds the lane itself, and no
-- pass is told that a lane which it holds is finished
abbrev pub Lost : ℕ → ℕ → Me (Option Lane) SeatView → Me (Option Lane) SeatView → Type 0
Lost lane word before after =
    (word ≤ FINISHED) × (after ≡ (refused lane word before.0, before.1))
    × (word ≡ HELD → IsLast before.0 → held lane before.0 ≡ 1) × (word ≡ FINISHED → held lane before.0 ≡ 0)

-- a claim: it is won if the lane was open
abbrev pub claimed : Step (Option Lane) → Me (Option Lane) SeatView → ℕ → Me (Option Lane) SeatView → Type 0
claimed step before word after = (word ≡ OPEN → Won step.word before after) × (word ≢ OPEN → Lost step.word word before after)

-- the count of the box in the slot that a seat took last
abbrev pub done_in : List (ℕ × Option Lane) → ℕ
done_in [] = 0
done_in ((slot, None) ∷ others) = 0
done_in ((slot, Some box) ∷ others) = box.done

-- a release: the slot that the seat took last is home with the box in it
abbrev pub released : Step (Option Lane) → Me (Option Lane) SeatView → ℕ → Me (Option Lane) SeatView → Type 0
released step before word after = after ≡ (released_lane step.word (done_in before.1) before.0, rest before.1)
