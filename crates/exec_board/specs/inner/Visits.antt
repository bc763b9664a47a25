-- One visit to a lane, and one to each lane.
use Rattle.std.specs.Prelude.{◌≡◌, ℕ, ◌+◌, ◌-◌, ◌<◌, ◌≤◌, Bool, true, false, List, [], ◌∷◌, ◌++◌, length, map, slice_index, slice_set, IsErr}
use Rattle.std.specs.declared.result.Result.{Result}
use Rattle.std.specs.declared.result.Result.TheVariants.{Ok, Err}
use Rattle.exec_lane.specs.Lane.{Lane}
use Rattle.exec_lane.specs.Opening.{IsLaneOf, opened_lane}
use Rattle.exec_msg.specs.declared.memory.Memory.{Memory}
use Rattle.exec_board.specs.declared.rule.TheConstants.{FINISHED, HELD}
use Rattle.exec_board.specs.Rule.{held}
use Rattle.exec_board.specs.Seats.{IsLast, Refusal, SeatView, refused}
use Rattle.exec_board.specs.Sweeps.{FirstSeen, GotOn, IsSwept, numbers}

-- callbacks of a lane ran: at most so many, and at least one where none was refused memory; where one was, the lane has failed
-- with callbacks left
pub record HasRunSome (quantum : ℕ) (before after : Lane) (ended : Result Unit Memory) : Type 0 where
  pub same : IsLaneOf before after
  pub since : before.done ≤ after.done
  pub few : after.done ≤ before.done + quantum
  pub within : after.done ≤ length after.entries
  pub some : ended ≡ Ok tt → before.done < after.done
  pub failed : IsErr ended → (after.failed ≡ true) × (after.done < length after.entries)

-- the view after a lane was claimed at one count and released at another
abbrev pub worked : ℕ → ℕ → ℕ → SeatView → SeatView
worked lane first end view =
    record view { seen = slice_set view.seen lane end; segments = view.segments ++ record { lane = lane; first = first; end = end } ∷ [] }

-- a lane was claimed, run and released
pub record HasWorked (lane quantum : ℕ) (before after : SeatView) : Type 0 where
  pub first : ℕ
  pub end : ℕ
  pub is : after ≡ worked lane first end before
  pub seen : slice_index before.seen lane ≤ first
  pub since : first ≤ end
  pub few : end ≤ first + quantum
  pub within : end ≤ length (opened_lane before.opening lane).entries

-- and a callback ran
pub record HasGotOn (lane quantum : ℕ) (before after : SeatView) : Type 0 where
  pub work : HasWorked lane quantum before after
  pub some : work.first < work.end

-- or one was refused memory, and callbacks are left
pub record HasStopped (lane quantum : ℕ) (before after : SeatView) : Type 0 where
  pub work : HasWorked lane quantum before after
  pub short : work.end < length (opened_lane before.opening lane).entries

-- or the claim was refused
pub record WasRefused (lane : ℕ) (before after : SeatView) : Type 0 where
  pub word : ℕ
  pub is : after ≡ refused lane word before
  pub known : (word ≡ HELD → ⊥) → word ≡ FINISHED
  pub held_so : word ≡ HELD → IsLast before → held lane before ≡ 1

-- a visit, by what it answered
abbrev pub Visited : ℕ → ℕ → SeatView → SeatView → Result Bool Memory → Type 0
Visited lane quantum before after (Ok true) = HasGotOn lane quantum before after
Visited lane quantum before after (Ok false) = WasRefused lane before after
Visited lane quantum before after (Err memory) = HasStopped lane quantum before after

-- how many callbacks of lanes weren't seen to have run
abbrev pub left_in : List Lane → List ℕ → ℕ
left_in [] counts = 0
left_in (lane ∷ lanes) [] = length lane.entries + left_in lanes []
left_in (lane ∷ lanes) (count ∷ counts) = (length lane.entries - count) + left_in lanes counts

abbrev pub left_for : SeatView → ℕ
left_for view = left_in view.opening view.seen

-- a visit to each lane has come to this one, and has claimed one of those before it or not
pub record Turning (lane quantum : ℕ) (claimed : Bool) (before after : SeatView) : Type 0 where
  pub swept : IsSwept quantum before after
  pub less : left_for after ≤ left_for before
  pub gone_on : claimed ≡ true → left_for after < left_for before
  pub refused_all : claimed ≡ false → (last : List Refusal) × (after.busy ≡ before.busy ++ last)
      × (map (λ (refusal : Refusal). refusal.lane) last ≡ numbers lane)
  pub seen_all : claimed ≡ false → IsLast before → FirstSeen lane after
  pub got_on : GotOn before after
