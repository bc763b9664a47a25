-- What a closed table gives to the last pass.
use Rattle.std.proofs.Common.{◌≡◌, ◌≢◌, ℕ, zero, suc, ◌+◌, ◌<◌, ◌≤◌, Bool, true, false, List, [], ◌∷◌, ◌++◌, length, map, take, sym, refl, ap, subst, ◌∙◌, arith}
use Rattle.std.specs.Prelude.{Option, None, Some, slice_index, slice_index_or, slice_set, unwrap_or}
use mathlib.Core.Option.{some, some-injective, some-ne-none}
use mathlib.Core.Logic.{dite}
use native.Mathlib.Decide.{dec_le, ℕ_discrete}
use lib.ListN.{get_elem?}
use Rattle.atomic_table.specs.Table.{Final, Seen, State}
use Rattle.exec_lane.specs.Lane.{AreFinished, IsFinished, Lane}
use Rattle.exec_lane.specs.Opening.{IsLaneOf, no_lane, opened_lane}
use Rattle.exec_board.specs.Board.{AreClosed, IsClosedLane}
use Rattle.exec_board.specs.Rule.{BoardRule, LaneOk, LiveOk, covered, held, in_range, tally}
use Rattle.exec_board.specs.Seats.{Hold, IsLast, SeatView}
use Rattle.exec_board.specs.Sweeps.{AllSeen}
use Rattle.exec_board.specs.inner.Homes.{AreBoxes}
use Rattle.exec_board.proofs.Claims.{counts_alone}

-- a slot has a lane's box
abbrev pub HasBox : SeatView → List (Option Lane) → ℕ → Type 0
HasBox view slots number = (box : Lane) × (get_elem? slots number ≡ some (Some box)) × IsClosedLane view number box

module _ (words : List ℕ) (slots : List (Option Lane)) (seat : ℕ) (view : SeatView) (last : IsLast view) (some_share : view.start < view.stop) (free : view.holds ≡ []) (final : Final (Seen BoardRule seat view) words slots) where
  abbrev s : State (Option Lane) SeatView
  s = final.0

  k : BoardRule s
  k = final.1.0

  live : LiveOk k.opening k.most k.count view
  live = (k.views_ok seat view final.1.1).live some_share

  pub as_many_slots : length slots ≡ length view.opening
  as_many_slots = sym final.3 ∙ k.homes_are ∙ ap length (sym live.same_opening)

  ok : (number : ℕ) → number < length slots → LaneOk (opened_lane k.opening number) (k.count number) (slice_index s.words number) (get_elem? s.homes number) (tally (held number) s.views) (λ callback. tally (covered number callback) s.views)
  ok number within = k.lanes_ok number (let long = sym k.homes_are ∙ final.3 in omega (arith, long, within))

  -- no lane is held any more
  home : (number : ℕ) (within : number < length slots) → slice_index s.words number ≢ 1
  home number within one =
      let all = (ok number within).one_holder one in
      let mine = counts_alone s k seat view (held number) final.1.1 live.same_passes last refl in
      let none : held number view ≡ 0 = ap (λ (holds : List Hold). tally (λ (hold : Hold). Rattle.exec_board.specs.Rule.is_same hold.lane number) holds) free in
      absurd (omega (arith, all, mine, none))

  pub has_box : (number : ℕ) → number < length slots → HasBox view slots number
  has_box number within =
      let lane = ok number within in
      let there = lane.at_home (home number within) in
      let box : Lane = there.0 in
      let count : box.done ≡ k.count number = there.3 in
      let first : opened_lane view.opening number ≡ opened_lane k.opening number = ap (λ (lanes : List Lane). opened_lane lanes number) live.same_opening in
      let entries : length box.entries ≡ length (opened_lane k.opening number).entries = ap length there.2.entries in
      let few = lane.within in
      let inside : number < length k.opening = let long = sym k.homes_are ∙ final.3 in omega (arith, long, within) in
      let ran = live.ran number inside in (
        box,
        final.4 number (Some box) there.1,
        record {
          same = subst (λ (l : Lane). IsLaneOf l box) (sym first) there.2;
          within = omega (arith, count, entries, few);
          seen = omega (arith, count, ran);
          whole = λ callback.
              sym (counts_alone s k seat view (covered number callback) final.1.1 live.same_passes last refl)
              ∙ lane.whole callback
              ∙ ap (λ (m : ℕ). in_range (opened_lane k.opening number).done m callback) (sym count)
              ∙ ap (λ (l : Lane). in_range l.done box.done callback) (sym first);
        },
      )

-- each slot has a box where each has one by its number
pub are_boxes : (slots : List (Option Lane)) → ((number : ℕ) → number < length slots → (box : Lane) × (get_elem? slots number ≡ some (Some box))) → AreBoxes slots
are_boxes [] each = tt
are_boxes (None ∷ slots) each = let first = each 0 (omega arith) in absurd (none_some first.0 (some-injective _ _ first.1))
  where
    none_some : (box : Lane) → None ≡ Some box → ⊥
    none_some box same = cc
are_boxes (Some box ∷ slots) each = are_boxes slots (λ number within. each (suc number) (omega (arith, within)))

-- the box of a slot, among the boxes
boxed : (boxes : List Lane) (number : ℕ) (box : Lane) → get_elem? (map (λ (b : Lane). Some b) boxes) number ≡ some (Some box) → opened_lane boxes number ≡ box
boxed [] number box at = absurd (some-ne-none (Some box) (sym at))
boxed (first ∷ boxes) zero box at = ap (λ (found : Option Lane). unwrap_or found no_lane) (some-injective _ _ at)
boxed (first ∷ boxes) (suc number) box at = boxed boxes number box at

as_many : (boxes : List Lane) → length (map (λ (b : Lane). Some b) boxes) ≡ length boxes
as_many [] = refl
as_many (box ∷ boxes) = ap suc (as_many boxes)

pub are_closed : (view : SeatView) (boxes : List Lane) (slots : List (Option Lane)) → map (λ (b : Lane). Some b) boxes ≡ slots → length slots ≡ length view.opening → ((number : ℕ) → number < length slots → HasBox view slots number) → AreClosed view boxes
are_closed view boxes slots boxes_are long each = record {
  as_many = sym (as_many boxes) ∙ ap length boxes_are ∙ long;
  each = λ number within.
      let many = as_many boxes in
      let same = ap length boxes_are in
      let there = each number (omega (arith, many, same, within)) in
      subst (IsClosedLane view number) (sym (boxed boxes number there.0 (ap (λ (xs : List (Option Lane)). get_elem? xs number) boxes_are ∙ there.1))) there.2;
}

-- ---- all callbacks ran

each_finished : (opening lanes : List Lane) → length lanes ≡ length opening → ((number : ℕ) → number < length lanes → IsFinished (opened_lane opening number) (opened_lane lanes number)) → AreFinished opening lanes
each_finished [] [] long each = tt
each_finished [] (lane ∷ lanes) long each = absurd (omega (arith, long))
each_finished (first ∷ opening) [] long each = absurd (omega (arith, long))
each_finished (first ∷ opening) (lane ∷ lanes) long each = (each 0 (omega arith), each_finished opening lanes (omega (arith, long)) (λ number within. each (suc number) (omega (arith, within))))

-- where the last pass has seen all callbacks to have run
pub finished : (view : SeatView) (lanes : List Lane) → AllSeen view → AreClosed view lanes → AreFinished view.opening lanes
finished view lanes seen closed = each_finished view.opening lanes closed.as_many
    (λ number within.
    let lane = closed.each number within in
    let many = closed.as_many in
    let all = seen number (omega (arith, within, many)) in
    let low = lane.seen in
    let high = lane.within in
    let entries = ap length lane.same.entries in
    record { variables = lane.same.variables; entries = lane.same.entries; done = omega (arith, all, low, high, entries) })

-- ---- the loop over slots

pub never_none : (slots : List (Option Lane)) (number : ℕ) → AreBoxes slots → get_elem? slots number ≡ some None → ⊥
never_none [] number boxes at = some-ne-none None (sym at)
never_none (None ∷ slots) number boxes at = boxes
never_none (Some box ∷ slots) zero boxes at = none_some (some-injective _ _ at)
  where
    none_some : Some box ≡ None → ⊥
    none_some same = cc
never_none (Some box ∷ slots) (suc number) boxes at = never_none slots number boxes at

take_next : (slots : List (Option Lane)) (n : ℕ) (slot : Option Lane) → get_elem? slots n ≡ some slot → take (n + 1) slots ≡ take n slots ++ slot ∷ []
take_next [] n slot at = absurd (some-ne-none slot (sym at))
take_next (first ∷ slots) zero slot at = ap (λ (s : Option Lane). s ∷ []) (some-injective _ _ at)
take_next (first ∷ slots) (suc n) slot at =
    let one : suc n + 1 ≡ suc (n + 1) = omega arith in
    ap (λ (m : ℕ). take m (first ∷ slots)) one ∙ ap (λ (ss : List (Option Lane)). first ∷ ss) (take_next slots n slot at)

box_push : (boxes : List Lane) (box : Lane) → map (λ (b : Lane). Some b) (boxes ++ box ∷ []) ≡ map (λ (b : Lane). Some b) boxes ++ Some box ∷ []
box_push [] box = refl
box_push (first ∷ boxes) box = ap (λ (slots : List (Option Lane)). Some first ∷ slots) (box_push boxes box)

empty_here : (filled : List Bool) (i : ℕ) → slice_index_or (slice_set filled i false) i false ≡ false
empty_here [] i = refl
empty_here (f ∷ filled) zero = refl
empty_here (f ∷ filled) (suc i) = empty_here filled i

filled_else : (filled : List Bool) (i j : ℕ) → j ≢ i → slice_index_or (slice_set filled i false) j false ≡ slice_index_or filled j false
filled_else [] i j apart = refl
filled_else (f ∷ filled) zero zero apart = absurd (apart refl)
filled_else (f ∷ filled) zero (suc j) apart = refl
filled_else (f ∷ filled) (suc i) zero apart = refl
filled_else (f ∷ filled) (suc i) (suc j) apart = filled_else filled i j (λ same. apart (ap suc same))

pub boxes_next : (boxes boxes' : List Lane) (slots slots' : List (Option Lane)) (n : ℕ) (box : Lane) (slot : Option Lane) → map (λ (b : Lane). Some b) boxes ≡ take n slots → get_elem? slots n ≡ some slot → slot ≡ Some box → boxes' ≡ boxes ++ box ∷ [] → slots' ≡ slots
    → map (λ (b : Lane). Some b) boxes' ≡ take (n + 1) slots'
boxes_next boxes boxes' slots slots' n box slot so at slot_is pushed same =
    ap (λ (bs : List Lane). map (λ (b : Lane). Some b) bs) pushed
    ∙ box_push boxes box
    ∙ (λ i. so i ++ sym slot_is i ∷ [])
    ∙ sym (take_next slots n slot at)
    ∙ ap (λ (ss : List (Option Lane)). take (n + 1) ss) (sym same)

pub emptied : (filled filled' : List Bool) (n : ℕ) → ((k : ℕ) → k < n → slice_index_or filled k false ≡ false) → filled' ≡ slice_set filled n false → (k : ℕ) → k < n + 1 → slice_index_or filled' k false ≡ false
emptied filled filled' n so is k under = ap (λ (fs : List Bool). slice_index_or fs k false) is ∙ dite (ℕ_discrete k n)
    (λ same. ap (λ (j : ℕ). slice_index_or (slice_set filled n false) j false) same ∙ empty_here filled n)
    (λ apart. filled_else filled n k apart ∙ so k (less apart))
  where
    less : k ≢ n → k < n
    less apart = dite (dec_le n k) (λ ge. absurd (apart (omega (arith, under, ge)))) (λ few. omega (arith, few))

pub still_full : (filled filled' : List Bool) (n count count' : ℕ) → ((k : ℕ) → n ≤ k → k < count → slice_index_or filled k false ≡ true) → filled' ≡ slice_set filled n false → count' ≡ count → (k : ℕ) → n + 1 ≤ k → k < count' → slice_index_or filled' k false ≡ true
still_full filled filled' n count count' so is same k above under =
    ap (λ (fs : List Bool). slice_index_or fs k false) is ∙ filled_else filled n k (λ here. absurd (omega (arith, above, here))) ∙ so k (omega (arith, above)) (omega (arith, under, same))
