-- What was collected is what the callbacks did.
use Rattle.std.proofs.Common.{◌≡◌, ℕ, zero, suc, ◌<◌, ◌≤◌, List, [], ◌∷◌, ◌++◌, length, refl, sym, subst, ◌∙◌, arith, IsPermutation}
use Rattle.std.specs.List.{flat_map}
use Rattle.std.proofs.lemmas.List.Concat.{flat_map-cons}
use Rattle.std.proofs.lemmas.List.Sorted.{IsPermutation-append_left, IsPermutation-sym, IsPermutation-trans}
use Rattle.exec_board.specs.Board.{AreClosed}
use Rattle.exec_board.specs.Rule.{in_range, in_segment, tally}
use Rattle.exec_board.specs.Seats.{SeatView}
use Rattle.exec_lane.specs.Gather.{outcomes_in}
use Rattle.exec_lane.specs.Lane.{AreFinished, IsFinished, Lane}
use Rattle.exec_lane.specs.Opening.{no_lane, opened_lane}
use Rattle.exec_lane.specs.declared.outcome.Outcome.{Outcome}
use Rattle.exec_stream.proofs.Places.{whole_left}
use Rattle.exec_stream.specs.Streams.{AreUnrun, all_outcomes, outcomes_by}

-- a lane of which all callbacks ran has the outcomes of all
finished_outcomes : (opening lane : Lane) → IsFinished opening lane → outcomes_in lane ≡ all_outcomes opening
finished_outcomes opening lane is = λ i. outcomes_in (record { variables = is.variables i; entries = is.entries i; done = is.done i; failed = opening.failed })

all_finished : (openings lanes : List Lane) → AreFinished openings lanes → flat_map outcomes_in lanes ≡ flat_map all_outcomes openings
all_finished [] [] are = refl
all_finished [] (lane ∷ lanes) are = absurd are
all_finished (opening ∷ openings) [] are = absurd are
all_finished (opening ∷ openings) (lane ∷ lanes) are =
    flat_map-cons outcomes_in lane lanes
    ∙ (λ i. finished_outcomes opening lane are.0 i ++ all_finished openings lanes are.1 i)
    ∙ sym (flat_map-cons all_outcomes opening openings)

finished_at : (openings lanes : List Lane) (n : ℕ) → AreFinished openings lanes → n < length openings → (opened_lane lanes n).done ≡ length (opened_lane openings n).entries
finished_at [] lanes n are within = absurd (omega (arith, within))
finished_at (opening ∷ openings) [] n are within = absurd are
finished_at (opening ∷ openings) (lane ∷ lanes) zero are within = are.0.done
finished_at (opening ∷ openings) (lane ∷ lanes) (suc n) are within = finished_at openings lanes n are.1 (omega (arith, within))

-- what a pass ran that saw all lanes finished is what the lanes have
pub all_ran : (view : SeatView) (lanes : List Lane) → ((lane : Lane) → lane.done ≤ length lane.entries → length (outcomes_in lane) ≡ lane.done) → AreUnrun view.opening → AreClosed view lanes → AreFinished view.opening lanes →
    IsPermutation (outcomes_by view) (flat_map outcomes_in lanes)
all_ran view lanes each unrun closed finished =
    subst (λ (outcomes : List Outcome). IsPermutation (outcomes_by view) outcomes) (sym (all_finished view.opening lanes finished))
    (whole_left all_outcomes no_lane refl view.opening view.segments whole)
  where
    whole : (lane callback : ℕ) → lane < length view.opening → tally (in_segment lane callback) view.segments ≡ in_range 0 (length (all_outcomes (opened_lane view.opening lane))) callback
    whole lane callback within =
        let many = closed.as_many in
        let first : (opened_lane view.opening lane).done ≡ 0 = unrun lane no_lane within in
        let last : (opened_lane lanes lane).done ≡ length (all_outcomes (opened_lane view.opening lane)) =
        finished_at view.opening lanes lane finished within ∙ sym (each (record (opened_lane view.opening lane) { done = length (opened_lane view.opening lane).entries }) (omega arith)) in
        (closed.each lane (omega (arith, within, many))).whole callback ∙ (λ i. in_range (first i) (last i) callback)

-- what was put and what was kept is what was collected
pub all_collected : (view : SeatView) (lanes : List Lane) (put kept came : List Outcome) → IsPermutation (outcomes_by view) (put ++ kept) → IsPermutation put came →
    IsPermutation (outcomes_by view) (flat_map outcomes_in lanes) → IsPermutation (flat_map outcomes_in lanes) (came ++ kept)
all_collected view lanes put kept came sent took ran =
    IsPermutation-trans (flat_map outcomes_in lanes) (outcomes_by view) (came ++ kept) (IsPermutation-sym (outcomes_by view) (flat_map outcomes_in lanes) ran)
    (IsPermutation-trans (outcomes_by view) (put ++ kept) (came ++ kept) sent (IsPermutation-append_left kept put came took))
