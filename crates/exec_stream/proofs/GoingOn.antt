-- What runners of a streamed round run, and what they send on.
use Rattle.std.proofs.Common.{◌≡◌, ℕ, zero, suc, ◌+◌, ◌-◌, ◌≤◌, List, [], ◌∷◌, ◌++◌, append-nil, append_assoc, length, slice_set, sym, ap, subst, ◌∙◌, arith, IsPermutation}
use Rattle.std.specs.Result.{OnOk}
use Rattle.std.specs.declared.result.Result.{Result}
use Rattle.std.specs.declared.result.Result.TheVariants.{Ok, Err}
use Rattle.exec_msg.specs.declared.memory.Memory.{Memory}
use Rattle.std.specs.List.{flat_map, range_with_len, slice_get}
use Rattle.std.specs.Option.{option_to_list}
use Rattle.std.proofs.lemmas.Grind.{flat_map-append}
use Rattle.std.proofs.lemmas.List.Concat.{flat_map-cons}
use Rattle.std.proofs.lemmas.List.Sorted.{IsPermutation-append, IsPermutation-append_left, IsPermutation-trans}
use Rattle.exec_lane.specs.Gather.{outcomes_in}
use Rattle.exec_lane.specs.Lane.{Lane}
use Rattle.exec_lane.specs.Opening.{IsLaneOf, opened_lane}
use Rattle.exec_lane.specs.declared.outcome.Outcome.{Outcome}
use Rattle.exec_board.specs.Board.{ClaimView, IsClaimOf}
use Rattle.exec_board.specs.Seats.{SeatView, holding, released_lane, together}
use Rattle.exec_stream.proofs.Balances.{behind}
use Rattle.exec_stream.specs.Outcomes.{Hand, joined_hands}
use Rattle.exec_stream.specs.declared.streaming.Runner.{Runner}
use Rattle.exec_stream.specs.Sending.{HasSent, SenderView, Stays, sent_by}
use Rattle.exec_stream.specs.Streams.{GoesOn, HasSentAll, all_outcomes, items_from, outcomes_between, outcomes_by, outcomes_of}

-- ---- places

items_more : {A : Type 0} (xs : List A) (first a b : ℕ) → items_from xs first (a + b) ≡ items_from xs first a ++ items_from xs (first + a) b
items_more xs first zero b =
    let none : first + 0 ≡ first = omega arith in
    let same : 0 + b ≡ b = omega arith in
    ap (λ (n : ℕ). items_from xs first n) same ∙ ap (λ (n : ℕ). items_from xs n b) (sym none)
items_more {A} xs first (suc a) b =
    let more : suc a + b ≡ suc (a + b) = omega arith in
    let next : (first + 1) + a ≡ first + suc a = omega arith in
    let item : ℕ → List A = λ i. option_to_list (slice_get xs i) in
    ap (λ (n : ℕ). items_from xs first n) more
    ∙ flat_map-cons item first (range_with_len (first + 1) (a + b))
    ∙ ap (λ (ys : List A). item first ++ ys) (items_more xs (first + 1) a b ∙ ap (λ (n : ℕ). items_from xs (first + 1) a ++ items_from xs n b) next)
    ∙ sym (append_assoc (item first) (items_from xs (first + 1) a) (items_from xs (first + suc a) b))
    ∙ ap (λ (ys : List A). ys ++ items_from xs (first + suc a) b) (sym (flat_map-cons item first (range_with_len (first + 1) a)))

between_more : (lane : Lane) (a b c : ℕ) → a ≤ b → b ≤ c → outcomes_between lane a c ≡ outcomes_between lane a b ++ outcomes_between lane b c
between_more lane a b c low high =
    let all : (b - a) + (c - b) ≡ c - a = omega (arith, low, high) in
    let middle : a + (b - a) ≡ b = omega (arith, low) in
    ap (λ (n : ℕ). items_from (all_outcomes lane) a n) (sym all)
    ∙ items_more (all_outcomes lane) a (b - a) (c - b)
    ∙ ap (λ (n : ℕ). outcomes_between lane a b ++ items_from (all_outcomes lane) n (c - b)) middle

-- a lane does the same from wherever it goes on
pub same_outcomes : (before after : Lane) → IsLaneOf before after → all_outcomes after ≡ all_outcomes before
same_outcomes before after same = λ i. outcomes_in (record { variables = same.variables i; entries = same.entries i; done = length (same.entries i); failed = before.failed })

-- ---- one callback after another

on_from : (a b c : Lane) → GoesOn a b → GoesOn b c → GoesOn a c
on_from a b c first then =
    let low = first.since in
    let high = then.since in
    record { same = record { variables = then.same.variables ∙ first.same.variables; entries = then.same.entries ∙ first.same.entries }; since = omega (arith, low, high); within = then.within }

pub stays_on : (a b c : SenderView) → Stays a b → Stays b c → Stays a c
stays_on a b c first then = record { queue = then.queue ∙ first.queue; parts = then.parts ∙ first.parts; took = then.took ∙ first.took }

sent_on : (xs ys : List Outcome) (a b c : SenderView) → HasSent xs a b → HasSent ys b c → HasSent (xs ++ ys) a c
sent_on xs ys a b c first then = record {
  stays = stays_on a b c first.stays then.stays;
  all =
      subst (λ (sent : List Outcome). IsPermutation sent (sent_by c)) (append_assoc (sent_by a) xs ys)
      (IsPermutation-trans ((sent_by a ++ xs) ++ ys) (sent_by b ++ ys) (sent_by c) (IsPermutation-append_left ys (sent_by a ++ xs) (sent_by b) first.all) then.all);
}

-- callbacks ran and were sent on, and then others
pub runs_on : (first lane after : Lane) (a b c : SenderView) → GoesOn first lane → HasSent (outcomes_between first first.done lane.done) a b → GoesOn lane after → HasSent (outcomes_between lane lane.done after.done) b c →
    GoesOn first after × HasSent (outcomes_between first first.done after.done) a c
runs_on first lane after a b c so_far sent goes then = (
  on_from first lane after so_far goes,
  subst (λ (outcomes : List Outcome). HasSent outcomes a c)
      (ap (λ (all : List Outcome). outcomes_between first first.done lane.done ++ items_from all lane.done (after.done - lane.done)) (same_outcomes first lane so_far.same)
      ∙ sym (between_more first first.done lane.done after.done so_far.since goes.since))
      (sent_on (outcomes_between first first.done lane.done) (outcomes_between lane lane.done after.done) a b c sent then),
)

-- ---- one segment after another

-- what is one segment more
segment_more : (view : SeatView) (lane first end : ℕ) (box : Lane) → IsLaneOf (opened_lane view.opening lane) box → first ≡ box.done →
    flat_map (outcomes_of view.opening) (view.segments ++ record { lane = lane; first = first; end = end } ∷ []) ≡ outcomes_by view ++ outcomes_between box box.done end
segment_more view lane first end box same from =
    flat_map-append (outcomes_of view.opening) view.segments (record { lane = lane; first = first; end = end } ∷ [])
    ∙ ap (λ (outcomes : List Outcome). outcomes_by view ++ outcomes)
    (flat_map-cons (outcomes_of view.opening) (record { lane = lane; first = first; end = end }) []
    ∙ append-nil (outcomes_between (opened_lane view.opening lane) first end)
    ∙ (λ i. items_from (sym (same_outcomes (opened_lane view.opening lane) box same) i) (from i) (end - from i)))

-- a lane was claimed, run and released, and what its callbacks did was sent on
pub visited : (before after : Runner) (claim : ClaimView) (lane : ℕ) (box work : Lane) (held : SeatView) → HasSentAll before → IsClaimOf before.pass.view lane claim → held ≡ holding lane claim.start before.pass.view → box ≡ claim.work →
    GoesOn box work → HasSent (outcomes_between box box.done work.done) before.sender after.sender → after.pass.view ≡ released_lane claim.lane work.done held →
    (released_lane lane work.done (holding lane claim.start before.pass.view) ≡ record before.pass.view { seen = slice_set before.pass.view.seen lane work.done; segments = before.pass.view.segments ++ record { lane = lane; first = claim.start; end = work.done } ∷ [] }) →
    HasSentAll after
visited before after claim lane box work held was claimed holds box_is goes sent released leaves =
    let view : SeatView = before.pass.view in
    let is : after.pass.view ≡ record view { seen = slice_set view.seen lane work.done; segments = view.segments ++ record { lane = lane; first = claim.start; end = work.done } ∷ [] } =
    released ∙ (λ i. released_lane (claimed.lane i) work.done (holds i)) ∙ leaves in
    let same : IsLaneOf (opened_lane view.opening lane) box = subst (λ (one : Lane). IsLaneOf (opened_lane view.opening lane) one) (sym box_is) claimed.work.same in
    let from : claim.start ≡ box.done = claimed.start ∙ ap (λ (one : Lane). one.done) (sym box_is) in
    let ran : outcomes_by after.pass.view ≡ outcomes_by view ++ outcomes_between box box.done work.done = ap outcomes_by is ∙ segment_more view lane claim.start work.done box same from in record {
      took = sent.stays.took ∙ was.took;
      all =
          subst (λ (outcomes : List Outcome). IsPermutation outcomes (sent_by after.sender)) (sym ran)
          (IsPermutation-trans (outcomes_by view ++ outcomes_between box box.done work.done) (sent_by before.sender ++ outcomes_between box box.done work.done) (sent_by after.sender)
          (IsPermutation-append_left (outcomes_between box box.done work.done) (outcomes_by view) (sent_by before.sender) was.all) sent.all);
    }

-- ---- two runners joined

between : {A : Type 0} (a b c d : List A) → IsPermutation ((a ++ b) ++ (c ++ d)) ((a ++ c) ++ (b ++ d))
between {A} a b c d =
    subst (λ (xs : List A). IsPermutation xs ((a ++ c) ++ (b ++ d))) (append_assoc (a ++ b) c d)
    (subst (λ (xs : List A). IsPermutation (((a ++ b) ++ c) ++ d) xs) (append_assoc (a ++ c) b d) (IsPermutation-append_left d ((a ++ b) ++ c) ((a ++ c) ++ b) (behind a b c)))

together_sent : (front back joined : Runner) → back.pass.view.opening ≡ front.pass.view.opening → joined.pass.view ≡ together front.pass.view back.pass.view → joined.sender.hand ≡ joined_hands front.sender.hand back.sender.hand →
    joined.sender.kept ≡ front.sender.kept ++ back.sender.kept → HasSentAll front → HasSentAll back → HasSentAll joined
together_sent front back joined opening pass hand kept first second = record {
  took = ap (λ (one : Hand). one.took) hand ∙ (λ i. first.took i ++ second.took i);
  all =
      subst (λ (outcomes : List Outcome). IsPermutation outcomes (sent_by joined.sender))
      (sym (ap outcomes_by pass ∙ flat_map-append (outcomes_of front.pass.view.opening) front.pass.view.segments back.pass.view.segments ∙ (λ i. outcomes_by front.pass.view ++ flat_map (outcomes_of (sym opening i)) back.pass.view.segments)))
      (subst (λ (outcomes : List Outcome). IsPermutation (outcomes_by front.pass.view ++ outcomes_by back.pass.view) outcomes) (λ i. (sym hand i).put ++ sym kept i)
      (IsPermutation-trans (outcomes_by front.pass.view ++ outcomes_by back.pass.view) (sent_by front.sender ++ sent_by back.sender)
      ((front.sender.hand.put ++ back.sender.hand.put) ++ (front.sender.kept ++ back.sender.kept))
      (IsPermutation-append (outcomes_by front.pass.view) (sent_by front.sender) (outcomes_by back.pass.view) (sent_by back.sender) first.all second.all)
      (between front.sender.hand.put front.sender.kept back.sender.hand.put back.sender.kept)));
}

-- where none that came back is lost
pub joined_sent : (front back joined : Runner) (appended : Result Unit Memory) → joined.pass.view ≡ together front.pass.view back.pass.view → joined.sender.hand ≡ joined_hands front.sender.hand back.sender.hand →
    OnOk appended (joined.sender.kept ≡ front.sender.kept ++ back.sender.kept) → OnOk appended (HasSentAll front → HasSentAll back → back.pass.view.opening ≡ front.pass.view.opening → HasSentAll joined)
joined_sent front back joined (Ok done) pass hand kept = λ first second opening. together_sent front back joined opening pass hand kept first second
joined_sent front back joined (Err memory) pass hand kept = tt
