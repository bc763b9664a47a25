-- Visits, turns and sweeps.
use Rattle.std.proofs.Common.{◌≡◌, ◌≢◌, ℕ, zero, suc, ◌+◌, ◌-◌, ◌<◌, ◌≤◌, Bool, true, false, true≢false, cond, eq-eqb, ne_eqb, ◌||◌, ◌⊎◌, inl, inr, List, [], ◌∷◌, ◌++◌, append-nil, append_assoc, length, length-set, map, sym, refl, ap, subst, ◌∙◌, arith}
use Rattle.std.specs.Prelude.{slice_index, slice_set, unwrap_or}
use Rattle.std.specs.Result.{IsErr, OnErr}
use Rattle.std.specs.declared.result.Result.{Result}
use Rattle.std.specs.declared.result.Result.TheVariants.{Ok, Err}
use Rattle.std.proofs.lemmas.List.Elements.{All-append, All-cons, All-nil}
use mathlib.Core.Logic.{dite}
use native.Mathlib.Decide.{dec_le, ℕ_discrete}
use Rattle.atomic_table.specs.Seated.{TableId}
use Rattle.exec_lane.specs.Lane.{Lane}
use Rattle.exec_lane.specs.Opening.{IsLaneOf, opened_lane}
use Rattle.exec_msg.specs.declared.memory.Memory.{Memory}
use Rattle.exec_board.specs.Board.{ClaimView, IsClaimOf, IsSized, MayRelease}
use Rattle.exec_board.specs.Rule.{held, is_same, tally}
use Rattle.exec_board.specs.Seats.{Hold, IsLast, Refusal, SeatView, Segment, holding, refused, released_lane, seen_at, start_of}
use Rattle.exec_board.specs.Sweeps.{FirstSeen, GotOn, HasSome, IsBusy, IsSwept, IsWithinQuantum, LeavesSome, numbers}
use Rattle.exec_board.specs.inner.Visits.{HasGotOn, HasRunSome, HasStopped, HasWorked, Turning, Visited, WasRefused, left_for, left_in, worked}
use Rattle.exec_board.proofs.Holding.{start_here, without_here}
use Rattle.exec_board.proofs.Moved.{index-set, index-set-else}

-- ---- callbacks that weren't seen to have run

left-set : (lanes : List Lane) (seen : List ℕ) (lane end : ℕ) → lane < length lanes → length seen ≡ length lanes
    → length (opened_lane lanes lane).entries - end ≤ length (opened_lane lanes lane).entries - slice_index seen lane → left_in lanes (slice_set seen lane end) ≤ left_in lanes seen
left-set [] seen lane end within long less = absurd (omega (arith, within))
left-set (l ∷ lanes) [] lane end within long less = absurd (omega (arith, long))
left-set (l ∷ lanes) (n ∷ seen) zero end within long less = omega (arith, less)
left-set (l ∷ lanes) (n ∷ seen) (suc lane) end within long less = let rest = left-set lanes seen lane end (omega (arith, within)) (omega (arith, long)) less in omega (arith, rest)

left-less : (lanes : List Lane) (seen : List ℕ) (lane end : ℕ) → lane < length lanes → length seen ≡ length lanes
    → length (opened_lane lanes lane).entries - end < length (opened_lane lanes lane).entries - slice_index seen lane → left_in lanes (slice_set seen lane end) < left_in lanes seen
left-less [] seen lane end within long less = absurd (omega (arith, within))
left-less (l ∷ lanes) [] lane end within long less = absurd (omega (arith, long))
left-less (l ∷ lanes) (n ∷ seen) zero end within long less = omega (arith, less)
left-less (l ∷ lanes) (n ∷ seen) (suc lane) end within long less = let rest = left-less lanes seen lane end (omega (arith, within)) (omega (arith, long)) less in omega (arith, rest)

-- ---- sweeps

pub swept_on : (quantum : ℕ) (a b c : SeatView) → IsSwept quantum a b → IsSwept quantum b c → IsSwept quantum a c
swept_on quantum a b c first then = record {
  opening = then.opening ∙ first.opening;
  passes = then.passes ∙ first.passes;
  start = then.start ∙ first.start;
  stop = then.stop ∙ first.stop;
  holds = then.holds;
  sized = then.sized ∙ first.sized;
  ran = (
    first.ran.0 ++ then.ran.0,
    then.ran.1 ∙ ap (λ (segments : List Segment). segments ++ then.ran.0) first.ran.1 ∙ append_assoc a.segments first.ran.0 then.ran.0,
    All-append (IsWithinQuantum quantum) first.ran.0 then.ran.0 first.ran.2 then.ran.2,
  );
  asked = (
    first.asked.0 ++ then.asked.0,
    then.asked.1 ∙ ap (λ (refusals : List Refusal). refusals ++ then.asked.0) first.asked.1 ∙ append_assoc a.busy first.asked.0 then.asked.0,
    All-append IsBusy first.asked.0 then.asked.0 first.asked.2 then.asked.2,
  );
}

pub swept_worked : (lane quantum : ℕ) (a b : SeatView) → a.holds ≡ [] → HasWorked lane quantum a b → IsSwept quantum a b
swept_worked lane quantum a b free work = subst (IsSwept quantum a) (sym work.is) (record {
  opening = refl;
  passes = refl;
  start = refl;
  stop = refl;
  holds = free;
  sized = length-set a.seen lane work.end;
  ran = (record { lane = lane; first = work.first; end = work.end } ∷ [], refl, All-cons (IsWithinQuantum quantum) (record { lane = lane; first = work.first; end = work.end }) [] work.few (All-nil (IsWithinQuantum quantum)));
  asked = ([], sym (append-nil a.busy), All-nil IsBusy);
})

length-seen_at : (lane word : ℕ) (view : SeatView) → length (seen_at lane word view) ≡ length view.seen
length-seen_at lane word view = dite (ℕ_discrete word 2)
    (λ two. ap (λ (b : Bool). length (cond b (slice_set view.seen lane (length (opened_lane view.opening lane).entries)) view.seen)) (eq-eqb word 2 two) ∙ length-set view.seen lane (length (opened_lane view.opening lane).entries))
    (λ apart. ap (λ (b : Bool). length (cond b (slice_set view.seen lane (length (opened_lane view.opening lane).entries)) view.seen)) (ne_eqb word 2 apart))

pub swept_refused : (lane quantum : ℕ) (a b : SeatView) → a.holds ≡ [] → WasRefused lane a b → IsSwept quantum a b
swept_refused lane quantum a b free was = subst (IsSwept quantum a) (sym was.is) (record {
  opening = refl;
  passes = refl;
  start = refl;
  stop = refl;
  holds = free;
  sized = length-seen_at lane was.word a;
  ran = ([], sym (append-nil a.segments), All-nil (IsWithinQuantum quantum));
  asked = (record { lane = lane; word = was.word } ∷ [], refl, All-cons IsBusy (record { lane = lane; word = was.word }) [] (dite (ℕ_discrete was.word 1) (λ one. inl one) (λ apart. inr (was.known apart))) (All-nil IsBusy));
})

-- ---- a visit

pub released_lane_held : (lane first end : ℕ) (view : SeatView) → released_lane lane end (holding lane first view) ≡ worked lane first end view
released_lane_held lane first end view =
    let hold : Hold = record { lane = lane; start = first } in λ i. record view {
      seen = slice_set view.seen lane end;
      holds = without_here hold view.holds lane refl i;
      segments = view.segments ++ record { lane = lane; first = unwrap_or (start_here hold view.holds lane refl i) 0; end = end } ∷ [];
    }

-- a claim may be released, however far its lane has got
pub claim_released : (view : SeatView) (lane : ℕ) (claim : ClaimView) (work : Lane) → IsClaimOf view lane claim → IsLaneOf claim.work work → claim.work.done ≤ work.done → MayRelease (holding lane claim.start view) (record claim { work = work })
claim_released view lane claim work claimed same since =
    let start = claimed.start in record {
      held = ap (λ (l : ℕ). start_of l (record { lane = lane; start = claim.start } ∷ view.holds)) claimed.lane ∙ start_here (record { lane = lane; start = claim.start }) view.holds lane refl;
      work = subst (λ (l : ℕ). IsLaneOf (opened_lane view.opening l) work) (sym claimed.lane) (record { variables = same.variables ∙ claimed.work.same.variables; entries = same.entries ∙ claimed.work.same.entries });
      count = omega (arith, since, start);
    }

module _ (lane quantum : ℕ) (before held_ : SeatView) (claim : ClaimView) (after : Lane) (ended : _) (claimed : IsClaimOf before lane claim) (holds : held_ ≡ holding lane claim.start before)
    (ran : HasRunSome quantum claim.work after ended) where
  of_lane : IsLaneOf (opened_lane before.opening lane) after
  of_lane = record { variables = ran.same.variables ∙ claimed.work.same.variables; entries = ran.same.entries ∙ claimed.work.same.entries }

  -- the lane may be released as it stands
  pub may_release : MayRelease held_ (record claim { work = after })
  may_release = subst (λ (view : SeatView). MayRelease view (record claim { work = after })) (sym holds) (claim_released before lane claim after claimed ran.same ran.since)

  pub has_worked : (released : SeatView) → released ≡ released_lane claim.lane after.done held_ → HasWorked lane quantum before released
  has_worked released is =
      let since = ran.since in
      let few = ran.few in
      let start = claimed.start in
      let seen = claimed.work.seen in
      let within = ran.within in
      let entries = ap length of_lane.entries in record {
        first = claim.start;
        end = after.done;
        is = is ∙ (λ i. released_lane (claimed.lane i) after.done (holds i)) ∙ released_lane_held lane claim.start after.done before;
        seen = omega (arith, start, seen);
        since = omega (arith, since, start);
        few = omega (arith, few, start);
        within = omega (arith, within, entries);
      }

-- ---- a visit to each lane

refused_less : (lane : ℕ) (a b : SeatView) → lane < length a.opening → length a.seen ≡ length a.opening → WasRefused lane a b → left_for b ≤ left_for a
refused_less lane a b within long was =
    ap_left (was.is) (dite (ℕ_discrete was.word 2)
    (λ two.
    let is = ap (λ (c : Bool). left_in a.opening (cond c (slice_set a.seen lane (length (opened_lane a.opening lane).entries)) a.seen)) (eq-eqb was.word 2 two) in
    let less = left-set a.opening a.seen lane (length (opened_lane a.opening lane).entries) within long (omega arith) in
    omega (arith, is, less))
    (λ apart.
    let is = ap (λ (c : Bool). left_in a.opening (cond c (slice_set a.seen lane (length (opened_lane a.opening lane).entries)) a.seen)) (ne_eqb was.word 2 apart) in
    omega (arith, is)))
  where
    ap_left : b ≡ refused lane was.word a → left_in a.opening (seen_at lane was.word a) ≤ left_for a → left_for b ≤ left_for a
    ap_left is less = let same : left_for b ≡ left_in a.opening (seen_at lane was.word a) = ap left_for is in omega (arith, same, less)

-- the last pass, which holds nothing, is refused finished lanes alone
refused_seen : (lane : ℕ) (a b : SeatView) → lane < length a.opening → length a.seen ≡ length a.opening → a.holds ≡ [] → IsLast a → WasRefused lane a b → FirstSeen lane a → FirstSeen (lane + 1) b
refused_seen lane a b within long free last was seen = subst (FirstSeen (lane + 1)) (sym was.is) all
  where
    two : was.word ≡ 2
    two = was.known
        (λ one.
        let mine = was.held_so one last in
        let none : held lane a ≡ 0 = ap (λ (holds : List Hold). tally (λ (hold : Hold). is_same hold.lane lane) holds) free in
        omega (arith, mine, none))

    now : seen_at lane was.word a ≡ slice_set a.seen lane (length (opened_lane a.opening lane).entries)
    now = ap (λ (c : Bool). cond c (slice_set a.seen lane (length (opened_lane a.opening lane).entries)) a.seen) (eq-eqb was.word 2 two)

    all : (other : ℕ) → other < lane + 1 → slice_index (seen_at lane was.word a) other ≡ length (opened_lane a.opening other).entries
    all other under = ap (λ (xs : List ℕ). slice_index xs other) now ∙ dite (ℕ_discrete other lane)
        (λ same.
        ap (λ (l : ℕ). slice_index (slice_set a.seen lane (length (opened_lane a.opening lane).entries)) l) same
        ∙ index-set a.seen lane (length (opened_lane a.opening lane).entries) (omega (arith, within, long))
        ∙ ap (λ (l : ℕ). length (opened_lane a.opening l).entries) (sym same))
        (λ apart. index-set-else a.seen lane other (length (opened_lane a.opening lane).entries) apart ∙ seen other (less other under apart))
      where
        less : (other : ℕ) → other < lane + 1 → other ≢ lane → other < lane
        less other under apart = dite (dec_le lane other) (λ ge. absurd (apart (omega (arith, under, ge)))) (λ few. omega (arith, few))

pub last_refused : (view : SeatView) (lane word : ℕ) → lane < length view.opening → length view.seen ≡ length view.opening → view.holds ≡ [] → IsLast view → (word ≡ 1) ⊎ (word ≡ 2) → (word ≡ 1 → held lane view ≡ 1) →
    FirstSeen lane view → FirstSeen (lane + 1) (refused lane word view)
last_refused view lane word within long free last which mine seen =
    refused_seen lane view (refused lane word view) within long free last (record {
      word = word;
      is = refl;
      known = λ apart. elim which [ inl one ↦ absurd (apart one) | inr two ↦ two ];
      held_so = λ one _. mine one;
    }) seen

worked_less : (lane quantum : ℕ) (a b : SeatView) → lane < length a.opening → length a.seen ≡ length a.opening → HasGotOn lane quantum a b → left_for b < left_for a
worked_less lane quantum a b within long on =
    let same : left_for b ≡ left_in a.opening (slice_set a.seen lane on.work.end) = ap left_for on.work.is in
    let seen = on.work.seen in
    let some = on.some in
    let few = on.work.within in
    let less = left-less a.opening a.seen lane on.work.end within long (omega (arith, seen, some, few)) in
    omega (arith, same, less)

pub got_on_on : (a b c : SeatView) → GotOn a b → GotOn b c → GotOn a c
got_on_on a b c first then = (
  first.0 ++ then.0,
  then.1 ∙ ap (λ (segments : List Segment). segments ++ then.0) first.1 ∙ append_assoc a.segments first.0 then.0,
  All-append HasSome first.0 then.0 first.2 then.2,
)

segment_on : (lane quantum : ℕ) (a b : SeatView) → HasGotOn lane quantum a b → GotOn a b
segment_on lane quantum a b on =
    let segment : Segment = record { lane = lane; first = on.work.first; end = on.work.end } in
    (segment ∷ [], ap (λ (view : SeatView). view.segments) on.work.is, All-cons HasSome segment [] on.some (All-nil HasSome))

map-push : (xs : List Refusal) (x : Refusal) → map (λ (refusal : Refusal). refusal.lane) (xs ++ x ∷ []) ≡ map (λ (refusal : Refusal). refusal.lane) xs ++ x.lane ∷ []
map-push [] x = refl
map-push (y ∷ xs) x = ap (λ (ls : List ℕ). y.lane ∷ ls) (map-push xs x)

module _ (lane quantum : ℕ) (a b c : SeatView) (within : lane < length b.opening) (long : length b.seen ≡ length b.opening) where
  on_refused : (claimed : Bool) → Turning lane quantum claimed a b → WasRefused lane b c → Turning (lane + 1) quantum claimed a c
  on_refused claimed so was =
      let less = refused_less lane b c within long was in
      let so_far = so.less in record {
        swept = swept_on quantum a b c so.swept (swept_refused lane quantum b c so.swept.holds was);
        less = omega (arith, less, so_far);
        gone_on = λ on. let strict = so.gone_on on in omega (arith, less, strict);
        refused_all = λ none. let all = so.refused_all none in (
          all.0 ++ record { lane = lane; word = was.word } ∷ [],
          ap (λ (view : SeatView). view.busy) was.is ∙ ap (λ (refusals : List Refusal). refusals ++ record { lane = lane; word = was.word } ∷ []) all.1 ∙ append_assoc a.busy all.0 (record { lane = lane; word = was.word } ∷ []),
          map-push all.0 (record { lane = lane; word = was.word }) ∙ ap (λ (ls : List ℕ). ls ++ lane ∷ []) all.2 ∙ numbered,
        );
        seen_all = λ none last. refused_seen lane b c within long so.swept.holds (so.swept.start ∙ last.0, so.swept.stop ∙ last.1 ∙ sym so.swept.passes) was (so.seen_all none last);
        got_on = (so.got_on.0, ap (λ (view : SeatView). view.segments) was.is ∙ so.got_on.1, so.got_on.2);
      }
    where
      numbered : numbers lane ++ lane ∷ [] ≡ numbers (lane + 1)
      numbered = let next : lane + 1 ≡ suc lane = omega arith in sym (ap numbers next)

  on_worked : (claimed : Bool) → Turning lane quantum claimed a b → HasGotOn lane quantum b c → Turning (lane + 1) quantum true a c
  on_worked claimed so on =
      let strict = worked_less lane quantum b c within long on in
      let so_far = so.less in record {
        swept = swept_on quantum a b c so.swept (swept_worked lane quantum b c so.swept.holds on.work);
        less = omega (arith, strict, so_far);
        gone_on = λ _. omega (arith, strict, so_far);
        refused_all = λ none. absurd (true≢false none);
        seen_all = λ none. absurd (true≢false none);
        got_on = got_on_on a b c so.got_on (segment_on lane quantum b c on);
      }

  pub turning_on : (claimed did : Bool) → Turning lane quantum claimed a b → Visited lane quantum b c (Ok did) → Turning (lane + 1) quantum (claimed || did) a c
  turning_on true true so on = on_worked true so on
  turning_on false true so on = on_worked false so on
  turning_on true false so was = on_refused true so was
  turning_on false false so was = on_refused false so was

-- a pass of a later view of the board has seen a count of each lane, as it had
pub sized_before : (board : TableId) (quantum : ℕ) (a b : SeatView) → IsSwept quantum a b → IsSized board b → IsSized board a
sized_before board quantum a b swept sized = record {
  opening = ap length (sym swept.opening) ∙ sized.opening;
  seen = sym swept.sized ∙ sized.seen;
}

pub turning_next : (board : TableId) (lane quantum : ℕ) (claimed did : Bool) (a b c : SeatView) → lane < board.words → IsSized board b → Turning lane quantum claimed a b → Visited lane quantum b c (Ok did) → Turning (lane + 1) quantum (claimed || did) a c
turning_next board lane quantum claimed did a b c within sized so visited =
    let opening = sized.opening in
    turning_on lane quantum a b c (omega (arith, within, opening)) (sized.seen ∙ sym sized.opening) claimed did so visited

-- what a visit answers, from what it did
module _ (lane quantum : ℕ) (before held_ released : SeatView) (claim : ClaimView) (box after : Lane) (ended : _) (claimed : IsClaimOf before lane claim) (holds : held_ ≡ holding lane claim.start before)
    (box_is : box ≡ claim.work) (ran : HasRunSome quantum box after ended) where
  ran_so : HasRunSome quantum claim.work after ended
  ran_so = subst (λ (b : Lane). HasRunSome quantum b after ended) box_is ran

  pub visit_may_release : MayRelease held_ (record claim { work = after })
  visit_may_release = may_release lane quantum before held_ claim after ended claimed holds ran_so

  pub visit_worked : released ≡ released_lane claim.lane after.done held_ → HasWorked lane quantum before released
  visit_worked is = has_worked lane quantum before held_ claim after ended claimed holds ran_so released is

  pub visit_got_on : released ≡ released_lane claim.lane after.done held_ → ended ≡ Ok tt → HasGotOn lane quantum before released
  unfolding visit_worked has_worked
  visit_got_on is ok =
      let start = claimed.start in
      let some = ran_so.some ok in
      let on : claim.start < after.done = omega (arith, start, some) in
      record { work = visit_worked is; some = on }

  pub visit_stopped : released ≡ released_lane claim.lane after.done held_ → IsErr ended → HasStopped lane quantum before released
  unfolding visit_worked has_worked
  visit_stopped is err =
      let left = (ran_so.failed err).1 in
      let entries = ap length ran_so.same.entries in
      let opened = ap length claimed.work.same.entries in
      let short : after.done < length (opened_lane before.opening lane).entries = omega (arith, left, entries, opened) in
      record { work = visit_worked is; short = short }

pub visited_err : (lane quantum : ℕ) (a b : SeatView) (result : Result Bool Memory) → IsErr result → HasStopped lane quantum a b → Visited lane quantum a b result
visited_err lane quantum a b (Ok did) err stopped = absurd (true≢false (sym err))
visited_err lane quantum a b (Err memory) err stopped = stopped

-- a pass that stopped in a lane has seen that callbacks of it are left
pub leaves_some : (lane quantum : ℕ) (board : TableId) (a b : SeatView) → lane < board.words → IsSized board a → HasStopped lane quantum a b → LeavesSome b
leaves_some lane quantum board a b within sized stopped = subst LeavesSome (sym stopped.work.is) (lane, is_lane, left)
  where
    is_lane : lane < length a.opening
    is_lane = let opening = sized.opening in omega (arith, within, opening)

    left : slice_index (slice_set a.seen lane stopped.work.end) lane < length (opened_lane a.opening lane).entries
    left =
        let seen = sized.seen in
        let at = index-set a.seen lane stopped.work.end (omega (arith, within, seen)) in
        let short = stopped.short in
        omega (arith, at, short)

pub on_err_any : {A B : Type 0} {P : Type 0} (result : Result A B) → P → OnErr result P
on_err_any (Ok value) p = tt
on_err_any (Err error) p = p
