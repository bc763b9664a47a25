-- A release keeps the rule.
use Rattle.std.proofs.Common.{◌≡◌, ◌≢◌, ℕ, ◌+◌, ◌-◌, ◌<◌, ◌≤◌, Bool, cond, eq-eqb, ne_eqb, List, ◌∷◌, length, set, length-set, sym, refl, ap, subst, ◌∙◌, inr, arith}
use Rattle.std.specs.Prelude.{Option, Some, slice_index, slice_set, unwrap_or}
use mathlib.Core.Option.{some, none}
use mathlib.Core.Logic.{dite}
use native.Mathlib.Decide.{dec_le, ℕ_discrete}
use lib.ListN.{get_elem?}
use Rattle.atomic_table.specs.Table.{Allows, Me, State, gives, step}
use Rattle.atomic_table.proofs.Lists.{set_else, set_here}
use Rattle.exec_lane.specs.Lane.{Lane}
use Rattle.exec_lane.specs.Opening.{IsLaneOf, opened_lane}
use Rattle.exec_board.specs.Plays.{released}
use Rattle.exec_board.specs.Rule.{BoardRule, LaneOk, LiveOk, gap, covered, held, in_segment, in_range, tally}
use Rattle.exec_board.specs.Seats.{Holds, SeatView, released_lane, segment_of, without}
use Rattle.exec_board.specs.inner.Homes.{word_at}
use Rattle.exec_board.proofs.Holding.{as_many_else, differ, held_without, hold_is, one_less}
use Rattle.exec_board.proofs.Moved.{changed, changed-else, changed-here, held_on, index-set, index-set-else, moved}
use Rattle.exec_board.proofs.Tallies.{tally-only, tally-part, tally-push, tally-set}

-- the word of a box at home
pub word_small : (box : Lane) → word_at box ≤ 2
word_small box = dite (ℕ_discrete box.done (length box.entries))
    (λ same. let is = ap {B = ℕ} (λ (b : Bool). cond b 2 0) (eq-eqb box.done (length box.entries) same) in omega (arith, is))
    (λ less. let is = ap {B = ℕ} (λ (b : Bool). cond b 2 0) (ne_eqb box.done (length box.entries) less) in omega (arith, is))

pub word_not_held : (box : Lane) → word_at box ≢ 1
word_not_held box one = dite (ℕ_discrete box.done (length box.entries))
    (λ same. let is = ap {B = ℕ} (λ (b : Bool). cond b 2 0) (eq-eqb box.done (length box.entries) same) in omega (arith, is, one))
    (λ less. let is = ap {B = ℕ} (λ (b : Bool). cond b 2 0) (ne_eqb box.done (length box.entries) less) in omega (arith, is, one))

pub word_open : (box : Lane) → box.done ≤ length box.entries → word_at box ≡ 0 → box.done < length box.entries
word_open box within open_ = dite (ℕ_discrete box.done (length box.entries))
    (λ same. let is = ap {B = ℕ} (λ (b : Bool). cond b 2 0) (eq-eqb box.done (length box.entries) same) in absurd (omega (arith, is, open_)))
    (λ less. dite (dec_le (length box.entries) box.done) (λ more. absurd (less (omega (arith, within, more)))) (λ few. omega (arith, few)))

pub word_finished : (box : Lane) → word_at box ≡ 2 → box.done ≡ length box.entries
word_finished box finished = dite (ℕ_discrete box.done (length box.entries)) (λ same. same)
    (λ less. let is = ap {B = ℕ} (λ (b : Bool). cond b 2 0) (ne_eqb box.done (length box.entries) less) in absurd (omega (arith, is, finished)))

module _ (s : State (Option Lane) SeatView) (k : BoardRule s) (seat : ℕ) (v : SeatView) (lane start : ℕ) (box : Lane)
    (at : get_elem? s.views seat ≡ some v) (some_share : v.start < v.stop) (holds : Holds v lane start)
    (same : IsLaneOf (opened_lane v.opening lane) box) (since : start ≤ box.done) (few : box.done ≤ length box.entries) where
  abbrev w : SeatView
  w = released_lane lane box.done v

  live : LiveOk k.opening k.most k.count v
  live = (k.views_ok seat v at).live some_share

  here : (lane < length k.opening) × (start ≡ k.count lane)
  here = hold_is (length k.opening) k.count v.holds lane start holds live.held_so

  ok : LaneOk (opened_lane k.opening lane) (k.count lane) (slice_index s.words lane) (get_elem? s.homes lane) (tally (held lane) s.views) (λ callback. tally (covered lane callback) s.views)
  ok = k.lanes_ok lane here.0

  less : tally (held lane) s.views ≡ 1
  less =
      let part = tally-part (held lane) s.views seat v at in
      let one = one_less v.holds lane start holds in
      dite (ℕ_discrete (slice_index s.words lane) 1) (λ is. ok.one_holder is) (λ isnt. let empty = ok.no_holder isnt in absurd (omega (arith, part, one, empty)))

  mine : held lane v ≡ 1
  mine =
      let part = tally-part (held lane) s.views seat v at in
      let one = one_less v.holds lane start holds in
      let all = less in
      omega (arith, part, one, all)

  gone : held lane w ≡ 0
  gone = let one = one_less v.holds lane start holds in let was = mine in omega (arith, one, was)

  same_lane : IsLaneOf (opened_lane k.opening lane) box
  same_lane = subst (λ (lanes : List Lane). IsLaneOf (opened_lane lanes lane) box) live.same_opening same

  entries : length box.entries ≡ length (opened_lane k.opening lane).entries
  entries = ap length same_lane.entries

  more : k.count lane ≤ box.done
  more = let is = here.1 in omega (arith, is, since)

  -- the segment that the hold became
  first_is : (segment_of lane box.done v).first ≡ k.count lane
  first_is = ap (λ (found : Option ℕ). unwrap_or found 0) holds ∙ here.1

  covers : (other callback : ℕ) → covered other callback w ≡ covered other callback v + in_segment other callback (segment_of lane box.done v)
  covers other callback = tally-push (in_segment other callback) v.segments (segment_of lane box.done v)

  cover_else : (other callback : ℕ) → other ≢ lane → covered other callback w ≡ covered other callback v
  cover_else other callback away =
      let all = covers other callback in let far = differ lane other (λ is. away (sym is)) in omega (arith, all, far)

  segment_is : (callback : ℕ) → in_segment lane callback (segment_of lane box.done v) ≡ in_range (k.count lane) box.done callback
  segment_is callback =
      let a : ℕ = in_range (k.count lane) box.done callback in
      ap (λ (first : ℕ). in_range first box.done callback - gap lane lane) first_is ∙ nothing_off a
    where
      nothing_off : (a : ℕ) → a - gap lane lane ≡ a
      nothing_off a = omega arith

  whole : (callback : ℕ) → tally (covered lane callback) (set s.views seat w) ≡ in_range (opened_lane k.opening lane).done box.done callback
  whole callback =
      let changes = tally-set (covered lane callback) s.views seat v w at in
      let all = covers lane callback in
      let segment = segment_is callback in
      let was = ok.whole callback in
      let from = ok.since in
      let on = more in
      joins_on (opened_lane k.opening lane).done (k.count lane) box.done callback (tally (covered lane callback) (set s.views seat w)) (tally (covered lane callback) s.views) (covered lane callback v) (covered lane callback w) (in_segment lane callback (segment_of lane box.done v)) changes all segment was from on
    where
      joins_on : (a b c x after before mine_ mine_after part : ℕ) → after + mine_ ≡ before + mine_after → mine_after ≡ mine_ + part → part ≡ in_range b c x → before ≡ in_range a b x → a ≤ b → b ≤ c → after ≡ in_range a c x
      joins_on a b c x after before mine_ mine_after part changes all segment was from on = omega (arith, changes, all, segment, was, from, on)

  lane_ok : LaneOk (opened_lane k.opening lane) box.done (word_at box) (get_elem? (set s.homes lane (some (Some box))) lane) (tally (held lane) (set s.views seat w)) (λ callback. tally (covered lane callback) (set s.views seat w))
  lane_ok =
      let from = ok.since in let on = more in let long = entries in let inside = here.0 in let homes = k.homes_are in
      let changes = tally-set (held lane) s.views seat v w at in let all = less in let was = mine in let now = gone in record {
        known = word_small box;
        since = omega (arith, from, on);
        within = omega (arith, few, long);
        at_home = λ _. (box, set_here s.homes lane (some (Some box)) (omega (arith, inside, homes)), same_lane, refl);
        out = λ one. absurd (word_not_held box one);
        unfinished = λ e. let under = word_open box few e in omega (arith, under, long);
        finished = λ e. let full = word_finished box e in omega (arith, full, long);
        one_holder = λ one. absurd (word_not_held box one);
        no_holder = λ _. omega (arith, changes, all, was, now);
        whole = whole;
      }

  pub keeps_on : BoardRule (record { words = slice_set s.words lane (word_at box); homes = set s.homes lane (some (Some box)); views = set s.views seat w })
  keeps_on =
      moved s k seat v w lane (word_at box) box.done (set s.homes lane (some (Some box))) at here.0 more (length-set s.homes lane (some (Some box))) (λ other away. set_else s.homes lane other (some (Some box)) away)
      (λ other away. as_many_else v.holds lane other away) cover_else refl refl
      (λ other u away there. inr (tally-only (held lane) s.views seat other v u (let all = less in omega (arith, all)) mine (λ is. away (sym is)) at there))
      (record {
        spent = λ empty. absurd (omega (arith, empty, some_share));
        live = λ _. record {
          same_opening = live.same_opening;
          same_passes = live.same_passes;
          within = live.within;
          sized = length-set v.seen lane box.done ∙ live.sized;
          ran = λ other inside. ran_on other inside;
          held_so = held_on (length k.opening) k.count lane box.done (without lane v.holds) (inr gone) (held_without (length k.opening) k.count v.holds lane live.held_so);
        };
      })
      lane_ok
    where
      ran_on : (other : ℕ) → other < length k.opening → slice_index (slice_set v.seen lane box.done) other ≤ changed k.count lane box.done other
      ran_on other inside = dite (ℕ_discrete other lane)
          (λ is.
          let inside_ = here.0 in let long = live.sized in
          let now : slice_index (slice_set v.seen lane box.done) other ≡ box.done = ap (λ (l : ℕ). slice_index (slice_set v.seen lane box.done) l) is ∙ index-set v.seen lane box.done (omega (arith, inside_, long)) in
          let count : changed k.count lane box.done other ≡ box.done = ap (λ (l : ℕ). changed k.count lane box.done l) is ∙ changed-here k.count lane box.done in
          omega (arith, now, count))
          (λ away. let now = index-set-else v.seen lane other box.done away in let count = changed-else k.count lane box.done other away in let was = live.ran other inside in omega (arith, now, count, was))

pub releases : (slots seat : ℕ) (v : SeatView) (others : List (ℕ × Option Lane)) (lane start : ℕ) (box : Lane) (me : Me (Option Lane) SeatView) (word : ℕ) → v.start < v.stop → Holds v lane start
    → IsLaneOf (opened_lane v.opening lane) box → start ≤ box.done → box.done ≤ length box.entries → me ≡ (v, (lane, Some box) ∷ others) → word ≡ word_at box
    → Allows BoardRule slots seat me lane (λ _. word) (λ _. released (step slots lane word 0 none) me word)
releases slots seat v others lane start box me word some_share holds same since few me_is word_is =
    subst (λ (x : Me (Option Lane) SeatView × ℕ). Allows BoardRule slots seat x.0 lane (λ _. x.1) (λ _. released (step slots lane x.1 0 none) x.0 x.1)) (λ i. (sym me_is i, sym word_is i))
    (λ s k as_many at small. (released_lane lane box.done v, gives, tt, keeps_on s k seat v lane start box at some_share holds same since few, refl))
