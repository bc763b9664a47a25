-- A claim keeps the rule.
use Rattle.std.proofs.Common.{◌≡◌, ◌≢◌, ℕ, ◌<◌, ◌≤◌, Bool, cond, eqb, eq-eqb, ne_eqb, List, length, set, length-set, sym, refl, ap, subst, ◌∙◌, inl, arith}
use Rattle.std.specs.Prelude.{Option, Some, slice_index, slice_set}
use mathlib.Core.Option.{some, none}
use mathlib.Core.Logic.{dite}
use native.Mathlib.Decide.{dec_le, ℕ_discrete}
use prog.Atomic.{either}
use lib.ListN.{get_elem?}
use Rattle.atomic_table.specs.Table.{Act, Allows, Me, State, Valid, carried_after, keeps, step, stepped, takes}
use Rattle.atomic_table.proofs.Lists.{exchanged, set_else, set_here}
use Rattle.exec_lane.specs.Lane.{Lane}
use Rattle.exec_lane.specs.Opening.{IsLaneOf, opened_lane}
use Rattle.exec_board.specs.Plays.{IsBoxOf, claimed}
use Rattle.exec_board.specs.Rule.{IsHome, BoardRule, LaneOk, LiveOk, ViewOk, gap, covered, has_number, held, is_same, in_range, tally}
use Rattle.exec_board.specs.Seats.{IsLast, SeatView, holding, nobody, refused, seen_at}
use Rattle.exec_board.proofs.Moved.{changed-same, held_on, index-set, index-set-else, lane_same, moved}
use Rattle.exec_board.proofs.Tallies.{tally-alone, tally-part, tally-same, tally-set, tally-two}

-- ---- the last pass is alone

spent : (u : SeatView) (lanes : List Lane) (most : ℕ) (count : ℕ → ℕ) → ViewOk lanes most count u → (u.start < u.stop → ⊥) → u ≡ nobody
spent u lanes most count ok empty = dite (dec_le u.stop u.start) (λ within. ok.spent within) (λ beyond. absurd (empty (omega (arith, beyond))))

pub alone : (s : State (Option Lane) SeatView) (k : BoardRule s) (seat : ℕ) (v : SeatView) → get_elem? s.views seat ≡ some v → v.passes ≡ k.most → IsLast v
    → (other : ℕ) (u : SeatView) → other ≢ seat → get_elem? s.views other ≡ some u → u ≡ nobody
alone s k seat v at most last other u gap there = spent u k.opening k.most k.count (k.views_ok other u there)
    (λ some_share.
    let within = ((k.views_ok other u there).live some_share).within in
    let two = tally-two (has_number u.start) s.views other seat u v gap there at in
    let one = k.disjoint u.start in
    let theirs : has_number u.start u ≡ 1 = omega (arith, some_share) in
    let starts = last.0 in
    let stops = last.1 in
    let mine : has_number u.start v ≡ 1 = omega (arith, starts, stops, most, within, some_share) in
    absurd (omega (arith, two, one, theirs, mine)))

-- a count of the last pass alone is that of all passes
pub counts_alone : (s : State (Option Lane) SeatView) (k : BoardRule s) (seat : ℕ) (v : SeatView) (f : SeatView → ℕ) → get_elem? s.views seat ≡ some v → v.passes ≡ k.most → IsLast v
    → f nobody ≡ 0 → tally f s.views ≡ f v
counts_alone s k seat v f at most last empty = tally-alone f s.views seat v at (λ other u gap there. ap f (alone s k seat v at most last other u gap there) ∙ empty)

-- ---- a claim

module _ (s : State (Option Lane) SeatView) (k : BoardRule s) (slots seat : ℕ) (me : Me (Option Lane) SeatView) (lane : ℕ)
    (at : get_elem? s.views seat ≡ some me.0) (some_share : me.0.start < me.0.stop) (there : lane < length me.0.opening)
    (as_many : length s.homes ≡ slots) where
  abbrev v : SeatView
  v = me.0

  abbrev n : ℕ
  n = slice_index s.words lane

  live : LiveOk k.opening k.most k.count v
  live = (k.views_ok seat v at).live some_share

  within : lane < length k.opening
  within = subst (λ (lanes : List Lane). lane < length lanes) live.same_opening there

  ok : LaneOk (opened_lane k.opening lane) (k.count lane) n (get_elem? s.homes lane) (tally (held lane) s.views) (λ callback. tally (covered lane callback) s.views)
  ok = k.lanes_ok lane within

  -- what the step must give, where the word becomes m
  abbrev Goes : ℕ → Type 0
  Goes m = (w : SeatView) × (a : Act (Option Lane)) × Valid s.homes me.1 a × BoardRule (stepped s lane m seat me.1 w a) × claimed (step slots lane 0 1 none) me n (w, carried_after me.1 a)

  -- a pass holds no lane that none holds
  not_held : n ≢ 1 → held lane v ≡ 0
  not_held gap = let none_does = ok.no_holder gap in let mine = tally-part (held lane) s.views seat v at in omega (arith, none_does, mine)

  no_other : (other : ℕ) → other ≢ lane → is_same lane other ≡ 0
  no_other other gap = dite (dec_le lane other) (λ le. omega (arith, le, strict le)) (λ more. omega (arith, more))
    where
      strict : lane ≤ other → lane < other
      strict le = dite (dec_le other lane) (λ ge. absurd (gap (omega (arith, le, ge)))) (λ more. omega (arith, more))

  box_of : (home : IsHome (opened_lane k.opening lane) (k.count lane) (get_elem? s.homes lane)) → n ≡ 0 → IsBoxOf v lane home.0
  box_of home open_ =
      let box : Lane = home.0 in
      let count : box.done ≡ k.count lane = home.3 in
      let few = ok.unfinished open_ in
      let entries : length box.entries ≡ length (opened_lane k.opening lane).entries = ap length home.2.entries in
      let whole : (callback : ℕ) → tally (covered lane callback) s.views ≡ in_range (opened_lane k.opening lane).done box.done callback =
      λ callback. ok.whole callback ∙ ap (λ (m : ℕ). in_range (opened_lane k.opening lane).done m callback) (sym count) in
      let first : opened_lane v.opening lane ≡ opened_lane k.opening lane = ap (λ (lanes : List Lane). opened_lane lanes lane) live.same_opening in
      let since = ok.since in
      let ran = live.ran lane within in record {
        same = subst (λ (l : Lane). IsLaneOf l box) (sym first) home.2;
        unfinished = omega (arith, count, few, entries);
        since = subst (λ (l : Lane). l.done ≤ box.done) (sym first) (omega (arith, count, since));
        seen = omega (arith, count, ran);
        whole = (s.views, seat, at, λ callback. whole callback ∙ ap (λ (l : Lane). in_range l.done box.done callback) (sym first));
        alone = λ last callback. sym (counts_alone s k seat v (covered lane callback) at live.same_passes last refl) ∙ whole callback ∙ ap (λ (l : Lane). in_range l.done box.done callback) (sym first);
      }

  won : n ≡ 0 → Goes 1
  won open_ =
      let home = ok.at_home (λ one. omega (arith, one, open_)) in
      let box : Lane = home.0 in
      let count : box.done ≡ k.count lane = home.3 in
      let w : SeatView = holding lane box.done v in
      let before = ok.no_holder (λ one. omega (arith, one, open_)) in
      let holders : tally (held lane) (set s.views seat w) ≡ 1 =
      let changes = tally-set (held lane) s.views seat v w at in omega (arith, changes, before) in
      let homes_within : lane < length s.homes = omega (arith, within, k.homes_are) in (
        w,
        takes lane (Some box),
        home.1,
        moved s k seat v w lane 1 (k.count lane) (set s.homes lane none) at within (omega arith) (length-set s.homes lane none) (λ other gap. set_else s.homes lane other none gap)
            (λ other gap. let zero_ = no_other other gap in omega (arith, zero_)) (λ other callback gap. refl) refl refl (λ other u gap there. inl refl)
            (record {
              spent = λ empty. absurd (omega (arith, empty, some_share));
              live = λ _. record {
                same_opening = live.same_opening;
                same_passes = live.same_passes;
                within = live.within;
                sized = live.sized;
                ran = λ other inside. let was = live.ran other inside in let same = changed-same k.count lane (k.count lane) other refl in omega (arith, was, same);
                held_so = (within, count ∙ sym (changed-same k.count lane (k.count lane) lane refl), held_on (length k.opening) k.count lane (k.count lane) v.holds (inl refl) live.held_so);
              };
            })
            (record {
              known = omega arith;
              since = ok.since;
              within = ok.within;
              at_home = λ gap. absurd (gap refl);
              out = λ _. set_here s.homes lane none homes_within;
              unfinished = λ e. absurd (omega (arith, e));
              finished = λ e. absurd (omega (arith, e));
              one_holder = λ _. holders;
              no_holder = λ gap. absurd (gap refl);
              whole = λ callback. tally-same (covered lane callback) s.views seat v w at refl ∙ ok.whole callback;
            }),
        ((λ _. (box, refl, box_of home open_, not_held (λ one. omega (arith, one, open_)))), (λ closed. absurd (closed open_))),
      )

  seen_ok : n ≢ 0 → (other : ℕ) → other < length k.opening → slice_index (seen_at lane n v) other ≤ k.count other
  seen_ok closed other inside = dite (ℕ_discrete n 2)
      (λ two.
      let is : seen_at lane n v ≡ slice_set v.seen lane (length (opened_lane v.opening lane).entries) = ap (λ (b : Bool). cond b (slice_set v.seen lane (length (opened_lane v.opening lane).entries)) v.seen) (eq-eqb n 2 two) in
      dite (ℕ_discrete other lane)
      (λ same.
      let now : slice_index (seen_at lane n v) other ≡ length (opened_lane v.opening lane).entries =
      ap (λ (xs : List ℕ). slice_index xs other) is ∙ ap (λ (l : ℕ). slice_index (slice_set v.seen lane (length (opened_lane v.opening lane).entries)) l) same ∙ index-set v.seen lane (length (opened_lane v.opening lane).entries) (omega (arith, within, live.sized)) in
      let entries : length (opened_lane v.opening lane).entries ≡ length (opened_lane k.opening lane).entries = ap (λ (lanes : List Lane). length (opened_lane lanes lane).entries) live.same_opening in
      let all = ok.finished two in
      let from : k.count other ≡ k.count lane = ap k.count same in
      omega (arith, now, entries, all, from))
      (λ gap.
      let now : slice_index (seen_at lane n v) other ≡ slice_index v.seen other = ap (λ (xs : List ℕ). slice_index xs other) is ∙ index-set-else v.seen lane other (length (opened_lane v.opening lane).entries) gap in
      let was = live.ran other inside in
      omega (arith, now, was)))
      (λ gap.
      let now : slice_index (seen_at lane n v) other ≡ slice_index v.seen other = ap (λ (b : Bool). slice_index (cond b (slice_set v.seen lane (length (opened_lane v.opening lane).entries)) v.seen) other) (ne_eqb n 2 gap) in
      let was = live.ran other inside in
      omega (arith, now, was))

  seen_sized : length (seen_at lane n v) ≡ length k.opening
  seen_sized = dite (ℕ_discrete n 2)
      (λ two. ap (λ (b : Bool). length (cond b (slice_set v.seen lane (length (opened_lane v.opening lane).entries)) v.seen)) (eq-eqb n 2 two) ∙ length-set v.seen lane (length (opened_lane v.opening lane).entries) ∙ live.sized)
      (λ gap. ap (λ (b : Bool). length (cond b (slice_set v.seen lane (length (opened_lane v.opening lane).entries)) v.seen)) (ne_eqb n 2 gap) ∙ live.sized)

  lost : n ≢ 0 → Goes n
  lost closed =
      let w : SeatView = refused lane n v in (
        w,
        keeps,
        tt,
        moved s k seat v w lane n (k.count lane) s.homes at within (omega arith) refl (λ other gap. refl) (λ other gap. refl) (λ other callback gap. refl) refl refl (λ other u gap there. inl refl)
            (record {
              spent = λ empty. absurd (omega (arith, empty, some_share));
              live = λ _. record {
                same_opening = live.same_opening;
                same_passes = live.same_passes;
                within = live.within;
                sized = seen_sized;
                ran = λ other inside. let was = seen_ok closed other inside in let same = changed-same k.count lane (k.count lane) other refl in omega (arith, was, same);
                held_so = held_on (length k.opening) k.count lane (k.count lane) v.holds (inl refl) live.held_so;
              };
            })
            (lane_same (opened_lane k.opening lane) (k.count lane) (k.count lane) n n (get_elem? s.homes lane) (get_elem? s.homes lane) (tally (held lane) s.views) (tally (held lane) (set s.views seat w)) (λ callback. tally (covered lane callback) s.views) (λ callback. tally (covered lane callback) (set s.views seat w))
            refl refl refl (tally-same (held lane) s.views seat v w at refl) (λ callback. tally-same (covered lane callback) s.views seat v w at refl) ok),
        (
          (λ open_. absurd (closed open_)),
          (λ _. (ok.known, refl, (λ one last. sym (counts_alone s k seat v (held lane) at live.same_passes last refl) ∙ ok.one_holder one), (λ two. not_held (λ one. omega (arith, one, two))))),
        ),
      )

  goes : Goes (either (eqb n 0) 1 n)
  goes = exchanged n 0 1 Goes won lost

pub claims : (slots seat : ℕ) (me : Me (Option Lane) SeatView) (lane : ℕ) → me.0.start < me.0.stop → lane < length me.0.opening
    → Allows BoardRule slots seat me lane (λ n. either (eqb n 0) 1 n) (claimed (step slots lane 0 1 none) me)
claims slots seat me lane some_share there s k as_many at small = goes s k slots seat me lane at some_share there as_many
