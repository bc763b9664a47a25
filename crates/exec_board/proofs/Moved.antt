-- One step on one lane's word by one seat keeps the rule.
use Rattle.std.proofs.Common.{◌≡◌, ◌≢◌, ◌⊎◌, ℕ, zero, suc, ◌<◌, ◌≤◌, Bool, cond, eqb, eq-eqb, ne_eqb, List, [], ◌∷◌, length, set, length-set, sym, refl, ap, subst, ◌∙◌, inl, inr, ⊎_elim, arith}
use Rattle.std.specs.Prelude.{Option, slice_index, slice_set}
use mathlib.Core.Option.{some}
use mathlib.Core.Logic.{dite}
use native.Mathlib.Decide.{ℕ_discrete}
use lib.ListN.{get_elem?}
use Rattle.atomic_table.specs.Table.{State}
use Rattle.atomic_table.proofs.Lists.{at_set}
use Rattle.exec_lane.specs.Lane.{Lane}
use Rattle.exec_lane.specs.Opening.{opened_lane}
use Rattle.exec_board.specs.Rule.{AreHeld, Home, BoardRule, LaneOk, ViewOk, covered, has_number, held, is_same, in_range, tally}
use Rattle.exec_board.specs.Seats.{Hold, SeatView}
use Rattle.exec_board.proofs.Tallies.{tally-same}

-- ---- a list of numbers, one of which changed

pub index-set : (xs : List ℕ) (i n : ℕ) → i < length xs → slice_index (slice_set xs i n) i ≡ n
index-set [] i n within = absurd (omega (arith, within))
index-set (x ∷ xs) zero n within = refl
index-set (x ∷ xs) (suc i) n within = index-set xs i n (omega (arith, within))

pub index-set-else : (xs : List ℕ) (i j n : ℕ) → j ≢ i → slice_index (slice_set xs i n) j ≡ slice_index xs j
index-set-else [] i j n apart = refl
index-set-else (x ∷ xs) zero zero n apart = absurd (apart refl)
index-set-else (x ∷ xs) zero (suc j) n apart = refl
index-set-else (x ∷ xs) (suc i) zero n apart = refl
index-set-else (x ∷ xs) (suc i) (suc j) n apart = index-set-else xs i j n (λ same. apart (ap suc same))

-- ---- counts, one of which changed

abbrev pub changed : (ℕ → ℕ) → ℕ → ℕ → ℕ → ℕ
changed count lane n other = cond (eqb other lane) n (count other)

pub changed-here : (count : ℕ → ℕ) (lane n : ℕ) → changed count lane n lane ≡ n
changed-here count lane n = ap (λ (b : Bool). cond b n (count lane)) (eq-eqb lane lane refl)

pub changed-else : (count : ℕ → ℕ) (lane n other : ℕ) → other ≢ lane → changed count lane n other ≡ count other
changed-else count lane n other apart = ap (λ (b : Bool). cond b n (count other)) (ne_eqb other lane apart)

-- a count that rose where it changed is nowhere less
pub changed-more : (count : ℕ → ℕ) (lane n other : ℕ) → count lane ≤ n → count other ≤ changed count lane n other
changed-more count lane n other more = dite (ℕ_discrete other lane)
    (λ same. let is : changed count lane n other ≡ n = ap (λ (l : ℕ). changed count lane n l) same ∙ changed-here count lane n in let from : count other ≡ count lane = ap count same in omega (arith, is, from, more))
    (λ apart. let is = changed-else count lane n other apart in omega (arith, is))

-- where nothing changed
pub changed-same : (count : ℕ → ℕ) (lane n other : ℕ) → n ≡ count lane → changed count lane n other ≡ count other
changed-same count lane n other none = dite (ℕ_discrete other lane)
    (λ same. ap (λ (l : ℕ). changed count lane n l) same ∙ changed-here count lane n ∙ none ∙ ap count (sym same))
    (λ apart. changed-else count lane n other apart)

-- ---- what stays of other lanes and passes

pub lane_same : (first : Lane) (n n' word word' : ℕ) (home home' : Home) (holders holders' : ℕ) (cover cover' : ℕ → ℕ)
    → n' ≡ n → word' ≡ word → home' ≡ home → holders' ≡ holders → ((callback : ℕ) → cover' callback ≡ cover callback)
    → LaneOk first n word home holders cover → LaneOk first n' word' home' holders' cover'
lane_same first n n' word word' home home' holders holders' cover cover' count_is word_is home_is holders_are cover_is ok =
    subst (λ (x : ℕ × ℕ × Home × ℕ × (ℕ → ℕ)). LaneOk first x.0 x.1 x.2 x.3 x.4) (λ i. (sym count_is i, sym word_is i, sym home_is i, sym holders_are i, λ callback. sym (cover_is callback) i)) ok

-- a lane that isn't held keeps no count
same_apart : (a b : ℕ) → is_same a b ≡ 0 → a ≢ b
same_apart a b none is = absurd (omega (arith, none, is))

pub held_on : (lanes : ℕ) (count : ℕ → ℕ) (lane n : ℕ) (holds : List Hold) → (n ≡ count lane) ⊎ (tally (λ (hold : Hold). is_same hold.lane lane) holds ≡ 0) → AreHeld lanes count holds → AreHeld lanes (changed count lane n) holds
held_on lanes count lane n [] quiet so = so
held_on lanes count lane n (hold ∷ holds) quiet so = (
  so.0,
  ⊎_elim
      (λ (none : n ≡ count lane). so.1 ∙ sym (changed-same count lane n hold.lane none))
      (λ (none : tally (λ (h : Hold). is_same h.lane lane) (hold ∷ holds) ≡ 0). so.1 ∙ sym (changed-else count lane n hold.lane (same_apart hold.lane lane (omega (arith, none)))))
      quiet,
  held_on lanes count lane n holds (⊎_elim (λ (none : n ≡ count lane). inl none) (λ (none : tally (λ (h : Hold). is_same h.lane lane) (hold ∷ holds) ≡ 0). inr (omega (arith, none))) quiet) so.2,
)

-- what another pass knows stays true
pub view_on : (lanes : List Lane) (most : ℕ) (count : ℕ → ℕ) (lane n : ℕ) (view : SeatView) → count lane ≤ n → (n ≡ count lane) ⊎ (held lane view ≡ 0) → ViewOk lanes most count view → ViewOk lanes most (changed count lane n) view
view_on lanes most count lane n view more quiet ok = record {
  spent = ok.spent;
  live = λ some_share. let live = ok.live some_share in record {
    same_opening = live.same_opening;
    same_passes = live.same_passes;
    within = live.within;
    sized = live.sized;
    ran = λ other there. let was = live.ran other there in let now = changed-more count lane n other more in omega (arith, was, now);
    held_so = held_on (length lanes) count lane n view.holds quiet live.held_so;
  };
}

-- ---- the step

pub moved : (s : State (Option Lane) SeatView) (k : BoardRule s) (seat : ℕ) (v w : SeatView) (lane word n : ℕ) (homes : List (mathlib.Core.Option.Option (Option Lane)))
    → get_elem? s.views seat ≡ some v → lane < length k.opening → k.count lane ≤ n
    → length homes ≡ length s.homes → ((other : ℕ) → other ≢ lane → get_elem? homes other ≡ get_elem? s.homes other)
    → ((other : ℕ) → other ≢ lane → held other w ≡ held other v)
    → ((other callback : ℕ) → other ≢ lane → covered other callback w ≡ covered other callback v)
    → w.start ≡ v.start → w.stop ≡ v.stop
    → ((other : ℕ) (u : SeatView) → other ≢ seat → get_elem? s.views other ≡ some u → (n ≡ k.count lane) ⊎ (held lane u ≡ 0))
    → ViewOk k.opening k.most (changed k.count lane n) w
    → LaneOk (opened_lane k.opening lane) n word (get_elem? homes lane) (tally (held lane) (set s.views seat w)) (λ callback. tally (covered lane callback) (set s.views seat w))
    → BoardRule (record { words = slice_set s.words lane word; homes = homes; views = set s.views seat w })
moved s k seat v w lane word n homes at within more as_many homes_on held_on_ cover_on starts stops quiet view_ok lane_ok = record {
  opening = k.opening;
  most = k.most;
  count = changed k.count lane n;
  words_are = length-set s.words lane word ∙ k.words_are;
  homes_are = as_many ∙ k.homes_are;
  lanes_ok = λ other there. dite (ℕ_discrete other lane)
      (λ same. subst (λ (l : ℕ). LaneOk (opened_lane k.opening l) (changed k.count lane n l) (slice_index (slice_set s.words lane word) l) (get_elem? homes l) (tally (held l) (set s.views seat w)) (λ callback. tally (covered l callback) (set s.views seat w))) (sym same)
      (lane_same (opened_lane k.opening lane) n (changed k.count lane n lane) word (slice_index (slice_set s.words lane word) lane) (get_elem? homes lane) (get_elem? homes lane) (tally (held lane) (set s.views seat w)) (tally (held lane) (set s.views seat w)) (λ callback. tally (covered lane callback) (set s.views seat w)) (λ callback. tally (covered lane callback) (set s.views seat w))
      (changed-here k.count lane n) (index-set s.words lane word (omega (arith, within, k.words_are))) refl refl (λ callback. refl) lane_ok))
      (λ apart. lane_same (opened_lane k.opening other) (k.count other) (changed k.count lane n other) (slice_index s.words other) (slice_index (slice_set s.words lane word) other) (get_elem? s.homes other) (get_elem? homes other) (tally (held other) s.views) (tally (held other) (set s.views seat w)) (λ callback. tally (covered other callback) s.views) (λ callback. tally (covered other callback) (set s.views seat w))
      (changed-else k.count lane n other apart) (index-set-else s.words lane other word apart) (homes_on other apart) (tally-same (held other) s.views seat v w at (held_on_ other apart)) (λ callback. tally-same (covered other callback) s.views seat v w at (cover_on other callback apart)) (k.lanes_ok other there));
  views_ok = λ other u there. ⊎_elim
      (λ (is : (other ≡ seat) × (w ≡ u)). subst (ViewOk k.opening k.most (changed k.count lane n)) is.1 view_ok)
      (λ (is : (other ≢ seat) × (get_elem? s.views other ≡ some u)). view_on k.opening k.most k.count lane n u more (quiet other u is.0 is.1) (k.views_ok other u is.1))
      (at_set s.views seat other w u there);
  disjoint = λ number. subst (λ (x : ℕ). x ≤ 1) (sym (tally-same (has_number number) s.views seat v w at (λ i. in_range (starts i) (stops i) number))) (k.disjoint number);
}
