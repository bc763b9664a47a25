-- Splits and joins of passes keep the rule.
use Rattle.std.proofs.Common.{◌≡◌, ◌≢◌, ℕ, zero, suc, ◌+◌, ◌-◌, ◌/◌, ◌<◌, ◌≤◌, max, List, [], ◌∷◌, ◌++◌, length, set, sym, refl, ap, subst, ◌∙◌, ⊎_elim, arith}
use Rattle.std.specs.Prelude.{Option, slice_index}
use mathlib.Core.Option.{some}
use lib.ListN.{get_elem?}
use Rattle.atomic_table.specs.Table.{Joins, Splits, State}
use Rattle.atomic_table.proofs.Lists.{at_set, at_snoc}
use Rattle.exec_lane.specs.Lane.{Lane}
use Rattle.exec_lane.specs.Opening.{opened_lane}
use Rattle.exec_board.specs.Rule.{BoardRule, LiveOk, ViewOk, covered, has_number, held, in_segment, is_same, in_range, tally}
use Rattle.exec_board.specs.Seats.{Hold, SeatView, back_half, front_half, greater, middle, nobody, together}
use Rattle.exec_board.proofs.Moved.{lane_same}
use Rattle.exec_board.proofs.Tallies.{tally-append, tally-push, tally-set}

-- other views, among which all is counted as it was
regrouped : (s : State (Option Lane) SeatView) (k : BoardRule s) (views : List SeatView)
    → ((lane : ℕ) → tally (held lane) views ≡ tally (held lane) s.views)
    → ((lane callback : ℕ) → tally (covered lane callback) views ≡ tally (covered lane callback) s.views)
    → ((number : ℕ) → tally (has_number number) views ≡ tally (has_number number) s.views)
    → ((seat : ℕ) (view : SeatView) → get_elem? views seat ≡ some view → ViewOk k.opening k.most k.count view)
    → BoardRule (record { words = s.words; homes = s.homes; views = views })
regrouped s k views holders covers numbers each = record {
  opening = k.opening;
  most = k.most;
  count = k.count;
  words_are = k.words_are;
  homes_are = k.homes_are;
  lanes_ok = λ lane within. lane_same (opened_lane k.opening lane) (k.count lane) (k.count lane) (slice_index s.words lane) (slice_index s.words lane) (get_elem? s.homes lane) (get_elem? s.homes lane) (tally (held lane) s.views) (tally (held lane) views) (λ callback. tally (covered lane callback) s.views) (λ callback. tally (covered lane callback) views)
      refl refl refl (holders lane) (covers lane) (k.lanes_ok lane within);
  views_ok = each;
  disjoint = λ number. subst (λ (x : ℕ). x ≤ 1) (sym (numbers number)) (k.disjoint number);
}

-- two neighbouring ranges are one
pub cut : (a b c x : ℕ) → a ≤ b → b ≤ c → in_range a b x + in_range b c x ≡ in_range a c x
cut a b c x low high = omega (arith, low, high)

pub paste : (a b c d x : ℕ) → a < b → c < d → c ≡ b → in_range a d x + in_range 0 0 x ≡ in_range a b x + in_range c d x
paste a b c d x low high same = omega (arith, low, high, same)

-- ---- split

cut_in_two : (f : SeatView → ℕ) (views : List SeatView) (seat : ℕ) (v left right : SeatView) → get_elem? views seat ≡ some v → f left + f right ≡ f v → tally f (set views seat left ++ right ∷ []) ≡ tally f views
cut_in_two f views seat v left right at parts =
    let pushed = tally-push f (set views seat left) right in
    let changes = tally-set f views seat v left at in
    omega (arith, pushed, changes, parts)

pub middle_within : (start stop : ℕ) → start + 2 ≤ stop → (start < start + (stop - start) / 2) × (start + (stop - start) / 2 < stop)
middle_within start stop long = (omega (arith, long), omega (arith, long))

pub splits : (seat : ℕ) (v : SeatView) → v.start + 2 ≤ v.stop → v.holds ≡ [] → Splits BoardRule seat v (front_half v) (back_half v)
splits seat v long free s k at =
    let live : LiveOk k.opening k.most k.count v = (k.views_ok seat v at).live (omega (arith, long)) in
    let inside = middle_within v.start v.stop long in
    let least = inside.0 in
    let most = inside.1 in
    let under = live.within in
    let front : ViewOk k.opening k.most k.count (front_half v) = record {
      spent = λ empty. absurd (omega (arith, empty, least));
      live = λ _. record { same_opening = live.same_opening; same_passes = live.same_passes; within = omega (arith, most, under); sized = live.sized; ran = live.ran; held_so = live.held_so };
    } in
    let back : ViewOk k.opening k.most k.count (back_half v) = record {
      spent = λ empty. absurd (omega (arith, empty, most));
      live = λ _. record { same_opening = live.same_opening; same_passes = live.same_passes; within = live.within; sized = live.sized; ran = live.ran; held_so = tt };
    } in
    regrouped s k (set s.views seat (front_half v) ++ back_half v ∷ [])
    (λ lane. cut_in_two (held lane) s.views seat v (front_half v) (back_half v) at (omega arith))
    (λ lane callback. cut_in_two (covered lane callback) s.views seat v (front_half v) (back_half v) at (omega arith))
    (λ number. cut_in_two (has_number number) s.views seat v (front_half v) (back_half v) at (cut v.start (middle v) v.stop number (omega (arith, least)) (omega (arith, most))))
    (λ other u there. ⊎_elim
    (λ (was : get_elem? (set s.views seat (front_half v)) other ≡ some u). ⊎_elim
    (λ (is : (other ≡ seat) × (front_half v ≡ u)). subst (ViewOk k.opening k.most k.count) is.1 front)
    (λ (is : (other ≢ seat) × (get_elem? s.views other ≡ some u)). k.views_ok other u is.1)
    (at_set s.views seat other (front_half v) u was))
    (λ (is : back_half v ≡ u). subst (ViewOk k.opening k.most k.count) is back)
    (at_snoc (set s.views seat (front_half v)) (back_half v) u other there))

-- ---- join

put_together : (f : SeatView → ℕ) (views : List SeatView) (seat other : ℕ) (v w both spent : SeatView) → get_elem? views seat ≡ some v → get_elem? (set views seat both) other ≡ some w → f both + f spent ≡ f v + f w
    → tally f (set (set views seat both) other spent) ≡ tally f views
put_together f views seat other v w both spent at there parts =
    let first = tally-set f views seat v both at in
    let second = tally-set f (set views seat both) other w spent there in
    omega (arith, first, second, parts)

max_within : (a b c : ℕ) → a ≤ c → b ≤ c → max a b ≤ c
max_within a b c low high = omega (arith, low, high)

pub length-greater : (a b : List ℕ) → length a ≡ length b → length (greater a b) ≡ length a
length-greater [] b same = refl
length-greater (x ∷ a) [] same = absurd (omega (arith, same))
length-greater (x ∷ a) (y ∷ b) same = ap suc (length-greater a b (omega (arith, same)))

greater_within : (a b : List ℕ) (i n : ℕ) → slice_index a i ≤ n → slice_index b i ≤ n → slice_index (greater a b) i ≤ n
greater_within [] b i n low high = omega arith
greater_within (x ∷ a) [] i n low high = omega arith
greater_within (x ∷ a) (y ∷ b) zero n low high = max_within x y n low high
greater_within (x ∷ a) (y ∷ b) (suc i) n low high = greater_within a b i n low high

pub joins : (seat : ℕ) (v : SeatView) (other : ℕ) (w : SeatView) → v.start < v.stop → w.start < w.stop → w.start ≡ v.stop → w.holds ≡ [] → Joins BoardRule seat v other w (together v w) nobody
joins seat v other w some_share some_other neighbours free s k at apart there =
    let were : get_elem? s.views other ≡ some w = ⊎_elim
    (λ (is : (other ≡ seat) × (together v w ≡ w)). absurd (apart is.0))
    (λ (is : (other ≢ seat) × (get_elem? s.views other ≡ some w)). is.1)
    (at_set s.views seat other (together v w) w there) in
    let front : LiveOk k.opening k.most k.count v = (k.views_ok seat v at).live some_share in
    let back : LiveOk k.opening k.most k.count w = (k.views_ok other w were).live some_other in
    let both : ViewOk k.opening k.most k.count (together v w) = record {
      spent = λ empty. absurd (omega (arith, empty, some_share, some_other, neighbours));
      live = λ _. record {
        same_opening = front.same_opening;
        same_passes = front.same_passes;
        within = back.within;
        sized = length-greater v.seen w.seen (front.sized ∙ sym back.sized) ∙ front.sized;
        ran = λ lane inside. greater_within v.seen w.seen lane (k.count lane) (front.ran lane inside) (back.ran lane inside);
        held_so = front.held_so;
      };
    } in
    let gone : ViewOk k.opening k.most k.count nobody = record { spent = λ _. refl; live = λ some_. absurd (omega (arith, some_)) } in
    regrouped s k (set (set s.views seat (together v w)) other nobody)
    (λ lane.
    let none : held lane w ≡ 0 = ap (λ (holds : List Hold). tally (λ (hold : Hold). is_same hold.lane lane) holds) free in
    put_together (held lane) s.views seat other v w (together v w) nobody at there (omega (arith, none)))
    (λ lane callback.
    let all = tally-append (in_segment lane callback) v.segments w.segments in
    put_together (covered lane callback) s.views seat other v w (together v w) nobody at there (omega (arith, all)))
    (λ number. put_together (has_number number) s.views seat other v w (together v w) nobody at there (paste v.start v.stop w.start w.stop number some_share some_other neighbours))
    (λ place u found. ⊎_elim
    (λ (is : (place ≡ other) × (nobody ≡ u)). subst (ViewOk k.opening k.most k.count) is.1 gone)
    (λ (is : (place ≢ other) × (get_elem? (set s.views seat (together v w)) place ≡ some u)). ⊎_elim
    (λ (here : (place ≡ seat) × (together v w ≡ u)). subst (ViewOk k.opening k.most k.count) here.1 both)
    (λ (else : (place ≢ seat) × (get_elem? s.views place ≡ some u)). k.views_ok place u else.1)
    (at_set s.views seat place (together v w) u is.1))
    (at_set (set s.views seat (together v w)) other place nobody u found))
