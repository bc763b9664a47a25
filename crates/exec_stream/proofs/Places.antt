-- Segments that have each callback of each lane once have all that the callbacks left.
use Rattle.std.proofs.Common.{◌≡◌, ℕ, zero, suc, ◌+◌, ◌-◌, ◌<◌, ◌≤◌, ◌⊎◌, inl, inr, List, [], ◌∷◌, ◌++◌, append_assoc, get_or, length, map, refl, sym, ap, subst, ◌∙◌, arith, IsPermutation}
use Rattle.std.specs.List.{flat_map, range_with_len, slice_get}
use Rattle.std.specs.Option.{option_to_list}
use Rattle.std.specs.Prelude.{slice_index, Option, Some}
use Rattle.std.proofs.lemmas.Grind.{flat_map-append}
use Rattle.std.proofs.Math.Seq.{get_or-append_seam}
use Rattle.std.proofs.lemmas.List.{get_or_past, length-append}
use Rattle.std.proofs.lemmas.List.Concat.{flat_map-cons}
use Rattle.std.proofs.lemmas.List.Folds.{flat_map-map}
use Rattle.std.proofs.lemmas.List.Sorted.{IsPermutation-append_comm, IsPermutation-append_left, IsPermutation-append_right, IsPermutation-refl, IsPermutation-sym, IsPermutation-trans}
use Rattle.std.proofs.lemmas.Option.{slice_get-get_or}
use Rattle.exec_stream.specs.Streams.{items_from}
use mathlib.Core.Logic.{dite}
use native.Mathlib.Decide.{dec_le}
use Rattle.exec_board.specs.Rule.{gap, in_range, in_segment, tally}
use Rattle.exec_board.specs.Seats.{Segment}

-- a callback: its lane and its place there, both from 0
abbrev pub Place : Type 0
Place = ℕ × ℕ

-- 1 for the callback at this place, 0 for others
abbrev pub is_at : Place → Place → ℕ
is_at here place = 1 - (gap place.0 here.0 + gap place.1 here.1)

-- how often a list has it
abbrev pub times : Place → List Place → ℕ
times here places = tally (is_at here) places

here_once : (here : Place) → is_at here here ≡ 1
here_once here = omega arith

at_here : (here place : Place) → 1 ≤ is_at here place → place ≡ here
at_here here place is =
    let lane : place.0 ≡ here.0 = omega (arith, is) in
    let callback : place.1 ≡ here.1 = omega (arith, is) in
    λ i. (lane i, callback i)

-- ---- as many of each

module _ {A : Type 0} (f : Place → List A) where
  change_places : (a b c : List A) → IsPermutation (a ++ (b ++ c)) (b ++ (a ++ c))
  change_places a b c =
      subst (λ (xs : List A). IsPermutation xs (b ++ (a ++ c))) (append_assoc a b c)
      (subst (λ (ys : List A). IsPermutation ((a ++ b) ++ c) ys) (append_assoc b a c) (IsPermutation-append_left c (a ++ b) (b ++ a) (IsPermutation-append_comm a b)))

  -- a list without one of its places
  record Found (here : Place) (places : List Place) : Type 0 where
    others : List Place
    same : IsPermutation (flat_map f places) (f here ++ flat_map f others)
    fewer : (place : Place) → times place places ≡ is_at place here + times place others

  find : (here : Place) (places : List Place) → 0 < times here places → Found here places
  find here [] has = absurd (omega (arith, has))
  find here (place ∷ places) has = dite (dec_le 1 (is_at here place)) first (λ apart. behind (find here places (omega (arith, has, apart))))
    where
      first : 1 ≤ is_at here place → Found here (place ∷ places)
      first is = record {
        others = places;
        same = subst (λ (xs : List A). IsPermutation (flat_map f (place ∷ places)) xs) (flat_map-cons f place places ∙ ap (λ (p : Place). f p ++ flat_map f places) (at_here here place is)) (IsPermutation-refl (flat_map f (place ∷ places)));
        fewer = λ other. ap (λ (p : Place). is_at other p + times other places) (at_here here place is);
      }

      behind : Found here places → Found here (place ∷ places)
      behind found = record {
        others = place ∷ found.others;
        same =
            subst (λ (xs : List A). IsPermutation xs (f here ++ flat_map f (place ∷ found.others))) (sym (flat_map-cons f place places))
            (subst (λ (xs : List A). IsPermutation (f place ++ flat_map f places) (f here ++ xs)) (sym (flat_map-cons f place found.others))
            (IsPermutation-trans (f place ++ flat_map f places) (f place ++ (f here ++ flat_map f found.others)) (f here ++ (f place ++ flat_map f found.others))
            (IsPermutation-append_right (f place) (flat_map f places) (f here ++ flat_map f found.others) found.same)
            (change_places (f place) (f here) (flat_map f found.others))));
        fewer = λ other. let less = found.fewer other in omega (arith, less);
      }

  -- places of which each has nothing or isn't there have nothing
  nothing : (places : List Place) → ((place : Place) → (f place ≡ []) ⊎ (0 ≡ times place places)) → flat_map f places ≡ []
  nothing [] none = refl
  nothing (place ∷ places) none = flat_map-cons f place places ∙ (λ i. head i ++ nothing places rest i)
    where
      head : f place ≡ []
      head = elim (none place) [ inl empty ↦ empty | inr never ↦ absurd (let once = here_once place in omega (arith, never, once)) ]

      rest : (other : Place) → (f other ≡ []) ⊎ (0 ≡ times other places)
      rest other = elim (none other) [ inl empty ↦ inl empty | inr never ↦ inr (omega (arith, never)) ]

  -- two lists that have each place as often, unless it has nothing, have the same
  pub same_times : (places others : List Place) → ((place : Place) → (f place ≡ []) ⊎ (times place places ≡ times place others)) → IsPermutation (flat_map f places) (flat_map f others)
  same_times [] others same = subst (λ (xs : List A). IsPermutation [] xs) (sym (nothing others same)) (IsPermutation-refl [])
  same_times (place ∷ places) others same = by (same_times places) (same place)
    where
      by : ((ys : List Place) → ((other : Place) → (f other ≡ []) ⊎ (times other places ≡ times other ys)) → IsPermutation (flat_map f places) (flat_map f ys))
          → (f place ≡ []) ⊎ (times place (place ∷ places) ≡ times place others) → IsPermutation (flat_map f (place ∷ places)) (flat_map f others)
      by rest (inl empty) =
          subst (λ (xs : List A). IsPermutation xs (flat_map f others)) (sym (flat_map-cons f place places ∙ ap (λ (xs : List A). xs ++ flat_map f places) empty))
          (rest others (λ other. elim (same other) [
            | inl none ↦ inl none
            | inr often ↦ dite (dec_le 1 (is_at other place)) (λ is. inl (ap f (sym (at_here other place is)) ∙ empty)) (λ apart. inr (omega (arith, often, apart)))
          ]))
      by rest (inr often) = with (find place others (let once = here_once place in omega (arith, often, once)))
        where
          with : Found place others → IsPermutation (flat_map f (place ∷ places)) (flat_map f others)
          with found =
              subst (λ (xs : List A). IsPermutation xs (flat_map f others)) (sym (flat_map-cons f place places))
              (IsPermutation-trans (f place ++ flat_map f places) (f place ++ flat_map f found.others) (flat_map f others)
              (IsPermutation-append_right (f place) (flat_map f places) (flat_map f found.others)
              (rest found.others (λ other. elim (same other) [ inl none ↦ inl none | inr all ↦ inr (let fewer = found.fewer other in omega (arith, all, fewer)) ])))
              (IsPermutation-sym (flat_map f others) (f place ++ flat_map f found.others) found.same))

-- ---- ranges of places

-- callbacks of a lane, so many from this one on
abbrev pub places_from : ℕ → ℕ → ℕ → List Place
places_from lane first count = map (λ (callback : ℕ). (lane, callback)) (range_with_len first count)

range_first : (first count x : ℕ) → in_range first (first + suc count) x ≡ (1 - gap first x) + in_range (first + 1) ((first + 1) + count) x
range_first first count x = omega arith

range_none : (first x : ℕ) → in_range first (first + 0) x ≡ 0
range_none first x = omega arith

range_short : (first end x : ℕ) → in_range first (first + (end - first)) x ≡ in_range first end x
range_short first end x = omega arith

range_most : (first end x : ℕ) → in_range first end x ≤ 1
range_most first end x = omega arith

apart : (d r g : ℕ) → (1 - d) + r ≤ 1 → (1 - (g + d)) + (r - g) ≡ ((1 - d) + r) - g
apart d r g few = omega (arith, few)

-- how often a range has a place
times_from : (here : Place) (lane first count : ℕ) → times here (places_from lane first count) ≡ in_range first (first + count) here.1 - gap lane here.0
times_from here lane first zero = let none = range_none first here.1 in omega (arith, none)
times_from here lane first (suc count) =
    let rest = times_from here lane (first + 1) count in
    let more = range_first first count here.1 in
    let most = range_most first (first + suc count) here.1 in
    ap (λ (n : ℕ). is_at here (lane, first) + n) rest
    ∙ apart (gap first here.1) (in_range (first + 1) ((first + 1) + count) here.1) (gap lane here.0) (subst (λ (n : ℕ). n ≤ 1) more most)
    ∙ ap (λ (n : ℕ). n - gap lane here.0) (sym more)

tally-append : {A : Type 0} (n : A → ℕ) (xs ys : List A) → tally n (xs ++ ys) ≡ tally n xs + tally n ys
tally-append n [] ys = omega arith
tally-append n (x ∷ xs) ys = let rest = tally-append n xs ys in omega (arith, rest)

-- the callbacks of segments
abbrev pub places_of : List Segment → List Place
places_of [] = []
places_of (segment ∷ segments) = places_from segment.lane segment.first (segment.end - segment.first) ++ places_of segments

times_of : (here : Place) (segments : List Segment) → times here (places_of segments) ≡ tally (in_segment here.0 here.1) segments
times_of here [] = refl
times_of here (segment ∷ segments) =
    tally-append (is_at here) (places_from segment.lane segment.first (segment.end - segment.first)) (places_of segments)
    ∙ (λ i. (times_from here segment.lane segment.first (segment.end - segment.first) ∙ ap (λ (n : ℕ). n - gap segment.lane here.0) (range_short segment.first segment.end here.1)) i + times_of here segments i)

-- all callbacks of lanes of these lengths, the first of which has this number
abbrev pub all_places : ℕ → List ℕ → List Place
all_places lane [] = []
all_places lane (n ∷ lengths) = places_from lane 0 n ++ all_places (lane + 1) lengths

-- none of a lane before the first
times_before : (here : Place) (lane : ℕ) (lengths : List ℕ) → here.0 < lane → times here (all_places lane lengths) ≡ 0
times_before here lane [] low = refl
times_before here lane (n ∷ lengths) low =
    let both = tally-append (is_at here) (places_from lane 0 n) (all_places (lane + 1) lengths) in
    let one = times_from here lane 0 n in
    let most = range_most 0 (0 + n) here.1 in
    let rest = times_before here (lane + 1) lengths (omega (arith, low)) in
    omega (arith, both, one, most, rest, low)

-- a callback of a lane once
times_all : (here : Place) (lane k : ℕ) (lengths : List ℕ) → k < length lengths → here.0 ≡ lane + k → times here (all_places lane lengths) ≡ in_range 0 (slice_index lengths k) here.1
times_all here lane k [] within is = absurd (omega (arith, within))
times_all here lane zero (n ∷ lengths) within is =
    let both = tally-append (is_at here) (places_from lane 0 n) (all_places (lane + 1) lengths) in
    let one = times_from here lane 0 n in
    let rest = times_before here (lane + 1) lengths (omega (arith, is)) in
    let none : gap lane here.0 ≡ 0 = omega (arith, is) in
    let n_is : 0 + n ≡ n = omega arith in
    let long : in_range 0 (0 + n) here.1 ≡ in_range 0 n here.1 = ap (λ (m : ℕ). in_range 0 m here.1) n_is in
    omega (arith, both, one, rest, none, long)
times_all here lane (suc k) (n ∷ lengths) within is =
    let both = tally-append (is_at here) (places_from lane 0 n) (all_places (lane + 1) lengths) in
    let one = times_from here lane 0 n in
    let most = range_most 0 (0 + n) here.1 in
    let rest = times_all here (lane + 1) k lengths (omega (arith, within)) (omega (arith, is)) in
    let away : 1 ≤ gap lane here.0 = omega (arith, is) in
    omega (arith, both, one, most, rest, away)

-- ---- what lanes left, callback by callback

module _ {A : Type 0} where
  rest_from : (before xs : List A) → items_from (before ++ xs) (length before) (length xs) ≡ xs
  rest_from before [] = refl
  rest_from before (x ∷ xs) =
      flat_map-cons (λ (i : ℕ). option_to_list (slice_get (before ++ x ∷ xs) i)) (length before) (range_with_len (length before + 1) (length xs))
      ∙ ap (λ (found : Option A). option_to_list found ++ items_from (before ++ x ∷ xs) (length before + 1) (length xs)) here
      ∙ ap (λ (ys : List A). x ∷ ys) ((λ i. items_from (sym (append_assoc before (x ∷ []) xs) i) (sym (length-append before (x ∷ [])) i) (length xs)) ∙ rest_from (before ++ x ∷ []) xs)
    where
      here : slice_get (before ++ x ∷ xs) (length before) ≡ Some x
      here = slice_get-get_or (before ++ x ∷ xs) (length before) x (let long = length-append before (x ∷ xs) in omega (arith, long)) ∙ ap (λ (y : A). Some y) (get_or-append_seam before x xs x)

  all_taken : (xs : List A) → items_from xs 0 (length xs) ≡ xs
  all_taken xs = rest_from [] xs

module _ {L A : Type 0} (left : L → List A) (none : L) (empty : left none ≡ []) where
  -- what the callback of a lane left
  abbrev at : List L → Place → List A
  at lanes place = option_to_list (slice_get (left (get_or lanes place.0 none)) place.1)

  -- what a segment left
  abbrev pub left_by : List L → Segment → List A
  left_by lanes segment = items_from (left (get_or lanes segment.lane none)) segment.first (segment.end - segment.first)

  by_places : (lanes : List L) (segments : List Segment) → flat_map (at lanes) (places_of segments) ≡ flat_map (left_by lanes) segments
  by_places lanes [] = refl
  by_places lanes (segment ∷ segments) =
      flat_map-append (at lanes) (places_from segment.lane segment.first (segment.end - segment.first)) (places_of segments)
      ∙ (λ i. flat_map-map (at lanes) (λ (callback : ℕ). (segment.lane, callback)) (range_with_len segment.first (segment.end - segment.first)) i ++ by_places lanes segments i)
      ∙ sym (flat_map-cons (left_by lanes) segment segments)

  by_lanes : (before lanes : List L) → flat_map (at (before ++ lanes)) (all_places (length before) (map (λ (lane : L). length (left lane)) lanes)) ≡ flat_map left lanes
  by_lanes before [] = refl
  by_lanes before (lane ∷ lanes) =
      flat_map-append (at (before ++ lane ∷ lanes)) (places_from (length before) 0 (length (left lane))) (all_places (length before + 1) (map (λ (one : L). length (left one)) lanes))
      ∙ (λ i.
      (flat_map-map (at (before ++ lane ∷ lanes)) (λ (callback : ℕ). (length before, callback)) (range_with_len 0 (length (left lane)))
      ∙ ap (λ (one : L). items_from (left one) 0 (length (left lane))) (get_or-append_seam before lane lanes none)
      ∙ all_taken (left lane)) i
      ++ ((λ j. flat_map (at (sym (append_assoc before (lane ∷ []) lanes) j)) (all_places (sym (length-append before (lane ∷ [])) j) (map (λ (one : L). length (left one)) lanes))) ∙ by_lanes (before ++ lane ∷ []) lanes) i)
      ∙ sym (flat_map-cons left lane lanes)

  length_at : (lanes : List L) (k : ℕ) → k < length lanes → slice_index (map (λ (lane : L). length (left lane)) lanes) k ≡ length (left (get_or lanes k none))
  length_at [] k within = absurd (omega (arith, within))
  length_at (lane ∷ lanes) zero within = refl
  length_at (lane ∷ lanes) (suc k) within = length_at lanes k (omega (arith, within))

  as_many : (lanes : List L) → length (map (λ (lane : L). length (left lane)) lanes) ≡ length lanes
  as_many [] = refl
  as_many (lane ∷ lanes) = ap suc (as_many lanes)

  -- segments that have each callback of each lane once left what the lanes did
  pub whole_left : (lanes : List L) (segments : List Segment) →
      ((lane callback : ℕ) → lane < length lanes → tally (in_segment lane callback) segments ≡ in_range 0 (length (left (get_or lanes lane none))) callback) →
      IsPermutation (flat_map (left_by lanes) segments) (flat_map left lanes)
  whole_left lanes segments whole =
      subst (λ (xs : List A). IsPermutation xs (flat_map left lanes)) (by_places lanes segments)
      (subst (λ (xs : List A). IsPermutation (flat_map (at lanes) (places_of segments)) xs) (by_lanes [] lanes)
      (same_times (at lanes) (places_of segments) (all_places 0 (map (λ (lane : L). length (left lane)) lanes)) often))
    where
      often : (place : Place) → (at lanes place ≡ []) ⊎ (times place (places_of segments) ≡ times place (all_places 0 (map (λ (lane : L). length (left lane)) lanes)))
      often place = dite (dec_le (length lanes) place.0)
          (λ past. inl (ap (λ (lane : L). option_to_list (slice_get (left lane) place.1)) (get_or_past lanes place.0 none past) ∙ ap (λ (xs : List A). option_to_list (slice_get xs place.1)) empty))
          (λ before.
          let within : place.0 < length lanes = omega (arith, before) in
          let many = as_many lanes in
          inr (times_of place segments ∙ whole place.0 place.1 within ∙ ap (λ (n : ℕ). in_range 0 n place.1) (sym (length_at lanes place.0 within)) ∙ sym (times_all place 0 place.0 (map (λ (lane : L). length (left lane)) lanes) (omega (arith, within, many)) (omega arith))))
