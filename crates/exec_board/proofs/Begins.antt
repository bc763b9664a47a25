-- A fresh table keeps the rule.
use Rattle.std.proofs.Common.{◌≡◌, ℕ, zero, suc, ◌+◌, ◌<◌, ◌≤◌, List, [], ◌∷◌, ◌++◌, length, map, take, sym, refl, ap, subst, ◌∙◌, arith}
use Rattle.std.specs.Prelude.{Option, Some, slice_index, slice_index_or}
use mathlib.Core.Option.{some, some-injective, some-ne-none}
use lib.ListN.{get_elem?}
use Rattle.std.proofs.lemmas.List.{take_more}
use Rattle.atomic_table.specs.Table.{opening}
use Rattle.exec_lane.specs.Lane.{Lane}
use Rattle.exec_lane.specs.Opening.{opened_lane}
use Rattle.exec_board.specs.Rule.{BoardRule, Home, LaneOk, ViewOk}
use Rattle.exec_board.specs.Seats.{SeatView, opener}
use Rattle.exec_board.specs.inner.Homes.{AreWithin, word_at}
use Rattle.exec_board.proofs.Releases.{word_finished, word_not_held, word_open, word_small}

-- ---- words, slots and counts by the lane's number

as_many_words : (boxes : List Lane) → length (map word_at boxes) ≡ length boxes
as_many_words [] = refl
as_many_words (box ∷ boxes) = ap suc (as_many_words boxes)

as_many_slots : (boxes : List Lane) → length (map (λ (slot : Option Lane). some slot) (map (λ (box : Lane). Some box) boxes)) ≡ length boxes
as_many_slots [] = refl
as_many_slots (box ∷ boxes) = ap suc (as_many_slots boxes)

as_many_counts : (boxes : List Lane) → length (map (λ (box : Lane). box.done) boxes) ≡ length boxes
as_many_counts [] = refl
as_many_counts (box ∷ boxes) = ap suc (as_many_counts boxes)

word_there : (boxes : List Lane) (lane : ℕ) → lane < length boxes → slice_index (map word_at boxes) lane ≡ word_at (opened_lane boxes lane)
word_there [] lane within = absurd (omega (arith, within))
word_there (box ∷ boxes) zero within = refl
word_there (box ∷ boxes) (suc lane) within = word_there boxes lane (omega (arith, within))

slot_there : (boxes : List Lane) (lane : ℕ) → lane < length boxes → get_elem? (map (λ (slot : Option Lane). some slot) (map (λ (box : Lane). Some box) boxes)) lane ≡ some (some (Some (opened_lane boxes lane)))
slot_there [] lane within = absurd (omega (arith, within))
slot_there (box ∷ boxes) zero within = refl
slot_there (box ∷ boxes) (suc lane) within = slot_there boxes lane (omega (arith, within))

count_there : (boxes : List Lane) (lane : ℕ) → lane < length boxes → slice_index (map (λ (box : Lane). box.done) boxes) lane ≡ (opened_lane boxes lane).done
count_there [] lane within = absurd (omega (arith, within))
count_there (box ∷ boxes) zero within = refl
count_there (box ∷ boxes) (suc lane) within = count_there boxes lane (omega (arith, within))

within_there : (boxes : List Lane) (lane : ℕ) → AreWithin boxes → lane < length boxes → (opened_lane boxes lane).done ≤ length (opened_lane boxes lane).entries
within_there [] lane few within = absurd (omega (arith, within))
within_there (box ∷ boxes) zero few within = few.0
within_there (box ∷ boxes) (suc lane) few within = within_there boxes lane few.1 (omega (arith, within))

-- ---- the rule

lane_begins : (box : Lane) (word : ℕ) (home : Home) → box.done ≤ length box.entries → word ≡ word_at box → home ≡ some (some (Some box)) → LaneOk box box.done word home 0 (λ callback. 0)
lane_begins box word home few word_is home_is = subst (λ (x : ℕ × Home). LaneOk box box.done x.0 x.1 0 (λ callback. 0)) (λ i. (sym word_is i, sym home_is i)) (record {
  known = word_small box;
  since = omega arith;
  within = few;
  at_home = λ _. (box, refl, record { variables = refl; entries = refl }, refl);
  out = λ one. absurd (word_not_held box one);
  unfinished = λ open_. word_open box few open_;
  finished = λ finished. word_finished box finished;
  one_holder = λ one. absurd (word_not_held box one);
  no_holder = λ _. refl;
  whole = λ callback. omega arith;
})

pub begins : (boxes : List Lane) (passes : ℕ) (words : List ℕ) (slots : List (Option Lane)) → 0 < passes → AreWithin boxes → words ≡ map word_at boxes → slots ≡ map (λ (box : Lane). Some box) boxes → BoardRule (opening words slots (opener boxes passes))
begins boxes passes words slots some_passes few words_are slots_are = subst (λ (x : List ℕ × List (Option Lane)). BoardRule (opening x.0 x.1 (opener boxes passes))) (λ i. (sym words_are i, sym slots_are i)) (record {
  opening = boxes;
  most = passes;
  count = λ lane. (opened_lane boxes lane).done;
  words_are = as_many_words boxes;
  homes_are = as_many_slots boxes;
  lanes_ok = λ lane within. lane_begins (opened_lane boxes lane) (slice_index (map word_at boxes) lane) (get_elem? (map (λ (slot : Option Lane). some slot) (map (λ (box : Lane). Some box) boxes)) lane) (within_there boxes lane few within) (word_there boxes lane within) (slot_there boxes lane within);
  views_ok = views;
  disjoint = λ number. omega arith;
})
  where
    first : ViewOk boxes passes (λ lane. (opened_lane boxes lane).done) (opener boxes passes)
    first = record {
      spent = λ empty. absurd (omega (arith, empty, some_passes));
      live = λ _. record {
        same_opening = refl;
        same_passes = refl;
        within = omega arith;
        sized = as_many_counts boxes;
        ran = λ lane within. let is = count_there boxes lane within in omega (arith, is);
        held_so = tt;
      };
    }

    views : (seat : ℕ) (view : SeatView) → get_elem? (opener boxes passes ∷ []) seat ≡ some view → ViewOk boxes passes (λ lane. (opened_lane boxes lane).done) view
    views zero view at = subst (ViewOk boxes passes (λ lane. (opened_lane boxes lane).done)) (some-injective _ _ at) first
    views (suc seat) view at = absurd (some-ne-none view (sym at))

-- ---- the loop over boxes

within_push : (boxes : List Lane) (box : Lane) → AreWithin boxes → box.done ≤ length box.entries → AreWithin (boxes ++ box ∷ [])
within_push [] box so few = (few, tt)
within_push (first ∷ boxes) box so few = (so.0, within_push boxes box so.1 few)

pub within_more : (boxes : List Lane) (n : ℕ) (box : Lane) → n < length boxes → box ≡ slice_index_or boxes n box → box.done ≤ length box.entries → AreWithin (take n boxes) → AreWithin (take (n + 1) boxes)
within_more boxes n box within is few so = subst AreWithin (sym (take_more boxes n box within ∙ ap (λ (b : Lane). take n boxes ++ b ∷ []) (sym is))) (within_push (take n boxes) box so few)

word_push : (boxes : List Lane) (box : Lane) → map word_at (boxes ++ box ∷ []) ≡ map word_at boxes ++ word_at box ∷ []
word_push [] box = refl
word_push (first ∷ boxes) box = ap (λ (words : List ℕ). word_at first ∷ words) (word_push boxes box)

pub words_more : (boxes : List Lane) (n : ℕ) (box : Lane) (words : List ℕ) (word : ℕ) → n < length boxes → box ≡ slice_index_or boxes n box → words ≡ map word_at (take n boxes) → word ≡ word_at box → words ++ word ∷ [] ≡ map word_at (take (n + 1) boxes)
words_more boxes n box words word within is so word_is =
    (λ i. so i ++ word_is i ∷ [])
    ∙ sym (word_push (take n boxes) box)
    ∙ ap (λ (bs : List Lane). map word_at bs) (sym (take_more boxes n box within ∙ ap (λ (b : Lane). take n boxes ++ b ∷ []) (sym is)))
