-- Lanes are those that were opened, whatever ran of them.
use Rattle.std.proofs.Common.{◌≡◌, ℕ, ◌+◌, ◌<◌, ◌≤◌, List, [], ◌∷◌, ◌++◌, length, map, take, drop, ap, sym, subst, refl, ◌∙◌, arith, Bool, true, ◌&&◌}
use Rattle.std.proofs.Math.ListN.{set}
use Rattle.std.proofs.lemmas.Bool.{eqb-true, and_from, and_parts}
use Rattle.std.proofs.Math.Seq.{take-append_seam}
use Rattle.std.proofs.lemmas.List.{length-map, take_all, take_more_set}
use Rattle.std.proofs.lemmas.List.Folds.{list_all-append}
use Rattle.std.specs.List.{list_all}
use Rattle.exec_lane.specs.Lane.{AreFinished, Lane}
use Rattle.exec_round.specs.inner.Running.{AreRun, are_done, as_left, as_wanted, is_done, is_run, opening_of, openings_of}

-- one lane more was run
pub runs_next : (lanes : List Lane) (index : ℕ) (lane : Lane) → index < length lanes → list_all is_run (take index lanes) ≡ true → is_run lane ≡ true →
    list_all is_run (take (index + 1) (set lanes index lane)) ≡ true
runs_next lanes index lane within before one =
    ap (list_all is_run) (take_more_set lanes index lane within)
    ∙ list_all-append is_run (take index lanes) (lane ∷ [])
    ∙ and_from (list_all is_run (take index lanes)) (is_run lane && true) before (and_from (is_run lane) true one refl)

-- lanes that are the ones that they were, and were all run
are_run : (before after : List Lane) → openings_of after ≡ openings_of before → list_all is_run after ≡ true → AreRun before after
are_run [] [] same all = refl
are_run [] (lane ∷ after) same all = absurd (more same)
  where
    more : openings_of (lane ∷ after) ≡ [] → ⊥
    more is = let none = ap length is in omega (arith, none)
are_run (one ∷ before) [] same all = absurd (more same)
  where
    more : [] ≡ openings_of (one ∷ before) → ⊥
    more is = let none = ap length is in omega (arith, none)
are_run (one ∷ before) (lane ∷ after) same all =
    let parts = and_parts (is_run lane) (list_all is_run after) all in
    (λ i. (ap first same i, parts.0 i) ∷ are_run before after (ap rest same) parts.1 i)
  where
    first : List Lane → Lane
    first [] = lane
    first (opening ∷ all) = opening

    rest : List Lane → List Lane
    rest [] = []
    rest (opening ∷ all) = all

-- lanes that were written back, of which the first were run, and no others are there
pub all_run : (before after : List Lane) (len index : ℕ) → len ≡ length before → openings_of after ≡ openings_of before → length before ≤ index → list_all is_run (take index after) ≡ true →
    AreRun before (take len (after ++ drop (length after) before))
all_run before after len index is same past run =
    let long : length after ≡ length before = sym (length-map after opening_of) ∙ ap length same ∙ length-map before opening_of in
    let whole : take len (after ++ drop (length after) before) ≡ after = ap (λ n. take n (after ++ drop (length after) before)) (is ∙ sym long) ∙ take-append_seam after (drop (length after) before) in
    subst (AreRun before) (sym whole) (are_run before after same (ap (list_all is_run) (sym (take_all index after (omega (arith, long, past)))) ∙ run))

-- lanes that were run are the ones that they were
pub run_openings : (before after : List Lane) → AreRun before after → openings_of after ≡ openings_of before
run_openings before after run = sym (firsts after) ∙ ap (map (λ (left : Lane × Bool). left.0)) run ∙ wanted before
  where
    firsts : (lanes : List Lane) → map (λ (left : Lane × Bool). left.0) (map as_left lanes) ≡ openings_of lanes
    firsts [] = refl
    firsts (lane ∷ lanes) = ap (λ others. openings_of (lane ∷ []) ++ others) (firsts lanes)

    wanted : (lanes : List Lane) → map (λ (left : Lane × Bool). left.0) (map as_wanted lanes) ≡ openings_of lanes
    wanted [] = refl
    wanted (lane ∷ lanes) = ap (λ others. openings_of (lane ∷ []) ++ others) (wanted lanes)

-- lanes whose callbacks all ran
pub are_finished : (openings lanes : List Lane) → openings_of lanes ≡ openings_of openings → are_done lanes ≡ true → AreFinished openings lanes
are_finished [] [] same done = tt
are_finished [] (lane ∷ lanes) same done = absurd (more same)
  where
    more : openings_of (lane ∷ lanes) ≡ [] → ⊥
    more is = let none = ap length is in omega (arith, none)
are_finished (opening ∷ openings) [] same done = absurd (more same)
  where
    more : [] ≡ openings_of (opening ∷ openings) → ⊥
    more is = let none = ap length is in omega (arith, none)
are_finished (opening ∷ openings) (lane ∷ lanes) same done = (
  record {
    variables = ap (λ all. (first all).variables) same;
    entries = entries;
    done = eqb-true lane.done (length lane.entries) (and_parts (is_done lane) (are_done lanes) done).0 ∙ ap length entries;
  },
  are_finished openings lanes (ap rest same) (and_parts (is_done lane) (are_done lanes) done).1,
)
  where
    first : List Lane → Lane
    first [] = lane
    first (one ∷ all) = one

    rest : List Lane → List Lane
    rest [] = []
    rest (one ∷ all) = all

    entries : lane.entries ≡ opening.entries
    entries = ap (λ all. (first all).entries) same
