-- Places of outcomes are noted under their positions.
use Rattle.std.proofs.Common.{◌≡◌, ℕ, ◌+◌, ◌-◌, ◌<◌, ◌==◌, Bool, true, false, List, get_or, length, refl, slice_set, ◌≢◌, sym, ap, subst, ◌∙◌, arith, All}
use Rattle.std.proofs.lemmas.Bool.{eqb-false, eqb-true}
use Rattle.std.proofs.lemmas.List.{get_or-set_other, get_or-set_same}
use Rattle.exec_lane.specs.declared.outcome.Outcome.{Outcome}
use Rattle.exec_stream.specs.Sent.{AreFound, IsAmong, IsFound, no_outcome, outcome_at}

-- a position that is noted anew is found there, and each other one where it was
noted_at : (outcomes : List Outcome) (places : List ℕ) (n count place : ℕ) → AreFound outcomes n places → length places ≡ count → All (IsAmong count) outcomes → n < length outcomes → place < n + 1 →
    (b : Bool) → ((outcome_at outcomes place).position == (outcome_at outcomes n).position) ≡ b →
    IsFound outcomes (n + 1) (outcome_at outcomes place).position (get_or (slice_set places ((outcome_at outcomes n).position - 1) n) ((outcome_at outcomes place).position - 1) 0)
noted_at outcomes places n count place found long all within before true e =
    let same = eqb-true (outcome_at outcomes place).position (outcome_at outcomes n).position e in
    let among = all n no_outcome within in
    let here : get_or (slice_set places ((outcome_at outcomes n).position - 1) n) ((outcome_at outcomes place).position - 1) 0 ≡ n =
    ap (λ (i : ℕ). get_or (slice_set places ((outcome_at outcomes n).position - 1) n) (i - 1) 0) same
    ∙ get_or-set_same places ((outcome_at outcomes n).position - 1) n 0 (omega (arith, among.0, among.1, long)) in
    subst (IsFound outcomes (n + 1) (outcome_at outcomes place).position) (sym here) (record { there = omega arith; same = sym same })
noted_at outcomes places n count place found long all within before false e =
    let differ = eqb-false (outcome_at outcomes place).position (outcome_at outcomes n).position e in
    let apart : place ≢ n = λ is. differ (ap (λ (i : ℕ). (outcome_at outcomes i).position) is) in
    let earlier : place < n = omega (arith, before, apart) in
    let theirs = all n no_outcome within in
    let mine = all place no_outcome (omega (arith, earlier, within)) in
    let other : ((outcome_at outcomes place).position - 1) ≢ ((outcome_at outcomes n).position - 1) = λ is. differ (omega (arith, is, mine.0, theirs.0)) in
    let old = found place earlier in
    subst (IsFound outcomes (n + 1) (outcome_at outcomes place).position)
    (sym (get_or-set_other places ((outcome_at outcomes n).position - 1) ((outcome_at outcomes place).position - 1) n 0 other))
    (record { there = (let there = old.there in omega (arith, there)); same = old.same })

-- one more outcome's place is noted
pub noted : (outcomes : List Outcome) (places : List ℕ) (n count : ℕ) → AreFound outcomes n places → length places ≡ count → All (IsAmong count) outcomes → n < length outcomes →
    AreFound outcomes (n + 1) (slice_set places ((outcome_at outcomes n).position - 1) n)
noted outcomes places n count found long all within = λ place before.
    noted_at outcomes places n count place found long all within before ((outcome_at outcomes place).position == (outcome_at outcomes n).position) refl
