-- The entries of each round.
use Rattle.std.proofs.Common.{◌≡◌, ap₂, drop, drop-cons, set, if◌then◌else◌, ℕ, zero, suc, ◌+◌, ◌-◌, ◌<◌, ◌≤◌, ◌==◌, Bool, true, false, nat_le, length, map, List, [], ◌∷◌, ◌++◌, get_or, refl, ap, sym, ◌∙◌, arith, Vec}
use Rattle.std.specs.declared.alloc.Global.{Global}
use Rattle.std.proofs.lemmas.Bool.{leb-true, eqb-true, eq-eqb, and_parts}
use Rattle.std.proofs.lemmas.List.{get_or-map, length-map, append-nil, append_assoc}
use Rattle.std.proofs.lemmas.List.Elements.{filter-append}
use Rattle.exec_plan.specs.Feeding.{fed_in, feeds_from, feeds_by_round}
use Rattle.exec_plan.specs.Entity.{is_from_1}
use Rattle.exec_plan.specs.Plan.{PlanData, Feed}

-- there are as many as moments
pub as_many_rounds : (round : ℕ) (moments : List ℕ) (feed : List Feed) → length (feeds_from round moments feed) ≡ length moments
as_many_rounds round [] feed = refl
as_many_rounds round (moment ∷ moments) feed = ap (λ (n : ℕ). suc n) (as_many_rounds (suc round) moments feed)

-- those of a round stand at its place
pub at_round : (round place : ℕ) (moments : List ℕ) (feed : List Feed) (default : List Feed) → place < length moments → get_or (feeds_from round moments feed) place default ≡ fed_in (round + place) feed
at_round round place [] feed default below = absurd (omega (arith, below))
at_round round zero (moment ∷ moments) feed default below = let same : round ≡ round + 0 = omega arith in ap (λ (n : ℕ). fed_in n feed) same
at_round round (suc place) (moment ∷ moments) feed default below =
    let same : suc round + place ≡ round + suc place = omega arith in
    at_round (suc round) place moments feed default (omega (arith, below)) ∙ ap (λ (n : ℕ). fed_in n feed) same

-- a round of so many, from 1, has a place from 0
pub record IsRound (most round : ℕ) : Type 0 where
  pub first : 1 ≤ round
  pub last : round ≤ most

pub is_round : (most round : ℕ) → is_from_1 most round ≡ true → IsRound most round
is_round most round is = record {
  first = leb-true 1 round (and_parts (nat_le 1 round) (nat_le round most) is).0;
  last = leb-true round most (and_parts (nat_le 1 round) (nat_le round most) is).1;
}

-- the place of a round among the vectors of rounds
pub place_below : (rounds : List (Vec Feed Global)) (index : List (List Feed)) (round : ℕ) → map (λ feed. feed.items) rounds ≡ index → is_from_1 (length index) round ≡ true → round - 1 < length rounds
place_below rounds index round are is =
    let within = is_round (length index) round is in
    let many = sym (length-map rounds (λ (feed : Vec Feed Global). feed.items)) ∙ ap (λ (feeds : List (List Feed)). length feeds) are in
    omega (arith, within.first, within.last, many)

-- the vector at it has the round's entries
pub entries_at : (rounds : List (Vec Feed Global)) (plan : PlanData) (round : ℕ) → map (λ feed. feed.items) rounds ≡ feeds_by_round plan → is_from_1 (length (feeds_by_round plan)) round ≡ true
    → (found : Vec Feed Global) → found ≡ get_or rounds (round - 1) found → found.items ≡ fed_in round plan.feed
entries_at rounds plan round are is found there =
    let within = is_round (length (feeds_by_round plan)) round is in
    let many = as_many_rounds 1 plan.moments plan.feed in
    let below : round - 1 < length plan.moments = omega (arith, within.first, within.last, many) in
    let counted : 1 + (round - 1) ≡ round = omega (arith, within.first) in
    ap (λ (feed : Vec Feed Global). feed.items) there
    ∙ sym (get_or-map (λ (feed : Vec Feed Global). feed.items) rounds (round - 1) found found.items (place_below rounds (feeds_by_round plan) round are is))
    ∙ ap (λ (feeds : List (List Feed)). get_or feeds (round - 1) found.items) are
    ∙ at_round 1 (round - 1) plan.moments plan.feed found.items below
    ∙ ap (λ (n : ℕ). fed_in n plan.feed) counted

-- ---- the lists are made empty

-- one more empty list, where those of the rounds behind follow
pub one_more_empty : (done : List (List Feed)) (place : ℕ) (moments : List ℕ) (all : List (List Feed)) (default : ℕ) → place < length moments →
    done ++ feeds_from (suc place) (drop place moments) [] ≡ all → (done ++ [] ∷ []) ++ feeds_from (suc (place + 1)) (drop (place + 1) moments) [] ≡ all
one_more_empty done place moments all default below are =
    let more = drop-cons moments place default below in
    let next : place + 1 ≡ suc place = omega arith in
    append_assoc done ([] ∷ []) (feeds_from (suc (place + 1)) (drop (place + 1) moments) [])
    ∙ ap (λ (n : ℕ). done ++ [] ∷ feeds_from (suc n) (drop n moments) []) next
    ∙ ap (λ (rest : List ℕ). done ++ feeds_from (suc place) rest []) (sym more)
    ∙ are

-- ---- an entry is put into its round

kept_by : (b : Bool) (entry : Feed) (here : List Feed) → b ≡ false → here ++ (if b then entry ∷ [] else []) ≡ here
kept_by true entry here is = absurd cc
kept_by false entry here is = append-nil here

unequal : (a b : ℕ) → (a ≡ b → ⊥) → (a == b) ≡ false
unequal a b differ = by (a == b) refl
  where
    by : (same : Bool) → (a == b) ≡ same → (a == b) ≡ false
    by true is = absurd (differ (eqb-true a b is))
    by false is = is

-- a round that isn't the entry's keeps its entries
other_round : (round : ℕ) (feed : List Feed) (entry : Feed) → (entry.round == round) ≡ false → fed_in round (feed ++ entry ∷ []) ≡ fed_in round feed
other_round round feed entry isnt = filter-append (λ (entry : Feed). entry.round == round) feed (entry ∷ []) ∙ kept_by (entry.round == round) entry (fed_in round feed) isnt

same_round : (round : ℕ) (feed : List Feed) (entry : Feed) → entry.round ≡ round → fed_in round (feed ++ entry ∷ []) ≡ fed_in round feed ++ entry ∷ []
same_round round feed entry is =
    let same = eq-eqb entry.round round is in
    filter-append (λ (entry : Feed). entry.round == round) feed (entry ∷ []) ∙ ap (λ (b : Bool). fed_in round feed ++ (if b then entry ∷ [] else [])) same

later_rounds : (round : ℕ) (moments : List ℕ) (feed : List Feed) (entry : Feed) → entry.round < round → feeds_from round moments (feed ++ entry ∷ []) ≡ feeds_from round moments feed
later_rounds round [] feed entry below = refl
later_rounds round (moment ∷ moments) feed entry below =
    ap₂ (λ (first : List Feed) (others : List (List Feed)). first ∷ others) (other_round round feed entry (unequal entry.round round (λ is. omega (arith, below, is))))
    (later_rounds (suc round) moments feed entry (omega (arith, below)))

put_here : (round place : ℕ) (moment : ℕ) (moments : List ℕ) (feed : List Feed) (entry : Feed) → entry.round ≡ round + place →
    ((later : ℕ) → place ≡ suc later → feeds_from (suc round) moments (feed ++ entry ∷ []) ≡ set (feeds_from (suc round) moments feed) later (get_or (feeds_from (suc round) moments feed) later [] ++ entry ∷ [])) →
    feeds_from round (moment ∷ moments) (feed ++ entry ∷ []) ≡ set (feeds_from round (moment ∷ moments) feed) place (get_or (feeds_from round (moment ∷ moments) feed) place [] ++ entry ∷ [])
put_here round zero moment moments feed entry is later =
    let here : entry.round ≡ round = omega (arith, is) in
    ap₂ (λ (first : List Feed) (others : List (List Feed)). first ∷ others) (same_round round feed entry here) (later_rounds (suc round) moments feed entry (omega (arith, here)))
put_here round (suc place) moment moments feed entry is later =
    ap₂ (λ (first : List Feed) (others : List (List Feed)). first ∷ others) (other_round round feed entry (unequal entry.round round (λ same. omega (arith, is, same)))) (later place refl)

-- an entry of a round stands behind those of its round, and nowhere else
pub put_in : (round place : ℕ) (moments : List ℕ) (feed : List Feed) (entry : Feed) → entry.round ≡ round + place → place < length moments →
    feeds_from round moments (feed ++ entry ∷ []) ≡ set (feeds_from round moments feed) place (get_or (feeds_from round moments feed) place [] ++ entry ∷ [])
put_in round place [] feed entry is below = absurd (omega (arith, below))
put_in round place (moment ∷ moments) feed entry is below =
    put_here round place moment moments feed entry is
    (λ later same. put_in (suc round) later moments feed entry (omega (arith, is, same)) (omega (arith, below, same)))
