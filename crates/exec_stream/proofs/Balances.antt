-- The balance of a queue of outcomes stands after each of its steps.
use Rattle.std.proofs.Common.{◌≡◌, ◌≢◌, ℕ, zero, suc, ◌+◌, ◌<◌, ◌≤◌, List, [], ◌∷◌, ◌++◌, append-nil, append_assoc, length, set, refl, sym, ap, subst, ◌∙◌, ⊎_elim, arith, IsPermutation}
use Rattle.std.specs.List.{flat_map, sum_by}
use Rattle.std.proofs.lemmas.Grind.{flat_map-append}
use Rattle.std.proofs.lemmas.List.Concat.{flat_map-cons}
use Rattle.std.proofs.lemmas.List.Sums.{sum_by-append, sum_by-cons}
use Rattle.std.proofs.lemmas.List.Sorted.{IsPermutation-append_comm, IsPermutation-append_left, IsPermutation-append_right, IsPermutation-refl, IsPermutation-sym, IsPermutation-trans}
use mathlib.Core.Option.{some, some-injective, some-ne-none}
use lib.ListN.{get_elem?}
use Rattle.crossbeam_queue.specs.Fifo.{Pushes, Pops, Forks, Merges, Learns}
use Rattle.crossbeam_queue.proofs.Lists.{at_set, at_snoc}
use Rattle.exec_stream.specs.Outcomes.{Balanced, Hand, WasHeld, WasHolding, all_parts, first_hand, having_put, having_taken, joined_hands, kept_hand, new_hand, put_by_all, spent_hand, taken_by_all}
use Rattle.exec_lane.specs.declared.outcome.Outcome.{Outcome}

-- ---- lists of lists

module _ {A : Type 0} where
  -- two lists change places behind a third
  change_places : (a b c : List A) → IsPermutation (a ++ (b ++ c)) (b ++ (a ++ c))
  change_places a b c =
      subst (λ (xs : List A). IsPermutation xs (b ++ (a ++ c))) (append_assoc a b c)
      (subst (λ (ys : List A). IsPermutation ((a ++ b) ++ c) ys) (append_assoc b a c) (IsPermutation-append_left c (a ++ b) (b ++ a) (IsPermutation-append_comm a b)))

  -- what stands behind a list goes behind another that follows it
  pub behind : (a b c : List A) → IsPermutation ((a ++ b) ++ c) ((a ++ c) ++ b)
  behind a b c =
      subst (λ (xs : List A). IsPermutation xs ((a ++ c) ++ b)) (sym (append_assoc a b c))
      (subst (λ (ys : List A). IsPermutation (a ++ (b ++ c)) ys) (sym (append_assoc a c b)) (IsPermutation-append_right a (b ++ c) (c ++ b) (IsPermutation-append_comm b c)))

module _ {V A : Type 0} (f : V → List A) where
  -- an element has more
  put_in : (views : List V) (i : ℕ) (v w : V) (xs : List A) → get_elem? views i ≡ some v → f w ≡ f v ++ xs → IsPermutation (flat_map f (set views i w)) (flat_map f views ++ xs)
  put_in [] i v w xs at more = absurd (some-ne-none v (sym at))
  put_in (u ∷ views) zero v w xs at more =
      let same : f w ≡ f u ++ xs = more ∙ ap (λ (z : V). f z ++ xs) (sym (some-injective u v at)) in
      subst (λ (l : List A). IsPermutation l (flat_map f (u ∷ views) ++ xs)) (sym (flat_map-cons f w views ∙ ap (λ (l : List A). l ++ flat_map f views) same))
      (subst (λ (l : List A). IsPermutation ((f u ++ xs) ++ flat_map f views) (l ++ xs)) (sym (flat_map-cons f u views)) (behind (f u) xs (flat_map f views)))
  put_in (u ∷ views) (suc i) v w xs at more =
      subst (λ (l : List A). IsPermutation l (flat_map f (u ∷ views) ++ xs)) (sym (flat_map-cons f u (set views i w)))
      (subst (λ (l : List A). IsPermutation (f u ++ flat_map f (set views i w)) l) (sym (append_assoc (f u) (flat_map f views) xs) ∙ ap (λ (l : List A). l ++ xs) (sym (flat_map-cons f u views)))
      (IsPermutation-append_right (f u) (flat_map f (set views i w)) (flat_map f views ++ xs) (put_in views i v w xs at more)))

  -- an element has what it had
  left_so : (views : List V) (i : ℕ) (v w : V) → get_elem? views i ≡ some v → f w ≡ f v → flat_map f (set views i w) ≡ flat_map f views
  left_so [] i v w at same = refl
  left_so (u ∷ views) zero v w at same = flat_map-cons f w views ∙ ap (λ (l : List A). l ++ flat_map f views) (same ∙ ap f (sym (some-injective u v at))) ∙ sym (flat_map-cons f u views)
  left_so (u ∷ views) (suc i) v w at same = flat_map-cons f u (set views i w) ∙ ap (λ (l : List A). f u ++ l) (left_so views i v w at same) ∙ sym (flat_map-cons f u views)

  -- an element has nothing any more
  taken_out : (views : List V) (i : ℕ) (v w : V) → get_elem? views i ≡ some v → f w ≡ [] → IsPermutation (flat_map f views) (f v ++ flat_map f (set views i w))
  taken_out [] i v w at none = absurd (some-ne-none v (sym at))
  taken_out (u ∷ views) zero v w at none =
      subst (λ (l : List A). IsPermutation (flat_map f (u ∷ views)) l)
      (flat_map-cons f u views ∙ (λ j. f (some-injective u v at j) ++ flat_map f views) ∙ ap (λ (l : List A). f v ++ (l ++ flat_map f views)) (sym none) ∙ ap (λ (l : List A). f v ++ l) (sym (flat_map-cons f w views)))
      (IsPermutation-refl (flat_map f (u ∷ views)))
  taken_out (u ∷ views) (suc i) v w at none =
      subst (λ (l : List A). IsPermutation l (f v ++ flat_map f (u ∷ set views i w))) (sym (flat_map-cons f u views))
      (subst (λ (l : List A). IsPermutation (f u ++ flat_map f views) (f v ++ l)) (sym (flat_map-cons f u (set views i w)))
      (IsPermutation-trans (f u ++ flat_map f views) (f u ++ (f v ++ flat_map f (set views i w))) (f v ++ (f u ++ flat_map f (set views i w)))
      (IsPermutation-append_right (f u) (flat_map f views) (f v ++ flat_map f (set views i w)) (taken_out views i v w at none))
      (change_places (f u) (f v) (flat_map f (set views i w)))))

  -- what one element has goes to another
  moved_over : (views : List V) (i j : ℕ) (v u both gone : V) → get_elem? views i ≡ some v → j ≢ i → get_elem? (set views i both) j ≡ some u → f both ≡ f v ++ f u → f gone ≡ [] →
      IsPermutation (flat_map f views) (flat_map f (set (set views i both) j gone))
  moved_over [] i j v u both gone at apart at' more none = absurd (some-ne-none v (sym at))
  moved_over (x ∷ views) zero zero v u both gone at apart at' more none = absurd (apart refl)
  moved_over (x ∷ views) zero (suc j) v u both gone at apart at' more none =
      let rest = taken_out views j u gone at' none in
      subst (λ (l : List A). IsPermutation l (flat_map f (both ∷ set views j gone))) (sym (flat_map-cons f x views ∙ ap (λ (z : V). f z ++ flat_map f views) (some-injective x v at)))
      (subst (λ (l : List A). IsPermutation (f v ++ flat_map f views) l)
      (sym (append_assoc (f v) (f u) (flat_map f (set views j gone))) ∙ ap (λ (l : List A). l ++ flat_map f (set views j gone)) (sym more) ∙ sym (flat_map-cons f both (set views j gone)))
      (IsPermutation-append_right (f v) (flat_map f views) (f u ++ flat_map f (set views j gone)) rest))
  moved_over (x ∷ views) (suc i) zero v u both gone at apart at' more none =
      let mine : f x ≡ f u = ap f (some-injective x u at') in
      subst (λ (l : List A). IsPermutation l (flat_map f (gone ∷ set views i both))) (sym (flat_map-cons f x views ∙ ap (λ (l : List A). l ++ flat_map f views) mine))
      (subst (λ (l : List A). IsPermutation (f u ++ flat_map f views) l) (ap (λ (l : List A). l ++ flat_map f (set views i both)) (sym none) ∙ sym (flat_map-cons f gone (set views i both)))
      (IsPermutation-trans (f u ++ flat_map f views) (flat_map f views ++ f u) (flat_map f (set views i both))
      (IsPermutation-append_comm (f u) (flat_map f views))
      (IsPermutation-sym (flat_map f (set views i both)) (flat_map f views ++ f u) (put_in views i v both (f u) at more))))
  moved_over (x ∷ views) (suc i) (suc j) v u both gone at apart at' more none =
      subst (λ (l : List A). IsPermutation l (flat_map f (x ∷ set (set views i both) j gone))) (sym (flat_map-cons f x views))
      (subst (λ (l : List A). IsPermutation (f x ++ flat_map f views) l) (sym (flat_map-cons f x (set (set views i both) j gone)))
      (IsPermutation-append_right (f x) (flat_map f views) (flat_map f (set (set views i both) j gone)) (moved_over views i j v u both gone at (λ same. apart (ap suc same)) at' more none)))

  -- one element more
  one_more : (views : List V) (w : V) → flat_map f (views ++ w ∷ []) ≡ flat_map f views ++ f w
  one_more views w = flat_map-append f views (w ∷ []) ∙ ap (λ (l : List A). flat_map f views ++ l) (flat_map-cons f w [] ∙ append-nil (f w))

-- ---- numbers of parts

module _ {V : Type 0} (n : V → ℕ) where
  -- an element has another number
  numbers-set : (views : List V) (i : ℕ) (v w : V) → get_elem? views i ≡ some v → sum_by n (set views i w) + n v ≡ sum_by n views + n w
  numbers-set [] i v w at = absurd (some-ne-none v (sym at))
  numbers-set (u ∷ views) zero v w at =
      let new = sum_by-cons n w views in
      let old = sum_by-cons n u views in
      let same : n u ≡ n v = ap n (some-injective u v at) in
      omega (arith, new, old, same)
  numbers-set (u ∷ views) (suc i) v w at =
      let new = sum_by-cons n u (set views i w) in
      let old = sum_by-cons n u views in
      let rest = numbers-set views i v w at in
      omega (arith, new, old, rest)

  at_most : (views : List V) (i : ℕ) (v : V) → get_elem? views i ≡ some v → n v ≤ sum_by n views
  at_most [] i v at = absurd (some-ne-none v (sym at))
  at_most (u ∷ views) zero v at =
      let all = sum_by-cons n u views in
      let same : n u ≡ n v = ap n (some-injective u v at) in
      omega (arith, all, same)
  at_most (u ∷ views) (suc i) v at =
      let all = sum_by-cons n u views in
      let rest = at_most views i v at in
      omega (arith, all, rest)

  -- one that has all of them stands among others that have nothing
  module _ {A : Type 0} (f : V → List A) where
    none_has : (views : List V) → sum_by n views ≡ 0 → ((seat : ℕ) (u : V) → get_elem? views seat ≡ some u → n u ≡ 0 → f u ≡ []) → flat_map f views ≡ []
    none_has [] sum idle = refl
    none_has (u ∷ views) sum idle =
        let all = sum_by-cons n u views in
        flat_map-cons f u views
        ∙ (λ i. idle 0 u refl (omega (arith, all, sum)) i ++ none_has views (omega (arith, all, sum)) (λ seat. idle (suc seat)) i)

    alone_in : (views : List V) (i : ℕ) (v : V) → get_elem? views i ≡ some v → sum_by n views ≡ n v → ((seat : ℕ) (u : V) → get_elem? views seat ≡ some u → n u ≡ 0 → f u ≡ []) → flat_map f views ≡ f v
    alone_in [] i v at sum idle = absurd (some-ne-none v (sym at))
    alone_in (u ∷ views) zero v at sum idle =
        let all = sum_by-cons n u views in
        let same : n u ≡ n v = ap n (some-injective u v at) in
        flat_map-cons f u views
        ∙ ap (λ (l : List A). f u ++ l) (none_has views (omega (arith, all, sum, same)) (λ seat. idle (suc seat)))
        ∙ append-nil (f u)
        ∙ ap f (some-injective u v at)
    alone_in (u ∷ views) (suc i) v at sum idle =
        let all = sum_by-cons n u views in
        let most = at_most views i v at in
        flat_map-cons f u views
        ∙ (λ j. idle 0 u refl (omega (arith, all, sum, most)) j ++ alone_in views i v at (omega (arith, all, sum, most)) (λ seat. idle (suc seat)) j)

-- ---- the steps

-- ---- the steps

abbrev parts : Hand → ℕ
parts hand = hand.parts

abbrev put_by : Hand → List Outcome
put_by hand = hand.put

abbrev taken_by : Hand → List Outcome
taken_by hand = hand.took

abbrev AreSpent : List Hand → Type 0
AreSpent hands = (seat : ℕ) (hand : Hand) → get_elem? hands seat ≡ some hand → hand.parts ≡ 0 → hand ≡ spent_hand

-- a pass that has parts changes, and the others stay
spent-set : (hands : List Hand) (seat : ℕ) (hand : Hand) → AreSpent hands → (hand.parts ≡ 0 → hand ≡ spent_hand) → AreSpent (set hands seat hand)
spent-set hands seat hand spent mine other u at none =
    ⊎_elim (λ (here : (other ≡ seat) × (hand ≡ u)). sym here.1 ∙ mine (ap parts here.1 ∙ none))
    (λ (there : (other ≢ seat) × (get_elem? hands other ≡ some u)). spent other u there.1 none) (at_set hands seat other hand u at)

some_parts : (hand : Hand) → 0 < hand.parts → hand.parts ≡ 0 → hand ≡ spent_hand
some_parts hand has none = absurd (omega (arith, has, none))

pub begins : Balanced [] (first_hand ∷ [])
begins = record {
  parts = sum_by-cons parts first_hand [];
  same = IsPermutation-refl [];
  spent = only;
}
  where
    only : AreSpent (first_hand ∷ [])
    only zero hand at none = absurd (apart (ap parts (some-injective first_hand hand at) ∙ none))
      where
        apart : all_parts ≡ 0 → ⊥
        apart is = omega (arith, is)
    only (suc seat) hand at none = absurd (some-ne-none hand (sym at))

pub puts : (room seat : ℕ) (hand : Hand) (outcome : Outcome) → 0 < hand.parts → Pushes Balanced room seat hand outcome (λ after. after ≡ having_put outcome hand)
puts room seat hand outcome has items hands short h at =
    let after : Hand = having_put outcome hand in (
      after,
      record {
        parts = let moved = numbers-set parts hands seat hand after at in let all = h.parts in omega (arith, moved, all);
        same =
            IsPermutation-trans (put_by_all (set hands seat after)) (put_by_all hands ++ outcome ∷ []) (taken_by_all (set hands seat after) ++ (items ++ outcome ∷ []))
            (put_in put_by hands seat hand after (outcome ∷ []) at refl)
            (subst (λ (l : List Outcome). IsPermutation (put_by_all hands ++ outcome ∷ []) l)
            (append_assoc (taken_by_all hands) items (outcome ∷ []) ∙ ap (λ (l : List Outcome). l ++ (items ++ outcome ∷ [])) (sym (left_so taken_by hands seat hand after at refl)))
            (IsPermutation-append_left (outcome ∷ []) (put_by_all hands) (taken_by_all hands ++ items) h.same));
        spent = spent-set hands seat after h.spent (some_parts after has);
      },
      refl,
    )

pub takes : (seat : ℕ) (hand : Hand) → 0 < hand.parts → Pops Balanced seat hand (λ outcome after. after ≡ having_taken outcome hand)
takes seat hand has outcome items hands h at =
    let after : Hand = having_taken outcome hand in (
      after,
      record {
        parts = let moved = numbers-set parts hands seat hand after at in let all = h.parts in omega (arith, moved, all);
        same =
            subst (λ (l : List Outcome). IsPermutation l (taken_by_all (set hands seat after) ++ items)) (sym (left_so put_by hands seat hand after at refl))
            (IsPermutation-trans (put_by_all hands) (taken_by_all hands ++ (outcome ∷ items)) (taken_by_all (set hands seat after) ++ items)
            h.same
            (subst (λ (l : List Outcome). IsPermutation l (taken_by_all (set hands seat after) ++ items)) (append_assoc (taken_by_all hands) (outcome ∷ []) items)
            (IsPermutation-append_left items (taken_by_all hands ++ outcome ∷ []) (taken_by_all (set hands seat after))
            (IsPermutation-sym (taken_by_all (set hands seat after)) (taken_by_all hands ++ outcome ∷ []) (put_in taken_by hands seat hand after (outcome ∷ []) at refl)))));
        spent = spent-set hands seat after h.spent (some_parts after has);
      },
      refl,
    )

pub forks : (seat : ℕ) (hand : Hand) → 2 ≤ hand.parts → Forks Balanced seat hand (kept_hand hand) (new_hand hand)
forks seat hand has items hands h at = record {
  parts =
      let moved = numbers-set parts hands seat hand (kept_hand hand) at in
      let more = sum_by-append parts (set hands seat (kept_hand hand)) (new_hand hand ∷ []) in
      let one = sum_by-cons parts (new_hand hand) [] in
      let all = h.parts in
      omega (arith, moved, more, one, all);
  same =
      subst (λ (l : List Outcome). IsPermutation l (taken_by_all (set hands seat (kept_hand hand) ++ new_hand hand ∷ []) ++ items)) (sym (still put_by refl refl))
      (subst (λ (l : List Outcome). IsPermutation (put_by_all hands) (l ++ items)) (sym (still taken_by refl refl)) h.same);
  spent = λ other u found none.
      ⊎_elim (λ (there : get_elem? (set hands seat (kept_hand hand)) other ≡ some u). spent-set hands seat (kept_hand hand) h.spent (some_parts (kept_hand hand) (omega (arith, has))) other u there none)
      (λ (new : new_hand hand ≡ u). sym new ∙ some_parts (new_hand hand) (omega (arith, has)) (ap parts new ∙ none))
      (at_snoc (set hands seat (kept_hand hand)) (new_hand hand) u other found);
}
  where
    still : (f : Hand → List Outcome) → f (kept_hand hand) ≡ f hand → f (new_hand hand) ≡ [] → flat_map f (set hands seat (kept_hand hand) ++ new_hand hand ∷ []) ≡ flat_map f hands
    still f same none =
        one_more f (set hands seat (kept_hand hand)) (new_hand hand)
        ∙ ap (λ (l : List Outcome). flat_map f (set hands seat (kept_hand hand)) ++ l) none
        ∙ append-nil (flat_map f (set hands seat (kept_hand hand)))
        ∙ left_so f hands seat hand (kept_hand hand) at same

pub merges : (seat : ℕ) (hand : Hand) (other : ℕ) (another : Hand) → 0 < hand.parts → Merges Balanced seat hand other another (joined_hands hand another) spent_hand
merges seat hand other another has items hands h at apart at' =
    let both : Hand = joined_hands hand another in
    let after : List Hand = set (set hands seat both) other spent_hand in record {
      parts =
          let moved = numbers-set parts hands seat hand both at in
          let gone = numbers-set parts (set hands seat both) other another spent_hand at' in
          let all = h.parts in
          omega (arith, moved, gone, all);
      same =
          IsPermutation-trans (put_by_all after) (put_by_all hands) (taken_by_all after ++ items)
          (IsPermutation-sym (put_by_all hands) (put_by_all after) (moved_over put_by hands seat other hand another both spent_hand at apart at' refl refl))
          (IsPermutation-trans (put_by_all hands) (taken_by_all hands ++ items) (taken_by_all after ++ items)
          h.same
          (IsPermutation-append_left items (taken_by_all hands) (taken_by_all after) (moved_over taken_by hands seat other hand another both spent_hand at apart at' refl refl)));
      spent = spent-set (set hands seat both) other spent_hand (spent-set hands seat both h.spent (some_parts both (omega (arith, has)))) (λ _. refl);
    }

pub learns : (seat : ℕ) (hand : Hand) → Learns Balanced seat hand (WasHeld hand)
learns seat hand items hands h at = (hands, seat, at, h)

-- ---- the last pass

pub last_held : (hand : Hand) (items : List Outcome) → hand.parts ≡ all_parts → WasHeld hand items → IsPermutation hand.put (hand.took ++ items)
last_held hand items all was =
    let hands = was.0 in
    let h = was.3 in
    let mine : sum_by parts hands ≡ hand.parts = h.parts ∙ sym all in
    let alone : (f : Hand → List Outcome) → f spent_hand ≡ [] → flat_map f hands ≡ f hand =
    λ f none. alone_in parts f hands was.1 hand was.2 mine (λ seat u at zero_parts. ap f (h.spent seat u at zero_parts) ∙ none) in
    subst (λ (l : List Outcome). IsPermutation l (hand.took ++ items)) (alone put_by refl)
    (subst (λ (l : List Outcome). IsPermutation (put_by_all hands) (l ++ items)) (alone taken_by refl) h.same)

pub last_empty : (hand : Hand) → hand.parts ≡ all_parts → WasHolding 0 hand → IsPermutation hand.put hand.took
last_empty hand all was = subst (λ (l : List Outcome). IsPermutation hand.put l) (ap (λ (items : List Outcome). hand.took ++ items) (none was.0 was.1) ∙ append-nil hand.took) (last_held hand was.0 all was.2)
  where
    none : (items : List Outcome) → length items ≡ 0 → items ≡ []
    none [] is = refl
    none (x ∷ items) is = absurd (omega (arith, is))
