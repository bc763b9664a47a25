-- Under the order of arrival a ready list is in the order of the numbers of arrivals.
use Rattle.std.proofs.Common.{◌≡◌, ℕ, zero, suc, ◌≤◌, ◌<◌, nat_le, Bool, true, false, if◌then◌else◌, length, List, [], ◌∷◌, ◌++◌, slice_index_or, append_assoc, refl, ap, sym, subst, ◌∙◌, arith}
use Rattle.std.specs.List.{AllByRecursion, flat_map}
use Rattle.std.specs.List.Sorted.{IsNonDecreasingBy}
use Rattle.std.proofs.lemmas.Bool.{le-leb, leb-true}
use Rattle.exec_msg.specs.Numbers.{Moment}
use Rattle.exec_plan.specs.declared.order.Order.{Order}
use Rattle.exec_plan.specs.declared.order.Order.TheVariants as order
use Rattle.exec_rules.proofs.ReadyLists.{all_placed}
use Rattle.exec_rules.proofs.Sorting.{Rises}
use Rattle.exec_rules.proofs.Stable.{rises_sorted}
use Rattle.exec_msg.specs.Timer.{is_due}
use Rattle.exec_rules.specs.Ready.{all_ready, arrival_for, due_ready, placed_from, poll_ready, queue_ready, rank_under, ready_list}
use Rattle.exec_rules.specs.Sorting.{inserted_by, sorted_by}
use Rattle.exec_rules.specs.World.{TimerEntry, WorldState}
use Rattle.exec_rules.specs.declared.ready.Ready.{Ready}

-- a list that rises, by its places
module _ {A : Type 0} (rank : A → ℕ) where
  above_first : (x : A) (xs : List A) → AllByRecursion (λ y. nat_le (rank x) (rank y) ≡ true) xs → (j : ℕ) (d : A) → j < length xs → rank x ≤ rank (slice_index_or xs j d)
  above_first x [] p j d within = absurd (omega (arith, within))
  above_first x (y ∷ ys) p zero d within = leb-true (rank x) (rank y) p.0
  above_first x (y ∷ ys) p (suc j) d within = above_first x ys p.1 j d (omega (arith, within))

  rises_at : (xs : List A) → Rises rank xs → IsNonDecreasingBy rank xs
  rises_at [] p i j d le within = absurd (omega (arith, within))
  rises_at (x ∷ xs) p zero zero d le within = omega arith
  rises_at (x ∷ xs) p zero (suc j) d le within = above_first x xs p.0 j d (omega (arith, within))
  rises_at (x ∷ xs) p (suc i) zero d le within = absurd (omega (arith, le))
  rises_at (x ∷ xs) p (suc i) (suc j) d le within = rises_at xs p.1 i j d (omega (arith, le)) (omega (arith, within))

-- what has no rank above 0 comes first, as it stands
lowest_inserted : {A : Type 0} (rank : A → ℕ) (x : A) (xs : List A) → rank x ≡ 0 → inserted_by rank x xs ≡ x ∷ xs
lowest_inserted rank x [] low = refl
lowest_inserted rank x (y ∷ ys) low = ap (λ (b : Bool). if b then x ∷ y ∷ ys else y ∷ inserted_by rank x ys) (le-leb (rank x) (rank y) (omega (arith, low)))

lowest_first : {A : Type 0} (rank : A → ℕ) (some more : List A) → AllByRecursion (λ x. rank x ≡ 0) some → sorted_by rank (some ++ more) ≡ some ++ sorted_by rank more
lowest_first rank [] more p = refl
lowest_first rank (x ∷ some) more p = ap (inserted_by rank x) (lowest_first rank some more p.1) ∙ lowest_inserted rank x (some ++ sorted_by rank more) p.0

module _ (moment : Moment) (world : WorldState) where
  abbrev number_of : Ready → ℕ
  number_of one = arrival_for one.entity one.cause world

  none_for_timers : (timers : List TimerEntry) → AllByRecursion (λ one. number_of one ≡ 0) (flat_map (due_ready moment) timers)
  none_for_timers [] = tt
  none_for_timers (entry ∷ timers) = by (is_due entry.timer moment) refl (none_for_timers timers)
    where
      by : (b : Bool) → is_due entry.timer moment ≡ b → AllByRecursion (λ one. number_of one ≡ 0) (flat_map (due_ready moment) timers) → AllByRecursion (λ one. number_of one ≡ 0) (flat_map (due_ready moment) (entry ∷ timers))
      by true is rest = rw is (refl, rest)
      by false is rest = rw is rest

  pub timers_first : world.order ≡ order.Arrival
      → ready_list moment world ≡ placed_from 1 (flat_map (due_ready moment) world.timers ++ sorted_by number_of (flat_map (queue_ready moment world) world.queues ++ flat_map (poll_ready moment) world.servers))
  timers_first by =
      let timers : List Ready = flat_map (due_ready moment) world.timers in
      let queues : List Ready = flat_map (queue_ready moment world) world.queues in
      let polls : List Ready = flat_map (poll_ready moment) world.servers in
      ap (λ (under : Order). placed_from 1 (sorted_by (rank_under under world) (all_ready moment world))) by
      ∙ ap (λ (all : List Ready). placed_from 1 (sorted_by number_of all)) (append_assoc timers queues polls)
      ∙ ap (placed_from 1) (lowest_first number_of timers (queues ++ polls) (none_for_timers world.timers))

  rises_placed : (position : ℕ) (list : List Ready) → Rises number_of list → Rises number_of (placed_from position list)
  rises_placed position [] p = tt
  rises_placed position (one ∷ list) p =
      (all_placed (λ other. nat_le (number_of one) (number_of other) ≡ true) (λ place other q. q) (suc position) list p.0, rises_placed (suc position) list p.1)

  pub by_arrival : world.order ≡ order.Arrival → IsNonDecreasingBy number_of (ready_list moment world)
  by_arrival by =
      rises_at number_of (ready_list moment world)
      (rises_placed 1 (sorted_by (rank_under world.order world) (all_ready moment world))
      (subst (λ (under : Order). Rises number_of (sorted_by (rank_under under world) (all_ready moment world))) (sym by) (rises_sorted number_of (all_ready moment world))))
