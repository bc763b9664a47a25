-- What is on its way: what the items weigh that stand in queues, and those that callbacks took.
use Rattle.std.proofs.Common.{◌≡◌, ℕ, zero, suc, ◌+◌, ◌-◌, ◌≤◌, Bool, true, false, ◌==◌, List, [], ◌∷◌, ◌++◌, length, map, take, drop, refl, ap, arith}
use Rattle.std.specs.List.{AllByRecursion, flat_map, list_any}
use Rattle.std.proofs.lemmas.Bool.{eqb-true, and_parts}
use Rattle.exec_msg.specs.Numbers.{EntityNo, Moment}
use Rattle.exec_msg.specs.KeepLast.{sent}
use Rattle.exec_msg.specs.Kind.{ready_number}
use Rattle.exec_msg.specs.Lists.{change_first}
use Rattle.exec_msg.specs.Timer.{is_due}
use Rattle.exec_laws.proofs.Channels.{weigh}
use Rattle.exec_rules.proofs.Pairs.{all_flat, all_map}
use Rattle.exec_rules.proofs.Sorting.{sum_sorted}
use Rattle.exec_rules.specs.Item.{taker_of}
use Rattle.exec_rules.specs.Ready.{all_ready, due_ready, item_ready, placed_from, poll_ready, queue_ready, queue_taken, rank_under, ready_list}
use Rattle.exec_rules.specs.Sorting.{sorted_by}
use Rattle.exec_rules.specs.World.{WorldState, Queue, TimerEntry, is_queue, lost_from, queue_after, goals_at}
use Rattle.exec_rules.specs.declared.item.Item.{Item}
use Rattle.exec_rules.specs.declared.ready.Cause.{Cause}
use Rattle.exec_rules.specs.declared.ready.Cause.TheVariants as cause
use Rattle.exec_rules.specs.declared.ready.Ready.{Ready}

-- what each item weighs, where it stands in an entity's queue
module _ (weight : EntityNo → Item → ℕ) where
  abbrev pub in_items : EntityNo → List Item → ℕ
  in_items entity [] = 0
  in_items entity (one ∷ items) = weight entity one + in_items entity items

  -- what items in queues weigh
  abbrev pub flying : List Queue → ℕ
  flying [] = 0
  flying (queue ∷ queues) = in_items queue.handler.entity queue.items + flying queues

  items_more : (entity : EntityNo) (items : List Item) (new : Item) → in_items entity (items ++ new ∷ []) ≡ in_items entity items + weight entity new
  items_more entity [] new = omega arith
  items_more entity (one ∷ items) new = let rest = items_more entity items new in omega (arith, rest)

  items_parted : (entity : EntityNo) (many : ℕ) (items : List Item) → in_items entity (take many items) + in_items entity (drop many items) ≡ in_items entity items
  items_parted entity zero items = omega arith
  items_parted entity (suc many) [] = refl
  items_parted entity (suc many) (one ∷ items) = let rest = items_parted entity many items in omega (arith, rest)

  -- what an item that is sent leaves in queues, and what they lose by it, where there is a queue for it
  pub flying_sent : (entity : EntityNo) (number : ℕ) (new : Item) (queues : List Queue) →
      flying (change_first (is_queue entity (taker_of new)) (queue_after number new) queues) + in_items entity (lost_from entity new queues) ≡ flying queues + weigh (list_any (is_queue entity (taker_of new)) queues) (weight entity new)
  flying_sent entity number new [] = refl
  flying_sent entity number new (queue ∷ queues) = by (is_queue entity (taker_of new) queue) refl (flying_sent entity number new queues)
    where
      by : (b : Bool) → is_queue entity (taker_of new) queue ≡ b →
          flying (change_first (is_queue entity (taker_of new)) (queue_after number new) queues) + in_items entity (lost_from entity new queues) ≡ flying queues + weigh (list_any (is_queue entity (taker_of new)) queues) (weight entity new) →
          flying (change_first (is_queue entity (taker_of new)) (queue_after number new) (queue ∷ queues)) + in_items entity (lost_from entity new (queue ∷ queues)) ≡ flying (queue ∷ queues) + weigh (list_any (is_queue entity (taker_of new)) (queue ∷ queues)) (weight entity new)
      by true e rest =
          let here : queue.handler.entity ≡ entity = eqb-true queue.handler.entity entity (and_parts (queue.handler.entity == entity) (ready_number queue.kind == ready_number (taker_of new)) e).0 in
          let parts = items_parted entity (length (queue.items ++ new ∷ []) - queue.depth) (queue.items ++ new ∷ []) in
          let more = items_more entity queue.items new in
          let before : in_items queue.handler.entity queue.items ≡ in_items entity queue.items = ap (λ (at : EntityNo). in_items at queue.items) here in
          let after : in_items queue.handler.entity (sent queue.depth new queue.items) ≡ in_items entity (sent queue.depth new queue.items) = ap (λ (at : EntityNo). in_items at (sent queue.depth new queue.items)) here in
          rw e (omega (arith, parts, more, before, after))
      by false e rest = rw e (omega (arith, rest))

  pub flying_after : (entity : EntityNo) (number : ℕ) (new : Item) (queues : List Queue) → flying (change_first (is_queue entity (taker_of new)) (queue_after number new) queues) ≤ flying queues + weight entity new
  flying_after entity number new queues =
      let all = flying_sent entity number new queues in
      let most = by (list_any (is_queue entity (taker_of new)) queues) in
      omega (arith, all, most)
    where
      by : (b : Bool) → weigh b (weight entity new) ≤ weight entity new
      by true = omega arith
      by false = omega arith

  -- ---- what a snapshot takes of it

  abbrev pub first_weight : EntityNo → List Item → ℕ
  first_weight entity [] = 0
  first_weight entity (first ∷ items) = weight entity first

  -- what the first item of each weighs
  abbrev pub firsts : List Queue → ℕ
  firsts [] = 0
  firsts (queue ∷ queues) = first_weight queue.handler.entity queue.items + firsts queues

  pub flying_taken : (queues : List Queue) → flying queues ≡ firsts queues + flying (map queue_taken queues)
  flying_taken [] = refl
  flying_taken (queue ∷ queues) =
      let first = by queue.items in
      let rest = flying_taken queues in
      omega (arith, first, rest)
    where
      by : (items : List Item) → in_items queue.handler.entity items ≡ first_weight queue.handler.entity items + in_items queue.handler.entity (drop 1 items)
      by [] = refl
      by (first ∷ items) = refl

  -- ---- what callbacks have in hand

  abbrev pub hand_by : EntityNo → Cause → ℕ
  hand_by entity (cause.Took taken) = weight entity taken
  hand_by entity _ = 0

  -- what the items weigh that these callbacks took
  abbrev pub hands : List Ready → ℕ
  hands [] = 0
  hands (one ∷ list) = hand_by one.entity one.cause + hands list

  hands_append : (some more : List Ready) → hands (some ++ more) ≡ hands some + hands more
  hands_append [] more = omega arith
  hands_append (one ∷ some) more = let rest = hands_append some more in omega (arith, rest)

  hands_none : (list : List Ready) → AllByRecursion (λ one. hand_by one.entity one.cause ≡ 0) list → hands list ≡ 0
  hands_none [] p = refl
  hands_none (one ∷ list) p = let first = p.0 in let rest = hands_none list p.1 in omega (arith, first, rest)

  hands_placed : (position : ℕ) (list : List Ready) → hands (placed_from position list) ≡ hands list
  hands_placed position [] = refl
  hands_placed position (one ∷ list) = ap (λ (m : ℕ). hand_by one.entity one.cause + m) (hands_placed (suc position) list)

  module _ (moment : Moment) (world : WorldState) where
    queue_hands : (queue : Queue) → hands (queue_ready moment world queue) ≡ first_weight queue.handler.entity queue.items
    queue_hands queue = by queue.items
      where
        by : (items : List Item) → hands (item_ready moment queue.handler (goals_at queue.handler.entity world) items) ≡ first_weight queue.handler.entity items
        by [] = refl
        by (first ∷ items) = omega arith

    queues_hand : (queues : List Queue) → hands (flat_map (queue_ready moment world) queues) ≡ firsts queues
    queues_hand [] = refl
    queues_hand (queue ∷ queues) =
        let joined = hands_append (queue_ready moment world queue) (flat_map (queue_ready moment world) queues) in
        let first = queue_hands queue in
        let rest = queues_hand queues in
        omega (arith, joined, first, rest)

    due_hands : (entry : TimerEntry) → AllByRecursion (λ one. hand_by one.entity one.cause ≡ 0) (due_ready moment entry)
    due_hands entry = by (is_due entry.timer moment) refl
      where
        by : (b : Bool) → is_due entry.timer moment ≡ b → AllByRecursion (λ one. hand_by one.entity one.cause ≡ 0) (due_ready moment entry)
        by true e = rw e (refl, tt)
        by false e = rw e tt

    -- a ready list has what the queues hand on
    pub list_hands : hands (ready_list moment world) ≡ firsts world.queues
    list_hands =
        let timers : List Ready = flat_map (due_ready moment) world.timers in
        let took : List Ready = flat_map (queue_ready moment world) world.queues in
        let polls : List Ready = flat_map (poll_ready moment) world.servers in
        let placed = hands_placed 1 (sorted_by (rank_under world.order world) (all_ready moment world)) in
        let sorted = sum_sorted (λ one. hand_by one.entity one.cause) hands (λ one list. refl) (rank_under world.order world) (all_ready moment world) in
        let a = hands_append (timers ++ took) polls in
        let b = hands_append timers took in
        let none_due = hands_none timers (all_flat (λ one. hand_by one.entity one.cause ≡ 0) (due_ready moment) due_hands world.timers) in
        let none_polled = hands_none polls (all_flat (λ one. hand_by one.entity one.cause ≡ 0) (poll_ready moment) (λ entry. all_map (λ one. hand_by one.entity one.cause ≡ 0) _ (λ goal. refl) _) world.servers) in
        let all = queues_hand world.queues in
        omega (arith, placed, sorted, a, b, none_due, none_polled, all)

-- two weights
pub firsts_both : (one other : EntityNo → Item → ℕ) (queues : List Queue) → firsts (λ entity taken. one entity taken + other entity taken) queues ≡ firsts one queues + firsts other queues
firsts_both one other [] = refl
firsts_both one other (queue ∷ queues) = let first = by queue.items in let rest = firsts_both one other queues in omega (arith, first, rest)
  where
    by : (items : List Item) → first_weight (λ entity taken. one entity taken + other entity taken) queue.handler.entity items ≡ first_weight one queue.handler.entity items + first_weight other queue.handler.entity items
    by [] = refl
    by (first ∷ items) = refl
