-- Each queue stays within its entity's depth.
use Rattle.exec_plan.specs.declared.order.Order.{Order}
use Rattle.std.proofs.Common.{◌≡◌, ℕ, ◌-◌, ◌≤◌, Bool, true, false, List, [], ◌∷◌, ◌++◌, length, map, drop, refl, arith, length-drop}
use Rattle.std.specs.List.{All, AllByRecursion, filter}
use Rattle.std.proofs.lemmas.List.Elements.{All-from_recursion}
use Rattle.exec_msg.specs.Numbers.{EntityNo, Moment}
use Rattle.exec_plan.specs.Entity.{queue_depth}
use Rattle.exec_plan.specs.Graph.{GraphData, Waitable, wait_set}
use Rattle.exec_plan.specs.Plan.{PlanData}
use Rattle.exec_msg.specs.KeepLast.{sent}
use Rattle.exec_msg.specs.Lists.{change_first}
use Rattle.exec_rules.proofs.Pairs.{all_weaker}
use Rattle.exec_rules.proofs.Running.{KeptByRounds, rounds_keep}
use Rattle.exec_rules.specs.Item.{taker_of}
use Rattle.exec_rules.specs.Ready.{queue_taken}
use Rattle.exec_rules.specs.Transcript.{entity_at, takes_from_queue, new_queue, first_world, rounds}
use Rattle.exec_rules.specs.World.{Queue, is_queue, queue_after, next_arrival}
use Rattle.exec_rules.specs.declared.item.Item.{Item}

-- a queue has its entity's depth, and holds at most so many items
abbrev IsWithin : GraphData → Queue → Type 0
IsWithin graph queue = (queue.depth ≡ queue_depth (entity_at graph queue.handler.entity).is) × (length queue.items ≤ queue.depth)

sent_within : (depth : ℕ) (new : Item) (items : List Item) → length (sent depth new items) ≤ depth
sent_within depth new items = omega (arith, length-drop (length (items ++ new ∷ []) - depth) (items ++ new ∷ []))

within_after : (graph : GraphData) (entity : EntityNo) (number : ℕ) (new : Item) (queues : List Queue) → AllByRecursion (IsWithin graph) queues → AllByRecursion (IsWithin graph) (change_first (is_queue entity (taker_of new)) (queue_after number new) queues)
within_after graph entity number new [] p = tt
within_after graph entity number new (queue ∷ queues) p = by (is_queue entity (taker_of new) queue) refl (within_after graph entity number new queues p.1)
  where
    by : (b : Bool) → is_queue entity (taker_of new) queue ≡ b → AllByRecursion (IsWithin graph) (change_first (is_queue entity (taker_of new)) (queue_after number new) queues) → AllByRecursion (IsWithin graph) (change_first (is_queue entity (taker_of new)) (queue_after number new) (queue ∷ queues))
    by true e rest = rw e ((p.0.0, sent_within queue.depth new queue.items), p.1)
    by false e rest = rw e (p.0, rest)

within_taken : (graph : GraphData) (queues : List Queue) → AllByRecursion (IsWithin graph) queues → AllByRecursion (IsWithin graph) (map queue_taken queues)
within_taken graph [] p = tt
within_taken graph (queue ∷ queues) p =
    let fits : length (drop 1 queue.items) ≤ queue.depth = omega (arith, p.0.1, length-drop 1 queue.items) in
    ((p.0.0, fits), within_taken graph queues p.1)

within_first : (under : Order) (graph : GraphData) (waitables : List Waitable) → AllByRecursion (IsWithin graph) (map (new_queue under graph) waitables)
within_first under graph [] = tt
within_first under graph (waitable ∷ waitables) = ((refl, omega arith), within_first under graph waitables)

within_kept : (graph : GraphData) → KeptByRounds (λ world. AllByRecursion (IsWithin graph) world.queues)
within_kept graph = record {
  basic = record {
    lines_kept = λ lines world p. p;
    queues_kept = λ entity new world p. within_after graph entity (next_arrival world) new world.queues p;
    goals_kept = λ server change world same p. p;
    tasks_kept = λ server id task world p. p;
    arrivals_kept = λ server id world p. p;
    calls_kept = λ client world p. p;
    sending_kept = λ client world p. p;
    variables_kept = λ group variables world p. p;
  };
  accepts_kept = λ server moment how request world room p. p;
  expiry_kept = λ moment world p. p;
  snapshot_kept = λ moment world p. within_taken graph world.queues p;
}

pub queues_within : (plan : PlanData) (number : ℕ) (moments : List Moment) → All (λ queue. length queue.items ≤ queue_depth (entity_at plan.graph queue.handler.entity).is) (rounds plan number moments (first_world plan)).queues
queues_within plan number moments =
    All-from_recursion (λ queue. length queue.items ≤ queue_depth (entity_at plan.graph queue.handler.entity).is) _
    (all_weaker (IsWithin plan.graph) (λ queue. length queue.items ≤ queue_depth (entity_at plan.graph queue.handler.entity).is) (λ queue p. omega (arith, p.0, p.1)) _
    (rounds_keep (within_kept plan.graph) plan number moments (first_world plan) (within_first plan.order plan.graph (filter (λ waitable. takes_from_queue waitable.kind) (wait_set plan.graph)))))
