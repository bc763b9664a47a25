-- Queues keep a number for each item under the order of arrival, and none under the order of kinds.
use Rattle.std.proofs.Common.{◌≡◌, ℕ, Bool, true, false, length, drop, map, List, [], ◌∷◌, ◌++◌, Option, refl, ap, length-drop, arith}
use Rattle.std.specs.List.{All, AllByRecursion, filter}
use Rattle.std.specs.Option.{option_map}
use Rattle.std.proofs.lemmas.List.{length_push}
use Rattle.std.proofs.lemmas.List.Elements.{All-from_recursion}
use Rattle.exec_msg.specs.KeepLast.{excess, sent}
use Rattle.exec_msg.specs.Lists.{change_first}
use Rattle.exec_msg.specs.Numbers.{Moment}
use Rattle.exec_plan.specs.Graph.{GraphData, Waitable, wait_set}
use Rattle.exec_plan.specs.Plan.{PlanData}
use Rattle.exec_plan.specs.declared.order.Order.{Order}
use Rattle.exec_plan.specs.declared.order.Order.TheVariants as order
use Rattle.exec_rules.proofs.Running.{KeptByRounds, rounds_keep}
use Rattle.exec_rules.specs.Item.{taker_of}
use Rattle.exec_rules.specs.Ready.{queue_taken}
use Rattle.exec_rules.specs.Transcript.{first_world, new_queue, rounds, takes_from_queue}
use Rattle.exec_rules.specs.World.{Queue, WorldState, is_queue, next_arrival, queue_after}
use Rattle.exec_rules.specs.declared.item.Item.{Item}
use Rattle.exec_rules.specs.inner.Numbering.{IsNumbered}

-- ---- one queue

-- lists of one length have one length after each was sent something
pub sent_long : {A B : Type 0} (depth : ℕ) (x : A) (xs : List A) (y : B) (ys : List B) → length xs ≡ length ys → length (sent depth x xs) ≡ length (sent depth y ys)
sent_long depth x xs y ys same =
    let a = length-drop (excess depth (xs ++ x ∷ [])) (xs ++ x ∷ []) in
    let b = length-drop (excess depth (ys ++ y ∷ [])) (ys ++ y ∷ []) in
    omega (arith, a, b, length_push xs x, length_push ys y, same)

-- and after the first of each was taken
pub taken_long : {A B : Type 0} (xs : List A) (ys : List B) → length xs ≡ length ys → length (drop 1 xs) ≡ length (drop 1 ys)
taken_long xs ys same = omega (arith, length-drop 1 xs, length-drop 1 ys, same)

numbered_after : (under : Order) (number : ℕ) (item : Item) (queue : Queue) → IsNumbered under queue → IsNumbered under (queue_after number item queue)
numbered_after order.Kind number item queue p = ap (λ (all : Option (List ℕ)). option_map (sent queue.depth number) all) p
numbered_after order.Arrival number item queue p =
    (sent queue.depth number p.0, ap (λ (all : Option (List ℕ)). option_map (sent queue.depth number) all) p.1, sent_long queue.depth number p.0 item queue.items p.2)

numbered_taken : (under : Order) (queue : Queue) → IsNumbered under queue → IsNumbered under (queue_taken queue)
numbered_taken order.Kind queue p = ap (λ (all : Option (List ℕ)). option_map (drop 1) all) p
numbered_taken order.Arrival queue p = (drop 1 p.0, ap (λ (all : Option (List ℕ)). option_map (drop 1) all) p.1, taken_long p.0 queue.items p.2)

numbered_first : (under : Order) (graph : GraphData) (waitable : Waitable) → IsNumbered under (new_queue under graph waitable)
numbered_first order.Kind graph waitable = refl
numbered_first order.Arrival graph waitable = ([], refl, refl)

-- ---- all queues of a world

abbrev pub AreNumbered : Order → WorldState → Type 0
AreNumbered under world = AllByRecursion (IsNumbered under) world.queues

module _ (under : Order) where
  all_after : (test : Queue → Bool) (number : ℕ) (item : Item) (queues : List Queue) → AllByRecursion (IsNumbered under) queues → AllByRecursion (IsNumbered under) (change_first test (queue_after number item) queues)
  all_after test number item [] p = tt
  all_after test number item (queue ∷ queues) p = by (test queue) refl (all_after test number item queues p.1)
    where
      by : (b : Bool) → test queue ≡ b → AllByRecursion (IsNumbered under) (change_first test (queue_after number item) queues) → AllByRecursion (IsNumbered under) (change_first test (queue_after number item) (queue ∷ queues))
      by true e rest = rw e (numbered_after under number item queue p.0, p.1)
      by false e rest = rw e (p.0, rest)

  all_taken : (queues : List Queue) → AllByRecursion (IsNumbered under) queues → AllByRecursion (IsNumbered under) (map queue_taken queues)
  all_taken [] p = tt
  all_taken (queue ∷ queues) p = (numbered_taken under queue p.0, all_taken queues p.1)

  all_first : (graph : GraphData) (waitables : List Waitable) → AllByRecursion (IsNumbered under) (map (new_queue under graph) waitables)
  all_first graph [] = tt
  all_first graph (waitable ∷ waitables) = (numbered_first under graph waitable, all_first graph waitables)

  pub numbers_kept : KeptByRounds (AreNumbered under)
  numbers_kept = record {
    basic = record {
      lines_kept = λ lines world p. p;
      queues_kept = λ entity new world p. all_after (is_queue entity (taker_of new)) (next_arrival world) new world.queues p;
      goals_kept = λ server change world same p. p;
      tasks_kept = λ server id task world p. p;
      arrivals_kept = λ server id world p. p;
      calls_kept = λ client world p. p;
      sending_kept = λ client world p. p;
      variables_kept = λ group variables world p. p;
    };
    accepts_kept = λ server moment decision request world room p. p;
    expiry_kept = λ moment world p. p;
    snapshot_kept = λ moment world p. all_taken world.queues p;
  }

-- so they are after rounds of a plan
pub numbered_in_rounds : (plan : PlanData) (number : ℕ) (moments : List Moment) → All (IsNumbered plan.order) (rounds plan number moments (first_world plan)).queues
numbered_in_rounds plan number moments =
    All-from_recursion (IsNumbered plan.order) _
    (rounds_keep (numbers_kept plan.order) plan number moments (first_world plan) (all_first plan.order plan.graph (filter (λ waitable. takes_from_queue waitable.kind) (wait_set plan.graph))))
