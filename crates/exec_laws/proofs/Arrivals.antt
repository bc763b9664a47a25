-- Under the order of arrival the numbers of a queue's items rise.
use Rattle.std.proofs.Common.{◌≡◌, ℕ, zero, suc, ◌+◌, ◌<◌, ◌≤◌, Bool, true, false, drop, get_or, map, List, [], ◌∷◌, ◌++◌, Option, None, Some, IfSome, refl, ap, subst, arith}
use Rattle.std.specs.List.{All, AllByRecursion, filter}
use Rattle.std.specs.List.Sorted.{IsStrictlyIncreasing}
use Rattle.std.specs.Option.{option_map, unwrap_or}
use Rattle.std.proofs.lemmas.List.Elements.{All-from_recursion}
use Rattle.exec_msg.specs.KeepLast.{excess, sent}
use Rattle.exec_msg.specs.Lists.{change_first}
use Rattle.exec_msg.specs.Numbers.{Moment}
use Rattle.exec_plan.specs.Graph.{GraphData, Waitable, wait_set}
use Rattle.exec_plan.specs.Plan.{PlanData}
use Rattle.exec_plan.specs.declared.order.Order.{Order}
use Rattle.exec_plan.specs.declared.order.Order.TheVariants as order
use Rattle.exec_laws.proofs.DistinctNumbers.{items_have_arrived}
use Rattle.exec_rules.proofs.Pairs.{Pairs, all_append, all_both, all_weaker, pairs_append}
use Rattle.exec_rules.proofs.Running.{KeptByRounds, rounds_keep}
use Rattle.exec_rules.specs.Item.{taker_of}
use Rattle.exec_rules.specs.Ready.{queue_taken}
use Rattle.exec_rules.specs.Transcript.{first_world, new_queue, rounds, takes_from_queue}
use Rattle.exec_rules.specs.World.{Queue, WorldState, is_queue, next_arrival, next_in, queue_after}
use Rattle.exec_rules.specs.declared.item.Item.{Item}
use Rattle.exec_laws.specs.Arrivals.{HasRisingNumbers, IsArrival, numbers_in}

-- ---- numbers

abbrev RiseTo : ℕ → List ℕ → Type 0
RiseTo last numbers = Pairs (λ one other. one < other) numbers × AllByRecursion (λ n. n ≤ last) numbers

dropped : (many last : ℕ) (numbers : List ℕ) → RiseTo last numbers → RiseTo last (drop many numbers)
dropped zero last numbers p = p
dropped (suc many) last [] p = p
dropped (suc many) last (n ∷ numbers) p = dropped many last numbers (p.0.1, p.1.1)

later : (last next : ℕ) → last ≤ next → (numbers : List ℕ) → RiseTo last numbers → RiseTo next numbers
later last next above numbers p = (p.0, all_weaker (λ n. n ≤ last) (λ n. n ≤ next) (λ n low. omega (arith, low, above)) numbers p.1)

one_more : (last next : ℕ) → last < next → (numbers : List ℕ) → RiseTo last numbers → RiseTo next (numbers ++ next ∷ [])
one_more last next above numbers p = (
  pairs_append (λ one other. one < other) numbers (next ∷ []) p.0 (tt, tt)
      (all_weaker (λ n. n ≤ last) (λ n. AllByRecursion (λ m. n < m) (next ∷ [])) (λ n low. (omega (arith, low, above), tt)) numbers p.1),
  all_append (λ n. n ≤ next) numbers (next ∷ []) (all_weaker (λ n. n ≤ last) (λ n. n ≤ next) (λ n low. omega (arith, low, above)) numbers p.1) (omega arith, tt),
)

strictly : (numbers : List ℕ) → Pairs (λ one other. one < other) numbers → IsStrictlyIncreasing numbers
strictly [] p k within = absurd (omega (arith, within))
strictly (n ∷ []) p k within = absurd (omega (arith, within))
strictly (n ∷ m ∷ rest) p zero within = p.0.0
strictly (n ∷ m ∷ rest) p (suc k) within =
    let e : suc (k + 1) ≡ suc k + 1 = omega arith in
    subst (λ i. get_or (m ∷ rest) k 0 < get_or (n ∷ m ∷ rest) i 0) e (strictly (m ∷ rest) p.1 k (omega (arith, within)))

-- ---- queues

abbrev Rising : ℕ → Queue → Type 0
Rising last queue = IfSome queue.arrivals (RiseTo last)

rising_sent : (last next : ℕ) → last < next → (item : Item) (queue : Queue) → Rising last queue → Rising next (queue_after next item queue)
rising_sent last next above item queue p = by queue.arrivals p
  where
    by : (numbers : Option (List ℕ)) → IfSome numbers (RiseTo last) → IfSome (option_map (sent queue.depth next) numbers) (RiseTo next)
    by None q = tt
    by (Some numbers) q = dropped (excess queue.depth (numbers ++ next ∷ [])) next (numbers ++ next ∷ []) (one_more last next above numbers q)

rising_later : (last next : ℕ) → last ≤ next → (queue : Queue) → Rising last queue → Rising next queue
rising_later last next above queue p = by queue.arrivals p
  where
    by : (numbers : Option (List ℕ)) → IfSome numbers (RiseTo last) → IfSome numbers (RiseTo next)
    by None q = tt
    by (Some numbers) q = later last next above numbers q

rising_taken : (last : ℕ) (queue : Queue) → Rising last queue → Rising last (queue_taken queue)
rising_taken last queue p = by queue.arrivals p
  where
    by : (numbers : Option (List ℕ)) → IfSome numbers (RiseTo last) → IfSome (option_map (drop 1) numbers) (RiseTo last)
    by None q = tt
    by (Some numbers) q = dropped 1 last numbers q

has_rising : (last above : ℕ) (queue : Queue) → Rising last queue → AllByRecursion (IsArrival above) (numbers_in queue) → HasRisingNumbers above queue
has_rising last above queue p q = by queue.arrivals p q
  where
    by : (numbers : Option (List ℕ)) → IfSome numbers (RiseTo last) → AllByRecursion (IsArrival above) (unwrap_or numbers []) → IsStrictlyIncreasing (unwrap_or numbers []) × All (IsArrival above) (unwrap_or numbers [])
    by None r a = (strictly [] tt, All-from_recursion (IsArrival above) [] tt)
    by (Some numbers) r a = (strictly numbers r.0, All-from_recursion (IsArrival above) numbers a)

all_sent : (test : Queue → Bool) (last next : ℕ) → last < next → (item : Item) (queues : List Queue) → AllByRecursion (Rising last) queues → AllByRecursion (Rising next) (change_first test (queue_after next item) queues)
all_sent test last next above item [] p = tt
all_sent test last next above item (queue ∷ queues) p = by (test queue) refl (all_sent test last next above item queues p.1)
  where
    by : (b : Bool) → test queue ≡ b → AllByRecursion (Rising next) (change_first test (queue_after next item) queues) → AllByRecursion (Rising next) (change_first test (queue_after next item) (queue ∷ queues))
    by true e rest = rw e (rising_sent last next above item queue p.0, all_weaker (Rising last) (Rising next) (rising_later last next (omega (arith, above))) queues p.1)
    by false e rest = rw e (rising_later last next (omega (arith, above)) queue p.0, rest)

all_taken : (last : ℕ) (queues : List Queue) → AllByRecursion (Rising last) queues → AllByRecursion (Rising last) (map queue_taken queues)
all_taken last [] p = tt
all_taken last (queue ∷ queues) p = (rising_taken last queue p.0, all_taken last queues p.1)

first_rising : (under : Order) (graph : GraphData) (waitable : Waitable) → Rising 0 (new_queue under graph waitable)
first_rising order.Kind graph waitable = tt
first_rising order.Arrival graph waitable = (tt, tt)

all_first : (under : Order) (graph : GraphData) (waitables : List Waitable) → AllByRecursion (Rising 0) (map (new_queue under graph) waitables)
all_first under graph [] = tt
all_first under graph (waitable ∷ waitables) = (first_rising under graph waitable, all_first under graph waitables)

-- ---- worlds of the order of arrival

abbrev Arriving : WorldState → Type 0
Arriving world = (world.order ≡ order.Arrival) × AllByRecursion (Rising world.arrivals) world.queues

above : (world : WorldState) → world.order ≡ order.Arrival → world.arrivals < next_arrival world
above world by = let next : next_arrival world ≡ world.arrivals + 1 = ap (λ (under : Order). next_in under world.arrivals) by in omega (arith, next)

all_later : (world : WorldState) → Arriving world → AllByRecursion (Rising (next_arrival world)) world.queues
all_later world p =
    let more = above world p.0 in
    all_weaker (Rising world.arrivals) (Rising (next_arrival world)) (rising_later world.arrivals (next_arrival world) (omega (arith, more))) world.queues p.1

arriving_kept : KeptByRounds Arriving
arriving_kept = record {
  basic = record {
    lines_kept = λ lines world p. p;
    queues_kept = λ entity new world p. (p.0, all_sent (is_queue entity (taker_of new)) world.arrivals (next_arrival world) (above world p.0) new world.queues p.1);
    goals_kept = λ server change world same p. p;
    tasks_kept = λ server id task world p. p;
    arrivals_kept = λ server id world p. (p.0, all_later world p);
    calls_kept = λ client world p. p;
    sending_kept = λ client world p. p;
    variables_kept = λ group variables world p. p;
  };
  accepts_kept = λ server moment decision request world room p. (p.0, all_later world p);
  expiry_kept = λ moment world p. p;
  snapshot_kept = λ moment world p. (p.0, all_taken world.arrivals world.queues p.1);
}

pub arrivals_rise : (plan : PlanData) (number : ℕ) (moments : List Moment) → plan.order ≡ order.Arrival → All (HasRisingNumbers (rounds plan number moments (first_world plan)).arrivals) (rounds plan number moments (first_world plan)).queues
arrivals_rise plan number moments by =
    let after : WorldState = rounds plan number moments (first_world plan) in
    let kept = rounds_keep arriving_kept plan number moments (first_world plan) (by, all_first plan.order plan.graph (filter (λ waitable. takes_from_queue waitable.kind) (wait_set plan.graph))) in
    All-from_recursion (HasRisingNumbers after.arrivals) after.queues
    (all_both (Rising after.arrivals) (λ queue. AllByRecursion (IsArrival after.arrivals) (numbers_in queue)) (HasRisingNumbers after.arrivals) (λ queue p q. has_rising after.arrivals after.arrivals queue p q) after.queues kept.1 (items_have_arrived plan number moments by))
