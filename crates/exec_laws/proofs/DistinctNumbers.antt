-- Under the order of arrival no two items or goals of a world have one number, and each number is that of an arrival.
use Rattle.std.proofs.Common.{◌≡◌, ℕ, zero, suc, ◌+◌, ◌-◌, ◌≤◌, ◌==◌, Bool, true, false, if◌then◌else◌, drop, map, List, [], ◌∷◌, ◌++◌, Option, None, Some, refl, ap, ◌∙◌, arith, not}
use Rattle.std.specs.List.{All, AllByRecursion, IsDistinct, filter, flat_map}
use Rattle.std.specs.Option.{option_map, unwrap_or}
use Rattle.std.proofs.lemmas.Bool.{eqb-true, eq-eqb}
use Rattle.std.proofs.lemmas.List.Elements.{All-from_recursion}
use Rattle.exec_goal.specs.Table.{GoalRecord, is_expired}
use Rattle.exec_msg.specs.KeepLast.{excess, sent}
use Rattle.exec_msg.specs.Lists.{change_first}
use Rattle.exec_msg.specs.Numbers.{EntityNo, Moment}
use Rattle.exec_plan.specs.Graph.{Waitable, entities_where, is_server, wait_set}
use Rattle.exec_plan.specs.Plan.{PlanData}
use Rattle.exec_plan.specs.declared.order.Order.{Order}
use Rattle.exec_plan.specs.declared.order.Order.TheVariants as order
use Rattle.exec_laws.proofs.Called.{among, among_append}
use Rattle.exec_laws.proofs.Channels.{weigh}
use Rattle.exec_rules.proofs.Identifiers.{eq_turned}
use Rattle.exec_rules.proofs.Running.{KeptByRounds, rounds_keep}
use Rattle.exec_rules.specs.Close.{held_goal, server_accepting}
use Rattle.exec_rules.specs.Item.{taker_of}
use Rattle.exec_rules.specs.Ready.{queue_taken}
use Rattle.exec_rules.specs.Transcript.{first_world, new_queue, new_server, rounds, server_expired, takes_from_queue}
use Rattle.exec_rules.specs.World.{HeldGoal, Queue, ServerEntry, WorldState, arrived, is_for, is_queue, is_server_at, next_arrival, next_in, queue_after, records_of, with_records, with_goals, with_held, standing}
use Rattle.exec_rules.specs.declared.item.Item.{Item}
use Rattle.exec_laws.specs.Arrivals.{IsArrival, all_numbers, numbers_at, numbers_in}
use Rattle.exec_rules.proofs.Records.{ids, parts_put}

-- ---- lists of numbers

-- how often a number may stand there: once if it is that of an arrival
abbrev once : ℕ → ℕ → ℕ
once last n = 1 - (1 - n) - (n - last)

weighs_one : (m n : ℕ) → weigh (m == n) 1 ≤ 1 - (m - n) - (n - m)
weighs_one m n = by (m == n) refl
  where
    by : (b : Bool) → (m == n) ≡ b → weigh b 1 ≤ 1 - (m - n) - (n - m)
    by true e = omega (arith, eqb-true m n e)
    by false e = omega arith

itself : (n : ℕ) → weigh (n == n) 1 ≡ 1
itself n = ap (λ (b : Bool). weigh b 1) (eq-eqb n n refl)

among_dropped : (n many : ℕ) (all : List ℕ) → among n (drop many all) ≤ among n all
among_dropped n zero all = omega arith
among_dropped n (suc many) [] = omega arith
among_dropped n (suc many) (one ∷ all) = omega (arith, among_dropped n many all)

absent : (one : ℕ) (all : List ℕ) → among one all ≡ 0 → AllByRecursion (λ other. (one == other) ≡ false) all
absent one [] none = tt
absent one (other ∷ all) none = (by (other == one) refl, absent one all (omega (arith, none)))
  where
    by : (b : Bool) → (other == one) ≡ b → (one == other) ≡ false
    by true e = let here : weigh (other == one) 1 ≡ 1 = ap (λ (b : Bool). weigh b 1) e in absurd (omega (arith, here, none))
    by false e = eq_turned one other ∙ e

distinct_if : (all : List ℕ) → ((n : ℕ) → among n all ≤ 1) → IsDistinct (λ one other. one == other) all
unfolding IsDistinct
distinct_if [] few = tt
distinct_if (one ∷ all) few = (absent one all (omega (arith, few one, itself one)), distinct_if all (λ n. omega (arith, few n)))

arrivals_if : (last : ℕ) (all : List ℕ) → ((n : ℕ) → among n all ≤ once last n) → AllByRecursion (IsArrival last) all
arrivals_if last [] few = tt
arrivals_if last (one ∷ all) few = ((omega (arith, few one, itself one), omega (arith, few one, itself one)), arrivals_if last all (λ n. omega (arith, few n)))

-- ---- how often a number stands in a world

module _ (n : ℕ) where
  abbrev in_queues : List Queue → ℕ
  in_queues [] = 0
  in_queues (queue ∷ queues) = among n (numbers_in queue) + in_queues queues

  abbrev at_servers : List ServerEntry → ℕ
  at_servers [] = 0
  at_servers (entry ∷ servers) = among n (numbers_at entry) + at_servers servers

  abbrev in_world : WorldState → ℕ
  in_world world = in_queues world.queues + at_servers world.servers

  queues_joined : (queues : List Queue) → among n (flat_map numbers_in queues) ≡ in_queues queues
  queues_joined [] = refl
  queues_joined (queue ∷ queues) = omega (arith, among_append n (numbers_in queue) (flat_map numbers_in queues), queues_joined queues)

  servers_joined : (servers : List ServerEntry) → among n (flat_map numbers_at servers) ≡ at_servers servers
  servers_joined [] = refl
  servers_joined (entry ∷ servers) = omega (arith, among_append n (numbers_at entry) (flat_map numbers_at servers), servers_joined servers)

  all_joined : (world : WorldState) → among n (all_numbers world) ≡ in_world world
  all_joined world = omega (arith, among_append n (flat_map numbers_in world.queues) (flat_map numbers_at world.servers), queues_joined world.queues, servers_joined world.servers)

  -- ---- queues that change

  once_sent : (number : ℕ) (item : Item) (queue : Queue) → among n (numbers_in (queue_after number item queue)) ≤ among n (numbers_in queue) + weigh (number == n) 1
  once_sent number item queue = by queue.arrivals
    where
      by : (numbers : Option (List ℕ)) → among n (unwrap_or (option_map (sent queue.depth number) numbers) []) ≤ among n (unwrap_or numbers []) + weigh (number == n) 1
      by None = omega arith
      by (Some numbers) = omega (arith, among_dropped n (excess queue.depth (numbers ++ number ∷ [])) (numbers ++ number ∷ []), among_append n numbers (number ∷ []))

  all_sent : (test : Queue → Bool) (number : ℕ) (item : Item) (queues : List Queue) → in_queues (change_first test (queue_after number item) queues) ≤ in_queues queues + weigh (number == n) 1
  all_sent test number item [] = omega arith
  all_sent test number item (queue ∷ queues) = by (test queue) (all_sent test number item queues)
    where
      by : (b : Bool) → in_queues (change_first test (queue_after number item) queues) ≤ in_queues queues + weigh (number == n) 1 →
          in_queues (if b then queue_after number item queue ∷ queues else queue ∷ change_first test (queue_after number item) queues) ≤ among n (numbers_in queue) + in_queues queues + weigh (number == n) 1
      by true rest = omega (arith, once_sent number item queue)
      by false rest = omega (arith, rest)

  one_taken : (queue : Queue) → among n (numbers_in (queue_taken queue)) ≤ among n (numbers_in queue)
  one_taken queue = by queue.arrivals
    where
      by : (numbers : Option (List ℕ)) → among n (unwrap_or (option_map (drop 1) numbers) []) ≤ among n (unwrap_or numbers [])
      by None = omega arith
      by (Some numbers) = among_dropped n 1 numbers

  all_taken : (queues : List Queue) → in_queues (map queue_taken queues) ≤ in_queues queues
  all_taken [] = omega arith
  all_taken (queue ∷ queues) = omega (arith, one_taken queue, all_taken queues)

  -- ---- servers that change

  abbrev in_held : List HeldGoal → ℕ
  in_held held = among n (map (λ one. one.arrival) held)

  held_changed : (test : HeldGoal → Bool) (change : HeldGoal → HeldGoal) (more : ℕ) → ((one : HeldGoal) → weigh ((change one).arrival == n) 1 ≤ weigh (one.arrival == n) 1 + more) → (held : List HeldGoal) → in_held (change_first test change held) ≤ in_held held + more
  held_changed test change more few [] = omega arith
  held_changed test change more few (one ∷ held) = by (test one) (held_changed test change more few held)
    where
      by : (b : Bool) → in_held (change_first test change held) ≤ in_held held + more → in_held (if b then change one ∷ held else one ∷ change_first test change held) ≤ weigh (one.arrival == n) 1 + in_held held + more
      by true rest = omega (arith, few one)
      by false rest = omega (arith, rest)

  held_more : (held : List HeldGoal) (new : HeldGoal) → in_held (held ++ new ∷ []) ≤ in_held held + weigh (new.arrival == n) 1
  held_more [] new = omega arith
  held_more (one ∷ held) new = omega (arith, held_more held new)

  held_put : (goals : List GoalRecord) (held : List HeldGoal) → ids goals ≡ ids (records_of held) → in_held (with_records goals held) ≤ in_held held + 0
  held_put goals held same = omega (arith, ap (λ (numbers : List ℕ). among n numbers) (parts_put (λ one. one.arrival) (λ goal one. refl) goals held same))

  held_kept : (test : HeldGoal → Bool) (held : List HeldGoal) → in_held (filter test held) ≤ in_held held
  held_kept test [] = omega arith
  held_kept test (one ∷ held) = by (test one) refl (held_kept test held)
    where
      by : (b : Bool) → test one ≡ b → in_held (filter test held) ≤ in_held held → in_held (filter test (one ∷ held)) ≤ in_held (one ∷ held)
      by true e rest = rw e (omega (arith, rest))
      by false e rest = rw e (omega (arith, rest))

  servers_changed : (test : ServerEntry → Bool) (change : ServerEntry → ServerEntry) (more : ℕ) → ((entry : ServerEntry) → in_held (change entry).held ≤ in_held entry.held + more) → (servers : List ServerEntry) → at_servers (change_first test change servers) ≤ at_servers servers + more
  servers_changed test change more few [] = omega arith
  servers_changed test change more few (entry ∷ servers) = by (test entry) (servers_changed test change more few servers)
    where
      by : (b : Bool) → at_servers (change_first test change servers) ≤ at_servers servers + more → at_servers (if b then change entry ∷ servers else entry ∷ change_first test change servers) ≤ in_held entry.held + at_servers servers + more
      by true rest = omega (arith, few entry)
      by false rest = omega (arith, rest)

  all_expired : (moment : Moment) (servers : List ServerEntry) → at_servers (map (server_expired moment) servers) ≤ at_servers servers
  all_expired moment [] = omega arith
  all_expired moment (entry ∷ servers) = omega (arith, held_kept (λ held. not (is_expired moment entry.timeout held.goal)) entry.held, all_expired moment servers)

-- ---- worlds of the order of arrival

-- each number of an arrival stands in a world once at most, and no other stands there
abbrev HasEachOnce : WorldState → Type 0
HasEachOnce world = (world.order ≡ order.Arrival) × ((n : ℕ) → in_world n world ≤ once world.arrivals n)

counts_on : (world : WorldState) → world.order ≡ order.Arrival → next_arrival world ≡ suc world.arrivals
counts_on world by = let next : next_arrival world ≡ world.arrivals + 1 = ap (λ (under : Order). next_in under world.arrivals) by in omega (arith, next)

-- what takes the next number once at most
one_arrives : (world : WorldState) → world.order ≡ order.Arrival → (n many : ℕ) → in_world n world ≤ once world.arrivals n → many ≤ in_world n world + weigh (next_arrival world == n) 1 → many ≤ once (next_arrival world) n
one_arrives world by n many few grows = omega (arith, few, grows, counts_on world by, weighs_one (next_arrival world) n)

once_kept : KeptByRounds HasEachOnce
once_kept = record {
  basic = record {
    lines_kept = λ lines world p. p;
    queues_kept = λ entity new world p. (p.0, λ n. one_arrives world p.0 n _ (p.1 n) (omega (arith, all_sent n (is_queue entity (taker_of new)) (next_arrival world) new world.queues)));
    goals_kept = λ server change world same p. (p.0, λ n. omega (arith, p.1 n, servers_changed n (is_server_at server) (with_goals change) 0 (λ entry. held_put n (change (records_of entry.held)) entry.held (same (records_of entry.held))) world.servers));
    tasks_kept = λ server id task world p. (p.0, λ n. omega (arith, p.1 n, servers_changed n (is_server_at server) (with_held id (standing task)) 0 (λ entry. held_changed n (is_for id) (standing task) 0 (λ one. omega arith) entry.held) world.servers));
    arrivals_kept = λ server id world p. (
      p.0,
      λ n. one_arrives world p.0 n _ (p.1 n)
          (omega (arith, servers_changed n (is_server_at server) (with_held id (arrived (next_arrival world))) (weigh (next_arrival world == n) 1) (λ entry. held_changed n (is_for id) (arrived (next_arrival world)) (weigh (next_arrival world == n) 1) (λ one. omega arith) entry.held) world.servers)),
    );
    calls_kept = λ client world p. p;
    sending_kept = λ client world p. p;
    variables_kept = λ group variables world p. p;
  };
  accepts_kept = λ server moment how request world room p. (
    p.0,
    λ n. one_arrives world p.0 n _ (p.1 n)
        (omega (arith, servers_changed n (is_server_at server) (server_accepting (next_arrival world) moment how request) (weigh (next_arrival world == n) 1) (λ entry. held_more n entry.held (held_goal (next_arrival world) moment how entry.handler.script request)) world.servers)),
  );
  expiry_kept = λ moment world p. (p.0, λ n. omega (arith, p.1 n, all_expired n moment world.servers));
  snapshot_kept = λ moment world p. (p.0, λ n. omega (arith, p.1 n, all_taken n world.queues));
}

-- ---- the first world

none_first : (n : ℕ) (plan : PlanData) → in_world n (first_world plan) ≡ 0
none_first n plan = omega (arith, empty (filter (λ waitable. takes_from_queue waitable.kind) (wait_set plan.graph)), idle (entities_where is_server plan.graph))
  where
    new_empty : (under : Order) (waitable : Waitable) → among n (numbers_in (new_queue under plan.graph waitable)) ≡ 0
    new_empty order.Kind waitable = refl
    new_empty order.Arrival waitable = refl

    empty : (waitables : List Waitable) → in_queues n (map (new_queue plan.order plan.graph) waitables) ≡ 0
    empty [] = refl
    empty (waitable ∷ waitables) = omega (arith, new_empty plan.order waitable, empty waitables)

    idle : (numbers : List EntityNo) → at_servers n (map (new_server plan.graph) numbers) ≡ 0
    idle [] = refl
    idle (number ∷ numbers) = omega (arith, idle numbers)

module _ (plan : PlanData) (number : ℕ) (moments : List Moment) (by : plan.order ≡ order.Arrival) where
  abbrev after : WorldState
  after = rounds plan number moments (first_world plan)

  each_once : (n : ℕ) → in_world n after ≤ once after.arrivals n
  each_once = (rounds_keep once_kept plan number moments (first_world plan) (by, λ n. omega (arith, none_first n plan))).1

  pub numbers_differ : IsDistinct (λ one other. one == other) (all_numbers after)
  numbers_differ = distinct_if (all_numbers after) (λ n. omega (arith, each_once n, all_joined n after))

  -- what stands in a part stands in the whole
  of_queues : (queues : List Queue) → ((n : ℕ) → in_queues n queues ≤ once after.arrivals n) → AllByRecursion (λ queue. AllByRecursion (IsArrival after.arrivals) (numbers_in queue)) queues
  of_queues [] few = tt
  of_queues (queue ∷ queues) few = (arrivals_if after.arrivals (numbers_in queue) (λ n. omega (arith, few n)), of_queues queues (λ n. omega (arith, few n)))

  of_servers : (servers : List ServerEntry) → ((n : ℕ) → at_servers n servers ≤ once after.arrivals n) → AllByRecursion (λ entry. All (IsArrival after.arrivals) (numbers_at entry)) servers
  of_servers [] few = tt
  of_servers (entry ∷ servers) few =
      (All-from_recursion (IsArrival after.arrivals) (numbers_at entry) (arrivals_if after.arrivals (numbers_at entry) (λ n. omega (arith, few n))), of_servers servers (λ n. omega (arith, few n)))

  pub items_have_arrived : AllByRecursion (λ queue. AllByRecursion (IsArrival after.arrivals) (numbers_in queue)) after.queues
  items_have_arrived = of_queues after.queues (λ n. omega (arith, each_once n))

  pub goals_have_arrived : All (λ entry. All (IsArrival after.arrivals) (numbers_at entry)) after.servers
  goals_have_arrived = All-from_recursion (λ entry. All (IsArrival after.arrivals) (numbers_at entry)) after.servers (of_servers after.servers (λ n. omega (arith, each_once n)))
