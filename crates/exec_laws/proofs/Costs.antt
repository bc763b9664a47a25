-- How much the callbacks of a ready list run at most, in a world of a lawful plan.
use Rattle.std.proofs.Common.{◌≡◌, ℕ, suc, ◌+◌, ◌*◌, ◌≤◌, Bool, true, false, not, List, [], ◌∷◌, ◌++◌, length, flat_map, Some, length-append, map, refl, sym, ap, ◌∙◌, arith}
use Rattle.std.specs.List.{AllByRecursion, filter}
use Rattle.std.proofs.Math.Nat.{suc-mul}
use Rattle.std.proofs.lemmas.List.{length-map}
use Rattle.std.proofs.lemmas.List.Filters.{length-filter_both}
use Rattle.exec_goal.specs.Cancel.{is_candidate}
use Rattle.exec_goal.specs.Info.{info_of}
use Rattle.exec_goal.specs.Table.{GoalRecord}
use Rattle.exec_msg.specs.Numbers.{EntityNo, Moment}
use Rattle.exec_msg.specs.declared.limits.TheConstants.{GOALS, INSTRUCTIONS}
use Rattle.exec_plan.specs.Graph.{EntityData, GraphData, Waitable, cons_if, entities_where, has_kind, is_server, is_timer, is_topic, kinds, numbers_where, wait_set}
use Rattle.exec_plan.specs.Lawful.{IsLawful}
use Rattle.exec_plan.specs.Plan.{PlanData}
use Rattle.exec_plan.specs.declared.entity.Declared.{Declared}
use Rattle.exec_msg.specs.Timer.{is_due}
use Rattle.exec_rules.proofs.Pairs.{all_flat_where, all_map}
use Rattle.exec_rules.proofs.ReadyLists.{all_listed}
use Rattle.exec_rules.proofs.Sorting.{sum_sorted}
use Rattle.exec_laws.proofs.Short.{IsShort, IsSmall, IsSmallServer, filter_less}
use Rattle.exec_rules.proofs.Wiring.{waits_of}
use Rattle.exec_rules.specs.Callback.{instructions_of}
use Rattle.exec_rules.specs.Shape.{queue_shape, server_shape, shape_of, timer_shape}
use Rattle.exec_rules.specs.Ready.{all_ready, candidates_for, due_ready, is_goal_awake, item_ready, placed_from, poll_ready, queue_ready, rank_under, ready_for, ready_list, script_to_take, woken}
use Rattle.exec_rules.specs.Sorting.{sorted_by}
use Rattle.exec_rules.specs.Transcript.{first_world, new_queue, new_server, new_timer, takes_from_queue}
use Rattle.exec_rules.specs.World.{Queue, ServerEntry, TimerEntry, WorldState, goals_at, has_room_for, is_server_at, goals_in, HeldGoal}
use Rattle.exec_rules.specs.declared.item.Item.{Item}
use Rattle.exec_rules.specs.declared.item.Item.TheVariants as item
use Rattle.exec_rules.specs.declared.ready.Ready.{Ready}

-- a callback has a short script
abbrev pub IsShortReady : Ready → Type 0
IsShortReady one = IsShort (instructions_of one.script)

-- how much one script costs at most, with the closing of its callback
abbrev pub of_script : ℕ
of_script = INSTRUCTIONS + 1

-- how much a callback costs at most that takes an item: the script of a cancel handler runs for each goal of its server
abbrev pub of_item : ℕ
of_item = GOALS * INSTRUCTIONS + of_script

-- how much the polls of a server cost at most
abbrev pub of_polls : ℕ
of_polls = GOALS * of_script

-- how much a ready list costs at most: that of 768 timers, 9,216 queues, and 768 servers
abbrev pub of_list : ℕ
of_list = 768 * of_script + 9216 * of_item + 768 * of_polls

-- as many instructions at most: those of its script, which a cancel handler runs for each candidate, and one more for its closing
abbrev pub cost_of : Ready → ℕ
cost_of one = length one.candidates * INSTRUCTIONS + of_script

abbrev pub cost_of_all : List Ready → ℕ
cost_of_all [] = 0
cost_of_all (one ∷ list) = cost_of one + cost_of_all list

-- ---- each callback

few_goals : (server : EntityNo) (servers : List ServerEntry) → AllByRecursion IsSmallServer servers → length (goals_in server servers) ≤ GOALS
few_goals server [] p = omega arith
few_goals server (entry ∷ servers) p = by (is_server_at server entry) refl (few_goals server servers p.1)
  where
    by : (b : Bool) → is_server_at server entry ≡ b → length (goals_in server servers) ≤ GOALS → length (goals_in server (entry ∷ servers)) ≤ GOALS
    by true e rest = rw e (omega (arith, p.0.goals, length-map entry.held (λ (held : HeldGoal). held.goal)))
    by false e rest = rw e rest

due_short : (moment : Moment) (entry : TimerEntry) → IsShort entry.handler.script → AllByRecursion IsShortReady (due_ready moment entry)
due_short moment entry p = by (is_due entry.timer moment) refl
  where
    by : (b : Bool) → is_due entry.timer moment ≡ b → AllByRecursion IsShortReady (due_ready moment entry)
    by true e = rw e (p, tt)
    by false e = rw e tt

few_candidates : (taken : Item) (goals : List GoalRecord) → length goals ≤ GOALS → length (candidates_for taken goals) ≤ GOALS
few_candidates (item.Message value) goals few = omega arith
few_candidates (item.Request client number value) goals few = omega arith
few_candidates (item.Reply number value) goals few = omega arith
few_candidates (item.Goal id client value) goals few = omega arith
few_candidates (item.Cancel request client) goals few =
    omega (arith, few, length-map (filter (is_candidate request) goals) info_of, filter_less (is_candidate request) goals)
few_candidates (item.Ask id client) goals few = omega arith
few_candidates (item.Response id accepted) goals few = omega arith
few_candidates (item.Code returned moved) goals few = omega arith
few_candidates (item.Feedback id value) goals few = omega arith
few_candidates (item.Result id status value) goals few = omega arith

short_taken : (taken : Item) (goals : List GoalRecord) (script : _) → IsShort script → IsShort (instructions_of (script_to_take taken goals script))
short_taken (item.Message value) goals script p = p
short_taken (item.Request client number value) goals script p = p
short_taken (item.Reply number value) goals script p = p
short_taken (item.Goal id client value) goals script p = by (has_room_for id goals) refl
  where
    by : (b : Bool) → has_room_for id goals ≡ b → IsShort (instructions_of (script_to_take (item.Goal id client value) goals script))
    by true e = rw e p
    by false e = rw e (omega arith)
short_taken (item.Cancel request client) goals script p = p
short_taken (item.Ask id client) goals script p = omega arith
short_taken (item.Response id accepted) goals script p = p
short_taken (item.Code returned moved) goals script p = p
short_taken (item.Feedback id value) goals script p = p
short_taken (item.Result id status value) goals script p = p

item_short : (moment : Moment) (world : WorldState) (queue : Queue) → IsShort queue.handler.script → AllByRecursion IsShortReady (queue_ready moment world queue)
item_short moment world queue p = by queue.items
  where
    by : (items : List Item) → AllByRecursion IsShortReady (item_ready moment queue.handler (goals_at queue.handler.entity world) items)
    by [] = tt
    by (first ∷ items) = (short_taken first (goals_at queue.handler.entity world) queue.handler.script p, tt)

-- the callbacks of a ready list have short scripts
pub list_short : (moment : Moment) (world : WorldState) → IsSmall world → AllByRecursion IsShortReady (ready_list moment world)
list_short moment world p =
    all_listed IsShortReady (λ position one q. q) moment world
    (all_flat_where (λ entry. IsShort entry.handler.script) IsShortReady (due_ready moment) (due_short moment) world.timers p.timers)
    (all_flat_where (λ queue. IsShort queue.handler.script) IsShortReady (queue_ready moment world) (item_short moment world) world.queues p.queues)
    (all_flat_where IsSmallServer IsShortReady (poll_ready moment) (λ entry q. all_map IsShortReady _ (λ goal. q.script) (filter (is_goal_awake moment) entry.held)) world.servers p.servers)

-- ---- how much they cost

cost_joined : (some more : List Ready) → cost_of_all (some ++ more) ≡ cost_of_all some + cost_of_all more
cost_joined [] more = omega arith
cost_joined (one ∷ some) more = omega (arith, cost_joined some more)

cost_placed : (position : ℕ) (list : List Ready) → cost_of_all (placed_from position list) ≡ cost_of_all list
cost_placed position [] = refl
cost_placed position (one ∷ list) = omega (arith, cost_placed (suc position) list)

-- of lists none of which costs more than this
flat_cost : {A : Type 0} (P : A → Type 0) (f : A → List Ready) (most : ℕ) → ((one : A) → P one → cost_of_all (f one) ≤ most) → (all : List A) → AllByRecursion P all → cost_of_all (flat_map f all) ≤ length all * most
flat_cost P f most few [] p = omega arith
flat_cost P f most few (one ∷ all) p =
    omega (arith, cost_joined (f one) (flat_map f all), few one p.0, flat_cost P f most few all p.1, suc-mul (length all) most)

due_cost : (moment : Moment) (entry : TimerEntry) → cost_of_all (due_ready moment entry) ≤ of_script
due_cost moment entry = by (is_due entry.timer moment) refl
  where
    by : (b : Bool) → is_due entry.timer moment ≡ b → cost_of_all (due_ready moment entry) ≤ of_script
    by true e = rw e (omega arith)
    by false e = rw e (omega arith)

item_cost : (moment : Moment) (world : WorldState) (queue : Queue) → AllByRecursion IsSmallServer world.servers → cost_of_all (queue_ready moment world queue) ≤ of_item
item_cost moment world queue servers = by queue.items
  where
    by : (items : List Item) → cost_of_all (item_ready moment queue.handler (goals_at queue.handler.entity world) items) ≤ of_item
    by [] = omega arith
    by (first ∷ items) = omega (arith, few_candidates first (goals_at queue.handler.entity world) (few_goals queue.handler.entity world.servers servers))

poll_cost : (moment : Moment) (entry : ServerEntry) → length entry.held ≤ GOALS → cost_of_all (poll_ready moment entry) ≤ of_polls
poll_cost moment entry few = omega (arith, few, filter_less (is_goal_awake moment) entry.held, each (filter (is_goal_awake moment) entry.held))
  where
    each : (held : List HeldGoal) → cost_of_all (map (λ held. ready_for moment entry.handler (woken held.goal) [] (Some entry.handler.script)) held) ≡ length held * of_script
    each [] = refl
    each (one ∷ held) = omega (arith, each held)

any : {A : Type 0} (all : List A) → AllByRecursion (λ one. Unit {0}) all
any [] = tt
any (one ∷ all) = (tt, any all)

-- a callback for each timer and each queue, and one for each of a server's goals
list_cost : (moment : Moment) (world : WorldState) → IsSmall world → cost_of_all (ready_list moment world) ≤ length world.timers * of_script + length world.queues * of_item + length world.servers * of_polls
list_cost moment world p =
    let timers : List Ready = flat_map (due_ready moment) world.timers in
    let took : List Ready = flat_map (queue_ready moment world) world.queues in
    let polls : List Ready = flat_map (poll_ready moment) world.servers in
    let of_timers : cost_of_all timers ≤ length world.timers * of_script = flat_cost (λ entry. Unit {0}) (due_ready moment) of_script (λ entry q. due_cost moment entry) world.timers (any world.timers) in
    let of_took : cost_of_all took ≤ length world.queues * of_item = flat_cost (λ queue. Unit {0}) (queue_ready moment world) of_item (λ queue q. item_cost moment world queue p.servers) world.queues (any world.queues) in
    let of_polls : cost_of_all polls ≤ length world.servers * of_polls = flat_cost IsSmallServer (poll_ready moment) of_polls (λ entry q. poll_cost moment entry q.goals) world.servers p.servers in
    omega (arith, cost_placed 1 (sorted_by (rank_under world.order world) (all_ready moment world)), sum_sorted cost_of cost_of_all (λ one list. refl) (rank_under world.order world) (all_ready moment world), cost_joined (timers ++ took) polls, cost_joined timers took, of_timers, of_took, of_polls)

-- ---- a graph's entities

pub numbers_few : (test : Declared → Bool) (number : ℕ) (entities : List EntityData) → length (numbers_where test number entities) ≤ length entities
numbers_few test number [] = omega arith
numbers_few test number (entity ∷ entities) = by (test entity.is) (numbers_few test (suc number) entities)
  where
    by : (b : Bool) → length (numbers_where test (suc number) entities) ≤ length entities → length (cons_if b number (numbers_where test (suc number) entities)) ≤ suc (length entities)
    by true rest = omega (arith, rest)
    by false rest = omega (arith, rest)

pub few_entities : (graph : GraphData) → IsLawful graph → length graph.entities ≤ 768
few_entities graph lawful =
    let topics : length (filter (λ (entity : EntityData). is_topic entity.is) graph.entities) ≤ 256 = lawful.few_topics in
    let others : length (filter (λ (entity : EntityData). not (is_topic entity.is)) graph.entities) ≤ 512 = lawful.few_entities in
    omega (arith, topics, others, length-filter_both (λ (entity : EntityData). is_topic entity.is) (λ entity. not (is_topic entity.is)) (λ entity. refl) graph.entities)

-- of lists none of which is longer than this
flat_few : {A B : Type 0} (f : A → List B) (most : ℕ) → ((one : A) → length (f one) ≤ most) → (all : List A) → length (flat_map f all) ≤ length all * most
flat_few f most few [] = omega arith
flat_few f most few (one ∷ all) = omega (arith, length-append (f one) (flat_map f all), few one, flat_few f most few all, suc-mul (length all) most)

few_waits : (graph : GraphData) → IsLawful graph → length (wait_set graph) ≤ 9216
few_waits graph lawful =
    flat_few (waits_of graph) 768
    (λ of. omega (arith, few_entities graph lawful, numbers_few (has_kind of) 0 graph.entities, length-map {B = Waitable} (entities_where (has_kind of) graph) (λ entity. record { kind = of; entity = entity })))
    kinds

-- in a world that has the shape of its plan
pub few_steps : (plan : PlanData) (moment : Moment) (world : WorldState) → IsLawful plan.graph → shape_of world ≡ shape_of (first_world plan) → IsSmall world → cost_of_all (ready_list moment world) ≤ of_list
few_steps plan moment world lawful same p =
    let timers : length world.timers ≡ length (entities_where is_timer plan.graph) =
    sym (length-map world.timers timer_shape) ∙ ap (λ (shape : WorldState). length shape.timers) same ∙ length-map (first_world plan).timers timer_shape ∙ length-map (entities_where is_timer plan.graph) (new_timer plan.graph) in
    let waits : List Waitable = filter (λ (waitable : Waitable). takes_from_queue waitable.kind) (wait_set plan.graph) in
    let queues : length world.queues ≡ length waits =
    sym (length-map world.queues queue_shape) ∙ ap (λ (shape : WorldState). length shape.queues) same ∙ length-map (first_world plan).queues queue_shape ∙ length-map waits (new_queue plan.order plan.graph) in
    let servers : length world.servers ≡ length (entities_where is_server plan.graph) =
    sym (length-map world.servers server_shape) ∙ ap (λ (shape : WorldState). length shape.servers) same ∙ length-map (first_world plan).servers server_shape ∙ length-map (entities_where is_server plan.graph) (new_server plan.graph) in
    omega (arith, list_cost moment world p, timers, queues, servers, few_entities plan.graph lawful, numbers_few is_timer 0 plan.graph.entities, numbers_few is_server 0 plan.graph.entities, filter_less (λ (waitable : Waitable). takes_from_queue waitable.kind) (wait_set plan.graph), few_waits plan.graph lawful)
