-- What every world keeps, and what follows for the goals that callbacks poll.
use Rattle.std.proofs.Common.{◌≡◌, ℕ, suc, Bool, true, false, ◌==◌, ◌&&◌, List, [], ◌∷◌, ◌++◌, Option, Some, refl, sym, ap, ap₂, append_assoc, subst, ◌∙◌, true≢false}
use Rattle.std.specs.List.{AllByRecursion, IsDistinct, filter, find, flat_map}
use Rattle.std.specs.Option.{option_map_or}
use Rattle.std.specs.Result.{OnOk, is_err}
use Rattle.std.specs.declared.result.Result.{Result}
use Rattle.std.specs.declared.result.Result.TheVariants.{Ok, Err}
use Rattle.std.proofs.lemmas.Bool.{and_parts, eqb-true, eq-eqb}
use Rattle.exec_goal.specs.State.{is_canceling, is_worked_on}
use Rattle.exec_goal.specs.Table.{GoalRecord}
use Rattle.exec_msg.specs.Numbers.{EntityNo, GoalId, Moment}
use Rattle.exec_plan.specs.Graph.{is_server, wait_set}
use Rattle.exec_plan.specs.Plan.{PlanData}
use Rattle.exec_msg.specs.Timer.{is_due}
use Rattle.exec_msg.specs.declared.line.Line.TheVariants as line
use Rattle.exec_rules.proofs.ByKind.{QueuesRise, listed, queues_rise, split_by, taken}
use Rattle.exec_rules.proofs.Identifiers.{HasDistinct, eq_turned, Makes, distinct_kept, first_distinct, ids_left}
use Rattle.exec_rules.proofs.Records.{ids, records_left}
use Rattle.exec_rules.proofs.Keeping.{Kept, feed_keeps, moves_kept, publish_kept, push_kept}
use Rattle.exec_rules.proofs.Pairs.{Pairs, across, all_append, all_both, all_filter, all_flat, all_unmapped, all_mapped, all_weaker, all_passed, pairs_append, pairs_all, pairs_filter, pairs_map, pairs_unmapped}
use Rattle.exec_rules.proofs.OfKinds.{kinds_first, kinds_kept}
use Rattle.exec_rules.proofs.ReadyLists.{all_listed}
use Rattle.exec_rules.proofs.Sorting.{pairs_sorted}
use Rattle.exec_rules.proofs.Running.{KeptByRounds}
use Rattle.exec_rules.proofs.Shapes.{part_changed, shape_kept}
use Rattle.exec_rules.proofs.Wiring.{NumbersApart, numbers_apart, wired}
use Rattle.exec_rules.specs.Calls.{AreHome, IsHomeFor, polls_same, polls_same_of, wakes}
use Rattle.exec_rules.specs.Shape.{server_shape, shape_of}
use Rattle.exec_task.specs.Task.{is_awake}
use Rattle.exec_task.specs.declared.wait.Turn.{Turn}
use Rattle.exec_rules.specs.Ready.{all_ready, due_ready, is_goal_awake, item_ready, poll_ready, placed_from, queue_ready, rank_under, ready_for, ready_list, take_inputs, turn_at, woken}
use Rattle.exec_rules.specs.Sorting.{sorted_by}
use Rattle.exec_rules.specs.Transcript.{first_world, run_all, snapshot_and_run, takes_from_queue}
use Rattle.exec_rules.specs.World.{GoalWork, HeldGoal, Queue, ServerEntry, TimerEntry, WorldState, doing, goals_at, is_for, is_server_at, records_of, with_held, with_work}
use Rattle.exec_rules.specs.declared.item.Item.{Item}
use Rattle.exec_rules.specs.declared.item.Item.TheVariants as item
use Rattle.exec_rules.specs.declared.ready.Cause.{Cause}
use Rattle.exec_rules.specs.declared.ready.Cause.TheVariants as cause
use Rattle.exec_rules.specs.declared.ready.Ready.{Ready}
use Rattle.exec_rules.specs.inner.ByKind.{queues_before_polls, queues_behind_polls, ready_behind, taken_in_parts}
use Rattle.exec_world.specs.inner.Snapshots.{begun_by, listed_in, listed_under, ready_in_parts, round_in}
use Rattle.exec_plan.specs.declared.order.Order.{Order}
use Rattle.exec_plan.specs.declared.order.Order.TheVariants as order
use Rattle.std.proofs.lemmas.Grind.{flat_map-append}
use Rattle.exec_world.specs.declared.state.round.Round.{Round}
use Rattle.exec_world.specs.inner.Sound.{IsSound}

-- ---- what is kept

module _ (plan : PlanData) where
  shapes : KeptByRounds (λ world. shape_of world ≡ shape_of (first_world plan))
  shapes = shape_kept (shape_of (first_world plan))

  basic_sound : Kept (IsSound plan)
  basic_sound = record {
    lines_kept = λ lines world p. record { shape = shapes.basic.lines_kept lines world p.shape; kinds = kinds_kept.basic.lines_kept lines world p.kinds; identifiers = distinct_kept.basic.lines_kept lines world p.identifiers };
    queues_kept = λ entity new world p. record { shape = shapes.basic.queues_kept entity new world p.shape; kinds = kinds_kept.basic.queues_kept entity new world p.kinds; identifiers = distinct_kept.basic.queues_kept entity new world p.identifiers };
    goals_kept = λ server change world same p. record { shape = shapes.basic.goals_kept server change world same p.shape; kinds = kinds_kept.basic.goals_kept server change world same p.kinds; identifiers = distinct_kept.basic.goals_kept server change world same p.identifiers };
    tasks_kept = λ server id task world p. record { shape = shapes.basic.tasks_kept server id task world p.shape; kinds = kinds_kept.basic.tasks_kept server id task world p.kinds; identifiers = distinct_kept.basic.tasks_kept server id task world p.identifiers };
    arrivals_kept = λ server id world p. record { shape = shapes.basic.arrivals_kept server id world p.shape; kinds = kinds_kept.basic.arrivals_kept server id world p.kinds; identifiers = distinct_kept.basic.arrivals_kept server id world p.identifiers };
    calls_kept = λ client world p. record { shape = shapes.basic.calls_kept client world p.shape; kinds = kinds_kept.basic.calls_kept client world p.kinds; identifiers = distinct_kept.basic.calls_kept client world p.identifiers };
    sending_kept = λ client world p. record { shape = shapes.basic.sending_kept client world p.shape; kinds = kinds_kept.basic.sending_kept client world p.kinds; identifiers = distinct_kept.basic.sending_kept client world p.identifiers };
    variables_kept = λ group variables world p. record { shape = shapes.basic.variables_kept group variables world p.shape; kinds = kinds_kept.basic.variables_kept group variables world p.kinds; identifiers = distinct_kept.basic.variables_kept group variables world p.identifiers };
  }

  -- a round, a snapshot and what is given to the world keep it
  pub sound : KeptByRounds (IsSound plan)
  sound = record {
    basic = basic_sound;
    accepts_kept = λ server moment how request world room p. record { shape = shapes.accepts_kept server moment how request world room p.shape; kinds = kinds_kept.accepts_kept server moment how request world room p.kinds; identifiers = distinct_kept.accepts_kept server moment how request world room p.identifiers };
    expiry_kept = λ moment world p. record { shape = shapes.expiry_kept moment world p.shape; kinds = kinds_kept.expiry_kept moment world p.kinds; identifiers = distinct_kept.expiry_kept moment world p.identifiers };
    snapshot_kept = λ moment world p. record { shape = shapes.snapshot_kept moment world p.shape; kinds = kinds_kept.snapshot_kept moment world p.kinds; identifiers = distinct_kept.snapshot_kept moment world p.identifiers };
  }

  -- the first world is so
  pub first_sound : IsSound plan (first_world plan)
  first_sound = record { shape = refl; kinds = kinds_first plan.order plan.graph (filter (λ waitable. takes_from_queue waitable.kind) (wait_set plan.graph)); identifiers = first_distinct plan }

  lending : (id : GoalId) (work : GoalWork) → Makes (with_held id (doing work)) (λ goals. goals)
  lending id work = record { stays = λ entry. refl; makes = λ entry. records_left id (doing work) (λ held. refl) entry.held }

  -- a task that goes out or comes home keeps it
  pub lent_sound : (server : EntityNo) (id : GoalId) (work : GoalWork) (world : WorldState) → IsSound plan world → IsSound plan (with_work server id work world)
  lent_sound server id work world p = record {
    shape = ap (λ (servers : List ServerEntry). record (shape_of world) { servers = servers }) (part_changed server_shape (is_server_at server) _ (λ entry. refl) world.servers) ∙ p.shape;
    kinds = p.kinds;
    identifiers = λ one. subst (λ (some : List GoalId). IsDistinct (λ first second. first == second) some) (sym (ids_left (lending id work) (λ goals. refl) one server world.servers)) (p.identifiers one);
  }

  -- a round that begins keeps it
  pub begun_sound : (round : Round) (world : WorldState) → IsSound plan world → IsSound plan (begun_by round world)
  begun_sound round world p = feed_keeps (moves_kept sound.basic) (publish_kept {P = IsSound plan} (λ entity value before q. push_kept sound.basic entity (item.Message value) before q)) round.fed.now _ (sound.expiry_kept round.moment _ (sound.basic.lines_kept (line.Round round.number round.moment ∷ []) world p))

-- what is ready is what is ready in its parts
parts_ready : (moment : Moment) (world : WorldState) → QueuesRise world.queues → all_ready moment world ≡ ready_in_parts moment world
parts_ready moment world rise =
    let timers : List Ready = flat_map (due_ready moment) world.timers in
    let polls : List Ready = flat_map (poll_ready moment) world.servers in
    let before : List Ready = flat_map (queue_ready moment world) (queues_before_polls world) in
    ap (λ (took : List Ready). (timers ++ took) ++ polls) (ap (flat_map (queue_ready moment world)) (split_by world.queues rise) ∙ flat_map-append (queue_ready moment world) (queues_before_polls world) (queues_behind_polls world))
    ∙ ap (λ (list : List Ready). list ++ polls) (sym (append_assoc timers before (ready_behind moment world)))

-- a sound world's snapshot is the one that is made
module _ (plan : PlanData) (moment : Moment) (world : WorldState) (p : IsSound plan world) where
  listed_by : (under : Order) → world.order ≡ under → placed_from 1 (sorted_by (rank_under under world) (all_ready moment world)) ≡ listed_under under moment world
  listed_by order.Kind is = ap (λ (under : Order). placed_from 1 (sorted_by (rank_under under world) (all_ready moment world))) (sym is) ∙ listed moment world p.kinds is (queues_rise plan world p.shape)
  listed_by order.Arrival is = ap (λ (list : List Ready). placed_from 1 (sorted_by (rank_under order.Arrival world) list)) (parts_ready moment world (queues_rise plan world p.shape))

  pub sound_listed : ready_list moment world ≡ listed_in moment world
  sound_listed = listed_by world.order refl

  pub sound_taken : take_inputs moment world ≡ taken_in_parts moment world
  sound_taken = taken moment world p.kinds

  pub sound_rounded : snapshot_and_run moment world ≡ round_in moment world
  sound_rounded = ap₂ run_all sound_listed sound_taken

-- what is told of a call that wasn't refused
pub not_refused : {A E : Type 0} (result : Result A E) (fact : Type 0) → is_err result ≡ false → OnOk result fact → fact
not_refused (Ok x) fact e told = told
not_refused (Err y) fact e told = absurd (true≢false e)

-- ---- servers

abbrev ServersApart : ServerEntry → ServerEntry → Type 0
ServersApart one other = NumbersApart one.handler.entity other.handler.entity

not_one : (one other : EntityNo) → NumbersApart one other → one == other ≡ false
not_one one other apart = by (one == other) refl
  where
    by : (b : Bool) → one == other ≡ b → b ≡ false
    by true e = absurd (apart (sym (eqb-true one other e)))
    by false e = refl

-- each server is found by its number
abbrev IsFound : List ServerEntry → ServerEntry → Type 0
IsFound servers entry = find (is_server_at entry.handler.entity) servers ≡ Some entry

found_behind : (first : ServerEntry) (servers rest : List ServerEntry) → AllByRecursion (ServersApart first) rest → AllByRecursion (IsFound servers) rest → AllByRecursion (IsFound (first ∷ servers)) rest
found_behind first servers [] apart found = tt
found_behind first servers (entry ∷ rest) apart found =
    (rw (not_one first.handler.entity entry.handler.entity apart.0) found.0, found_behind first servers rest apart.1 found.1)

all_found : (servers : List ServerEntry) → Pairs ServersApart servers → AllByRecursion (IsFound servers) servers
all_found [] apart = tt
all_found (entry ∷ servers) apart =
    (rw (eq-eqb entry.handler.entity entry.handler.entity refl) refl, found_behind entry servers servers apart.0 (all_found servers apart.1))

-- ---- polls

-- a callback that polls no goal
abbrev PollsNone : Ready → Type 0
PollsNone one = (id : GoalId) → wakes id one.cause ≡ false

abbrev Apart : Ready → Ready → Type 0
Apart one other = polls_same one other ≡ false

none_with : (one other : Ready) → PollsNone one → Apart one other
none_with one other none = by one.cause refl
  where
    by : (why : Cause) → one.cause ≡ why → polls_same_of one.entity why other ≡ false
    by cause.Due e = refl
    by (cause.Took taken) e = refl
    by (cause.Woke id value canceling) e = absurd (true≢false (sym (eq-eqb id id refl) ∙ sym (ap (λ (c : Cause). wakes id c) e) ∙ none id))

-- what holds of a callback that polls none
home_without : (world : WorldState) (one : Ready) → PollsNone one → IsHomeFor one.entity one.cause world
home_without world one none = by one.cause refl
  where
    by : (why : Cause) → one.cause ≡ why → IsHomeFor one.entity why world
    by cause.Due e = tt
    by (cause.Took taken) e = tt
    by (cause.Woke id value canceling) e = absurd (true≢false (sym (eq-eqb id id refl) ∙ sym (ap (λ (c : Cause). wakes id c) e) ∙ none id))

due_none : (moment : Moment) (entry : TimerEntry) → AllByRecursion PollsNone (due_ready moment entry)
due_none moment entry = by (is_due entry.timer moment) refl
  where
    by : (b : Bool) → is_due entry.timer moment ≡ b → AllByRecursion PollsNone (due_ready moment entry)
    by true e = rw e ((λ id. refl), tt)
    by false e = rw e tt

taken_none : (moment : Moment) (world : WorldState) (queue : Queue) → AllByRecursion PollsNone (queue_ready moment world queue)
taken_none moment world queue = by queue.items
  where
    by : (items : List Item) → AllByRecursion PollsNone (item_ready moment queue.handler (goals_at queue.handler.entity world) items)
    by [] = tt
    by (first ∷ items) = ((λ id. refl), tt)

-- ---- the polls of a server

-- among goals of different identifiers each is the one of its identifier
each_found : (held : List HeldGoal) → Pairs (λ one other. one == other ≡ false) (ids (records_of held)) → AllByRecursion (λ one. find (is_for one.goal.id) held ≡ Some one) held
each_found [] distinct = tt
each_found (one ∷ held) distinct = (
  rw (eq-eqb one.goal.id one.goal.id refl) refl,
  all_both (λ other. one.goal.id == other.goal.id ≡ false) (λ other. find (is_for other.goal.id) held ≡ Some other) (λ other. find (is_for other.goal.id) (one ∷ held) ≡ Some other) (λ other differs here. rw differs here) held
      (all_unmapped (λ other. one.goal.id == other.id ≡ false) (λ (held : HeldGoal). held.goal) held (all_unmapped (λ other. one.goal.id == other ≡ false) (λ (goal : GoalRecord). goal.id) (records_of held) distinct.0)) (each_found held distinct.1),
)

module _ (moment : Moment) (world : WorldState) where
  abbrev HasHome : Ready → Type 0
  HasHome one = IsHomeFor one.entity one.cause world

  -- no two goals of a server have one identifier
  abbrev HasOwn : ServerEntry → Type 0
  HasOwn entry = Pairs (λ one other. one == other ≡ false) (ids (records_of entry.held))

  task_there : (entry : ServerEntry) (held : HeldGoal) → IsFound world.servers entry → find (is_for held.goal.id) entry.held ≡ Some held → is_goal_awake moment held ≡ true → IsHomeFor entry.handler.entity (woken held.goal) world
  task_there entry held found own awake =
      let turn : Turn = turn_at moment (is_canceling held.goal.state) in
      let there = (and_parts (is_worked_on held.goal.state) (is_awake held.work.task turn) awake).1 in
      (held.work, rw (found, own) refl, λ out. true≢false (sym there ∙ ap (λ (work : GoalWork). is_awake work.task turn) out))

  polls_home : (entry : ServerEntry) → IsFound world.servers entry → HasOwn entry → AllByRecursion HasHome (poll_ready moment entry)
  polls_home entry found own =
      all_mapped (λ held. (find (is_for held.goal.id) entry.held ≡ Some held) × (is_goal_awake moment held ≡ true)) HasHome _ (λ held there. task_there entry held found there.0 there.1) (filter (is_goal_awake moment) entry.held)
      (all_both (λ held. find (is_for held.goal.id) entry.held ≡ Some held) (λ held. is_goal_awake moment held ≡ true) _ (λ held there awake. (there, awake)) (filter (is_goal_awake moment) entry.held)
      (all_filter (λ held. find (is_for held.goal.id) entry.held ≡ Some held) (is_goal_awake moment) entry.held (each_found entry.held own))
      (all_passed (is_goal_awake moment) entry.held))

  all_home : (servers : List ServerEntry) → AllByRecursion (IsFound world.servers) servers → AllByRecursion HasOwn servers → AllByRecursion HasHome (flat_map (poll_ready moment) servers)
  all_home [] found own = tt
  all_home (entry ∷ servers) found own = all_append HasHome (poll_ready moment entry) (flat_map (poll_ready moment) servers) (polls_home entry found.0 own.0) (all_home servers found.1 own.1)

  polls_apart : (entry : ServerEntry) → HasOwn entry → Pairs Apart (poll_ready moment entry)
  polls_apart entry distinct =
      pairs_map (λ one other. one.goal.id == other.goal.id ≡ false) Apart _ (λ one other apart. rw apart refl) _
      (pairs_filter (λ one other. one.goal.id == other.goal.id ≡ false) (is_goal_awake moment) entry.held
      (pairs_unmapped (λ one other. one.id == other.id ≡ false) (λ (held : HeldGoal). held.goal) entry.held
      (pairs_unmapped (λ one other. one == other ≡ false) (λ (goal : GoalRecord). goal.id) (records_of entry.held) distinct)))

  goals_own : (servers : List ServerEntry) → HasDistinct world → AllByRecursion (IsFound world.servers) servers → AllByRecursion HasOwn servers
  unfolding IsDistinct
  goals_own [] distinct found = tt
  goals_own (entry ∷ servers) distinct found =
      (own (ids (records_of entry.held)) (subst (λ (some : Option ServerEntry). IsDistinct (λ one other. one == other) (ids (option_map_or (λ one. records_of one.held) some []))) found.0 (distinct entry.handler.entity)), goals_own servers distinct found.1)
    where
      own : (some : List GoalId) → IsDistinct (λ one other. one == other) some → Pairs (λ one other. one == other ≡ false) some
      own [] p = tt
      own (one ∷ some) p = (p.0, own some p.1)

  -- polls of different servers
  between : (one other : ServerEntry) → ServersApart one other → AllByRecursion (λ x. AllByRecursion (Apart x) (poll_ready moment other)) (poll_ready moment one)
  between one other apart =
      all_mapped (λ held. is_goal_awake moment held ≡ true) (λ x. AllByRecursion (Apart x) (poll_ready moment other)) _
      (λ held awake.
      all_mapped (λ another. is_goal_awake moment another ≡ true) (Apart (ready_for moment one.handler (woken held.goal) [] (Some one.handler.script))) _
      (λ another awake_too. second_false (held.goal.id == another.goal.id) (not_one one.handler.entity other.handler.entity apart)) _ (all_passed (is_goal_awake moment) other.held)) _
      (all_passed (is_goal_awake moment) one.held)
    where
      second_false : (b : Bool) {c : Bool} → c ≡ false → b && c ≡ false
      second_false true e = e
      second_false false e = refl

  all_polls_apart : (servers : List ServerEntry) → Pairs ServersApart servers → AllByRecursion HasOwn servers → Pairs Apart (flat_map (poll_ready moment) servers)
  all_polls_apart [] apart own = tt
  all_polls_apart (entry ∷ servers) apart own =
      pairs_append Apart (poll_ready moment entry) (flat_map (poll_ready moment) servers) (polls_apart entry own.0) (all_polls_apart servers apart.1 own.1)
      (across ServersApart Apart (poll_ready moment) between entry servers apart.0)

-- ---- the ready list

placed_same : (server : EntityNo) (why : Cause) (position : ℕ) (other : Ready) → polls_same_of server why (record other { position = position }) ≡ polls_same_of server why other
placed_same server cause.Due position other = refl
placed_same server (cause.Took taken) position other = refl
placed_same server (cause.Woke id value canceling) position other = refl

placed_with : (one : Ready) (place position : ℕ) (list : List Ready) → AllByRecursion (Apart one) list → AllByRecursion (Apart (record one { position = place })) (placed_from position list)
placed_with one place position [] p = tt
placed_with one place position (other ∷ list) p = (placed_same one.entity one.cause position other ∙ p.0, placed_with one place (suc position) list p.1)

placed_apart : (position : ℕ) (list : List Ready) → Pairs Apart list → Pairs Apart (placed_from position list)
placed_apart position [] p = tt
placed_apart position (one ∷ list) p = (placed_with one position (suc position) list p.0, placed_apart (suc position) list p.1)

distinct_of : (list : List Ready) → Pairs Apart list → IsDistinct polls_same list
unfolding IsDistinct
distinct_of [] p = tt
distinct_of (one ∷ list) p = (p.0, distinct_of list p.1)

none_against : (some more : List Ready) → AllByRecursion PollsNone some → AllByRecursion (λ one. AllByRecursion (Apart one) more) some
none_against [] more p = tt
none_against (one ∷ some) more p = (each more, none_against some more p.1)
  where
    each : (rest : List Ready) → AllByRecursion (Apart one) rest
    each [] = tt
    each (other ∷ rest) = (none_with one other p.0, each rest)

-- a snapshot leaves tasks where they are
home_taken : (moment : Moment) (world : WorldState) (server : EntityNo) (why : Cause) → IsHomeFor server why world → IsHomeFor server why (take_inputs moment world)
home_taken moment world server cause.Due home = home
home_taken moment world server (cause.Took taken) home = home
home_taken moment world server (cause.Woke id value canceling) home = home

-- two callbacks poll one goal, whichever is named first
apart_turned : (one other : Ready) → Apart one other → Apart other one
apart_turned one other apart = by one.cause other.cause refl refl apart
  where
    by : (why because : Cause) → one.cause ≡ why → other.cause ≡ because → polls_same_of one.entity why other ≡ false → polls_same_of other.entity because one ≡ false
    by why cause.Due e f p = refl
    by why (cause.Took taken) e f p = refl
    by cause.Due (cause.Woke id value canceling) e f p = rw e refl
    by (cause.Took taken) (cause.Woke id value canceling) e f p = rw e refl
    by (cause.Woke first value canceling) (cause.Woke second more moved) e f p =
        rw e ((λ i. eq_turned second first i && eq_turned other.entity one.entity i) ∙ sym (ap (λ (c : Cause). wakes first c && (one.entity == other.entity)) f) ∙ p)

-- the tasks of the goals that a snapshot's callbacks poll are at home
pub snapshot_home : (plan : PlanData) (moment : Moment) (world : WorldState) → IsSound plan world → AreHome (ready_list moment world) (take_inputs moment world)
snapshot_home plan moment world p =
    let apart : Pairs ServersApart world.servers =
    pairs_unmapped NumbersApart (λ entry. entry.handler.entity) world.servers (subst (λ (numbers : List EntityNo). Pairs NumbersApart numbers) (sym (wired plan world p.shape).listed) (numbers_apart is_server 0 plan.graph.entities)) in
    let found : AllByRecursion (IsFound world.servers) world.servers = all_found world.servers apart in
    let timers : List Ready = flat_map (due_ready moment) world.timers in
    let took : List Ready = flat_map (queue_ready moment world) world.queues in
    let polls : List Ready = flat_map (poll_ready moment) world.servers in
    let none_due : AllByRecursion PollsNone timers = all_flat PollsNone (due_ready moment) (due_none moment) world.timers in
    let none_taken : AllByRecursion PollsNone took = all_flat PollsNone (queue_ready moment world) (taken_none moment world) world.queues in
    let none : AllByRecursion PollsNone (timers ++ took) = all_append PollsNone timers took none_due none_taken in
    let homes : (list : List Ready) → AllByRecursion PollsNone list → AllByRecursion (HasHome moment world) list = λ list p. all_weaker PollsNone (HasHome moment world) (home_without world) list p in
    record {
      home = all_weaker (HasHome moment world) (HasHome moment (take_inputs moment world)) (λ one home. home_taken moment world one.entity one.cause home) (ready_list moment world)
          (all_listed (HasHome moment world) (λ place one q. q) moment world (homes timers none_due) (homes took none_taken) (all_home moment world world.servers found (goals_own moment world world.servers p.identifiers found)));
      apart = distinct_of (ready_list moment world) (placed_apart 1 (sorted_by (rank_under world.order world) (timers ++ took ++ polls))
          (pairs_sorted Apart (rank_under world.order world) (timers ++ took ++ polls) apart_turned
          (pairs_append Apart (timers ++ took) polls (pairs_all PollsNone Apart (λ one other q r. none_with one other q) (timers ++ took) none)
          (all_polls_apart moment world world.servers apart (goals_own moment world world.servers p.identifiers found)) (none_against (timers ++ took) polls none))));
    }
