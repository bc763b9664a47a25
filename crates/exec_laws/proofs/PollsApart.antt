-- The polls of a ready list: each of a goal that may be polled so, and no two of one goal.
use Rattle.std.proofs.Common.{◌≡◌, ℕ, suc, ℤ, Bool, true, false, ◌==◌, List, [], ◌∷◌, ◌++◌, Some, refl, sym, ap, subst, ◌∙◌, true≢false}
use Rattle.std.specs.List.{AllByRecursion, IsDistinct, filter, flat_map}
use Rattle.std.proofs.lemmas.Bool.{eqb-true, eq-eqb, and_parts}
use Rattle.exec_goal.specs.Calls.{state_in}
use Rattle.exec_goal.specs.State.{is_canceling, is_worked_on}
use Rattle.exec_goal.specs.Table.{GoalRecord}
use Rattle.exec_goal.specs.declared.state.State.{State}
use Rattle.exec_goal.specs.declared.state.State.TheVariants as state
use Rattle.exec_msg.specs.Numbers.{EntityNo, GoalId, Moment}
use Rattle.exec_plan.specs.Graph.{GraphData, is_server}
use Rattle.exec_msg.specs.Timer.{is_due}
use Rattle.exec_msg.specs.declared.kind.Kind.TheVariants as kind
use Rattle.exec_laws.proofs.AtWork.{AtWork}
use Rattle.exec_rules.proofs.Identifiers.{Distinct, HasDistinct}
use Rattle.exec_rules.proofs.Pairs.{Pairs, all_append, all_both, all_filter, all_flat, all_flat_where, all_mapped, all_passed, all_weaker, pairs_all, pairs_append, pairs_filter, pairs_map, pairs_unmapped, all_unmapped}
use Rattle.exec_rules.proofs.ReadyLists.{IsOf, poll_of, all_placed, all_listed}
use Rattle.exec_rules.proofs.Sorting.{pairs_sorted}
use Rattle.exec_rules.proofs.Wiring.{NumbersApart, IsWired, numbers_apart}
use Rattle.exec_laws.specs.Goals.{may_be_polled}
use Rattle.exec_rules.specs.Ready.{all_ready, due_ready, is_goal_awake, item_ready, placed_from, poll_ready, queue_ready, rank_under, ready_list}
use Rattle.exec_rules.specs.Sorting.{sorted_by}
use Rattle.exec_rules.specs.World.{WorldState, Queue, TimerEntry, ServerEntry, goals_at, goals_in, records_of, HeldGoal}
use Rattle.exec_rules.specs.declared.item.Item.{Item}
use Rattle.exec_rules.specs.declared.ready.Cause.TheVariants as cause
use Rattle.exec_rules.specs.declared.ready.Ready.{Ready}
use Rattle.exec_rules.proofs.Records.{ids}

-- ---- what polls

abbrev NoPoll : Ready → Type 0
NoPoll one = (id : GoalId) (value : ℤ) (canceling : Bool) → one.cause ≡ cause.Woke id value canceling → ⊥

-- no two callbacks poll one goal
abbrev pub PollApart : Ready → Ready → Type 0
PollApart one other =
    (id : GoalId) (value : ℤ) (canceling : Bool) (goal : GoalId) (sent : ℤ) (asked : Bool) → one.cause ≡ cause.Woke id value canceling → other.cause ≡ cause.Woke goal sent asked → one.entity ≡ other.entity → id == goal ≡ false

none_due : (moment : Moment) (entry : TimerEntry) → AllByRecursion NoPoll (due_ready moment entry)
none_due moment entry = by (is_due entry.timer moment) refl
  where
    by : (b : Bool) → is_due entry.timer moment ≡ b → AllByRecursion NoPoll (due_ready moment entry)
    by true e = rw e ((λ id value canceling same. absurd cc), tt)
    by false e = rw e tt

none_taken : (moment : Moment) (world : WorldState) (queue : Queue) → AllByRecursion NoPoll (queue_ready moment world queue)
none_taken moment world queue = by queue.items
  where
    by : (items : List Item) → AllByRecursion NoPoll (item_ready moment queue.handler (goals_at queue.handler.entity world) items)
    by [] = tt
    by (first ∷ items) = ((λ id value canceling same. absurd cc), tt)

-- what polls nothing is apart from all
apart_before : (some more : List Ready) → AllByRecursion NoPoll some → AllByRecursion (λ one. AllByRecursion (PollApart one) more) some
apart_before some more p = all_weaker NoPoll (λ one. AllByRecursion (PollApart one) more) (λ one none. each one none more) some p
  where
    each : (one : Ready) → NoPoll one → (all : List Ready) → AllByRecursion (PollApart one) all
    each one none [] = tt
    each one none (other ∷ all) = ((λ id value canceling goal sent asked same also at. absurd (none id value canceling same)), each one none all)

-- one is as far apart from the other as the other from it
turned : (one other : Ready) → PollApart one other → PollApart other one
turned one other apart id value canceling goal sent asked same also at = by (id == goal) refl
  where
    by : (b : Bool) → id == goal ≡ b → id == goal ≡ false
    by true e = absurd (true≢false (sym (eq-eqb goal id (sym (eqb-true id goal e))) ∙ apart goal sent asked id value canceling also same (sym at)))
    by false e = e

apart_all : (some : List Ready) → AllByRecursion NoPoll some → Pairs PollApart some
apart_all some p = pairs_all NoPoll PollApart (λ one other none also id value canceling goal sent asked same. absurd (none id value canceling same)) some p

-- ---- the goals of an entry

-- the goals of each server's entry are the server's, where no two entries have one number
goals_here : (servers : List ServerEntry) → Pairs (λ one other. NumbersApart one.handler.entity other.handler.entity) servers → AllByRecursion (λ entry. goals_in entry.handler.entity servers ≡ records_of entry.held) servers
goals_here [] apart = tt
goals_here (entry ∷ servers) apart = (
  rw (eq-eqb entry.handler.entity entry.handler.entity refl) refl,
  all_both (λ other. NumbersApart entry.handler.entity other.handler.entity) (λ other. goals_in other.handler.entity servers ≡ records_of other.held) (λ other. goals_in other.handler.entity (entry ∷ servers) ≡ records_of other.held)
      (λ other differs here. passed other differs here (entry.handler.entity == other.handler.entity) refl) servers apart.0 (goals_here servers apart.1),
)
  where
    passed : (other : ServerEntry) → NumbersApart entry.handler.entity other.handler.entity → goals_in other.handler.entity servers ≡ records_of other.held → (b : Bool) → entry.handler.entity == other.handler.entity ≡ b → goals_in other.handler.entity (entry ∷ servers) ≡ records_of other.held
    passed other differs here true e = absurd (differs (sym (eqb-true entry.handler.entity other.handler.entity e)))
    passed other differs here false e = rw e here

-- goals whose identifiers are others
of_others : (id : GoalId) (goals : List GoalRecord) → AllByRecursion (λ other. id == other ≡ false) (ids goals) → AllByRecursion (λ goal. id == goal.id ≡ false) goals
of_others id [] p = tt
of_others id (goal ∷ goals) p = (p.0, of_others id goals p.1)

-- among goals of different identifiers each is the one of its identifier
each_found : (goals : List GoalRecord) → Distinct (ids goals) → AllByRecursion (λ goal. state_in goal.id goals ≡ Some goal.state) goals
unfolding IsDistinct
each_found [] distinct = tt
each_found (goal ∷ goals) distinct = (
  rw (eq-eqb goal.id goal.id refl) refl,
  all_both (λ other. goal.id == other.id ≡ false) (λ other. state_in other.id goals ≡ Some other.state) (λ other. state_in other.id (goal ∷ goals) ≡ Some other.state)
      (λ other differs here. rw differs here) goals (of_others goal.id goals distinct.0) (each_found goals distinct.1),
)

goals_apart : (goals : List GoalRecord) → Distinct (ids goals) → Pairs (λ one other. one.id == other.id ≡ false) goals
unfolding IsDistinct
goals_apart [] distinct = tt
goals_apart (goal ∷ goals) distinct = (of_others goal.id goals distinct.0, goals_apart goals distinct.1)

-- a goal that the server works on is polled as its state says
polled_so : (at : State) → is_worked_on at ≡ true → may_be_polled (is_canceling at) (Some at) ≡ true
polled_so state.Accepted e = absurd cc
polled_so state.Executing e = refl
polled_so state.Canceling e = refl
polled_so state.Succeeded e = absurd cc
polled_so state.Canceled e = absurd cc
polled_so state.Aborted e = absurd cc

-- ---- polls

module _ (graph : GraphData) (moment : Moment) (world : WorldState) (wires : IsWired graph world) (distinct : HasDistinct world) where
  servers_apart : Pairs (λ one other. NumbersApart one.handler.entity other.handler.entity) world.servers
  servers_apart =
      pairs_unmapped NumbersApart (λ (entry : ServerEntry). entry.handler.entity) world.servers
      (subst (λ (numbers : List EntityNo). Pairs NumbersApart numbers) (sym wires.listed) (numbers_apart is_server 0 graph.entities))

  -- an entry's goals are its server's, and no two have one identifier
  record IsOwn (entry : ServerEntry) : Type 0 where
    own : goals_at entry.handler.entity world ≡ records_of entry.held
    apart : Distinct (ids (records_of entry.held))

  all_own : AllByRecursion IsOwn world.servers
  all_own =
      all_weaker (λ entry. goals_in entry.handler.entity world.servers ≡ records_of entry.held) IsOwn
      (λ entry here. record { own = here; apart = subst (λ (goals : List GoalRecord). Distinct (ids goals)) here (distinct entry.handler.entity) })
      world.servers (goals_here world.servers servers_apart)

  -- a callback polls, if it does, a goal that may be polled so
  abbrev pub PollsAtWork : Ready → Type 0
  PollsAtWork one = (id : GoalId) (value : ℤ) (canceling : Bool) → one.cause ≡ cause.Woke id value canceling → AtWork canceling id (goals_at one.entity world)

  idle_at_work : (all : List Ready) → AllByRecursion NoPoll all → AllByRecursion PollsAtWork all
  idle_at_work all p = all_weaker NoPoll PollsAtWork (λ one none id value canceling same. absurd (none id value canceling same)) all p

  entry_at_work : (entry : ServerEntry) → IsOwn entry → AllByRecursion PollsAtWork (poll_ready moment entry)
  entry_at_work entry own =
      all_mapped (λ held. (state_in held.goal.id (records_of entry.held) ≡ Some held.goal.state) × (is_goal_awake moment held ≡ true)) PollsAtWork _
      (λ held is id value canceling same. polled held.goal is.0 (and_parts (is_worked_on held.goal.state) _ is.1).0 id value canceling same)
      (filter (is_goal_awake moment) entry.held)
      (all_both (λ held. state_in held.goal.id (records_of entry.held) ≡ Some held.goal.state) (λ held. is_goal_awake moment held ≡ true) _ (λ held found awake. (found, awake))
      (filter (is_goal_awake moment) entry.held)
      (all_filter (λ held. state_in held.goal.id (records_of entry.held) ≡ Some held.goal.state) (is_goal_awake moment) entry.held
      (all_unmapped (λ goal. state_in goal.id (records_of entry.held) ≡ Some goal.state) (λ (held : HeldGoal). held.goal) entry.held (each_found (records_of entry.held) own.apart)))
      (all_passed (is_goal_awake moment) entry.held))
    where
      polled : (goal : GoalRecord) → state_in goal.id (records_of entry.held) ≡ Some goal.state → is_worked_on goal.state ≡ true → (id : GoalId) (value : ℤ) (canceling : Bool) → cause.Woke goal.id goal.value (is_canceling goal.state) ≡ cause.Woke id value canceling → AtWork canceling id (goals_at entry.handler.entity world)
      polled goal found works id value canceling same =
          let named : goal.id ≡ id = cc in
          let asked : is_canceling goal.state ≡ canceling = cc in
          subst (λ (b : Bool). AtWork b id (goals_at entry.handler.entity world)) asked
          (subst (λ (n : GoalId). AtWork (is_canceling goal.state) n (goals_at entry.handler.entity world)) named
          (subst (λ (goals : List GoalRecord). AtWork (is_canceling goal.state) goal.id goals) (sym own.own)
          (ap (λ held. may_be_polled (is_canceling goal.state) held) found ∙ polled_so goal.state works)))

  entry_apart : (entry : ServerEntry) → IsOwn entry → Pairs PollApart (poll_ready moment entry)
  entry_apart entry own =
      pairs_map (λ one other. one.goal.id == other.goal.id ≡ false) PollApart _
      (λ one other differs id value canceling goal sent asked same also at.
      let here : one.goal.id ≡ id = cc in
      let there : other.goal.id ≡ goal = cc in
      subst (λ (n : GoalId). n == goal ≡ false) here (subst (λ (n : GoalId). one.goal.id == n ≡ false) there differs))
      (filter (is_goal_awake moment) entry.held)
      (pairs_filter (λ one other. one.goal.id == other.goal.id ≡ false) (is_goal_awake moment) entry.held
      (pairs_unmapped (λ one other. one.id == other.id ≡ false) (λ (held : HeldGoal). held.goal) entry.held (goals_apart (records_of entry.held) own.apart)))

  -- polls of two servers
  entries_apart : (one other : ServerEntry) → NumbersApart one.handler.entity other.handler.entity → AllByRecursion (λ x. AllByRecursion (PollApart x) (poll_ready moment other)) (poll_ready moment one)
  entries_apart one other differs =
      all_weaker (IsOf one.handler.entity kind.Poll) (λ x. AllByRecursion (PollApart x) (poll_ready moment other))
      (λ x is. all_weaker (IsOf other.handler.entity kind.Poll) (PollApart x) (λ y also id value canceling goal sent asked same too at. absurd (differs (sym also.1 ∙ sym at ∙ is.1))) (poll_ready moment other) (poll_of moment other))
      (poll_ready moment one) (poll_of moment one)

  polls_apart : (servers : List ServerEntry) → AllByRecursion IsOwn servers → Pairs (λ one other. NumbersApart one.handler.entity other.handler.entity) servers → Pairs PollApart (flat_map (poll_ready moment) servers)
  polls_apart [] own apart = tt
  polls_apart (entry ∷ servers) own apart =
      pairs_append PollApart (poll_ready moment entry) (flat_map (poll_ready moment) servers) (entry_apart entry own.0) (polls_apart servers own.1 apart.1) (across servers apart.0)
    where
      across : (others : List ServerEntry) → AllByRecursion (λ other. NumbersApart entry.handler.entity other.handler.entity) others → AllByRecursion (λ x. AllByRecursion (PollApart x) (flat_map (poll_ready moment) others)) (poll_ready moment entry)
      across [] differ = none (poll_ready moment entry)
        where
          none : (all : List Ready) → AllByRecursion (λ x. AllByRecursion (PollApart x) []) all
          none [] = tt
          none (one ∷ all) = (tt, none all)
      across (other ∷ others) differ =
          all_both (λ x. AllByRecursion (PollApart x) (poll_ready moment other)) (λ x. AllByRecursion (PollApart x) (flat_map (poll_ready moment) others)) _
          (λ x p q. all_append (PollApart x) (poll_ready moment other) (flat_map (poll_ready moment) others) p q)
          (poll_ready moment entry) (entries_apart entry other differ.0) (across others differ.1)

  -- ---- the whole list

  pairs_placed : (position : ℕ) (list : List Ready) → Pairs PollApart list → Pairs PollApart (placed_from position list)
  pairs_placed position [] p = tt
  pairs_placed position (one ∷ list) p = (all_placed (PollApart one) (λ place other q. q) (suc position) list p.0, pairs_placed (suc position) list p.1)

  pub list_polls_apart : Pairs PollApart (ready_list moment world)
  list_polls_apart =
      let timers : List Ready = flat_map (due_ready moment) world.timers in
      let took : List Ready = flat_map (queue_ready moment world) world.queues in
      let polls : List Ready = flat_map (poll_ready moment) world.servers in
      let no_timers : AllByRecursion NoPoll timers = all_flat NoPoll (due_ready moment) (none_due moment) world.timers in
      let none_took : AllByRecursion NoPoll took = all_flat NoPoll (queue_ready moment world) (none_taken moment world) world.queues in
      let none_first : AllByRecursion NoPoll (timers ++ took) = all_append NoPoll timers took no_timers none_took in
      pairs_placed 1 (sorted_by (rank_under world.order world) (all_ready moment world))
      (pairs_sorted PollApart (rank_under world.order world) (all_ready moment world) turned
      (pairs_append PollApart (timers ++ took) polls (apart_all (timers ++ took) none_first) (polls_apart world.servers all_own servers_apart) (apart_before (timers ++ took) polls none_first)))

  pub list_at_work : AllByRecursion PollsAtWork (ready_list moment world)
  list_at_work =
      all_listed PollsAtWork (λ place one q. q) moment world
      (idle_at_work (flat_map (due_ready moment) world.timers) (all_flat NoPoll (due_ready moment) (none_due moment) world.timers))
      (idle_at_work (flat_map (queue_ready moment world) world.queues) (all_flat NoPoll (queue_ready moment world) (none_taken moment world) world.queues))
      (all_flat_where IsOwn PollsAtWork (poll_ready moment) entry_at_work world.servers all_own)
