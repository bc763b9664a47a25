-- In a lawful graph's plans an action client is told once for each ask: nothing goes astray, and what is on its way stands in its
-- own queue and at its server.
use Rattle.std.proofs.Common.{◌≡◌, ℕ, suc, ◌+◌, Bool, true, false, ◌&&◌, ◌==◌, if◌then◌else◌, List, [], ◌∷◌, map, Option, None, Some, slice_get, refl, sym, ap, subst, ◌∙◌, true≢false, arith}
use Rattle.std.specs.List.{AllByRecursion, IsDistinct, filter, find, flat_map, list_any}
use Rattle.std.specs.Option.{option_map_or}
use Rattle.std.proofs.lemmas.Bool.{eqb-true, eq-eqb, and_parts, or_parts}
use Rattle.std.proofs.lemmas.List.Elements.{recursion_from_All}
use Rattle.std.proofs.lemmas.Option.{get_or_from_slice_get}
use Rattle.exec_goal.specs.State.{is_terminal}
use Rattle.exec_goal.specs.Table.{GoalRecord}
use Rattle.exec_msg.specs.Numbers.{EntityNo, GoalId}
use Rattle.exec_plan.specs.Entity.{Resolved, refers}
use Rattle.exec_plan.specs.Graph.{EntityData, declared_at, entities_where, has_kind, in_group, is_action_client, is_server, wait_set}
use Rattle.exec_plan.specs.Lawful.{IsLawful, IsLawfulDeclared, is_at, is_declared}
use Rattle.exec_plan.specs.Plan.{PlanData}
use Rattle.exec_plan.specs.declared.entity.Declared.{Declared}
use Rattle.exec_plan.specs.declared.entity.Declared.TheVariants as declared
use Rattle.exec_plan.specs.declared.entity.EntityOf.TheVariants.{Timer, Subscription, Service, Client, Server, ActionClient}
use Rattle.exec_msg.specs.Kind.{ready_number}
use Rattle.exec_msg.specs.declared.kind.Kind.{Kind}
use Rattle.exec_msg.specs.declared.kind.Kind.TheVariants as kind
use Rattle.exec_msg.specs.declared.line.Line.{Line}
use Rattle.exec_laws.proofs.Addresses.{Holds, action_client_knows, all_found}
use Rattle.exec_laws.proofs.Asked.{many}
use Rattle.exec_laws.proofs.Called.{among, among_append}
use Rattle.exec_laws.proofs.Channels.{weigh, weighs_nothing}
use Rattle.exec_laws.proofs.Depths.{deep_first, stands}
use Rattle.exec_laws.proofs.Displaced.{none_displaced}
use Rattle.exec_laws.proofs.Flying.{flying, in_items}
use Rattle.exec_laws.proofs.Noted.{noted_by, notes}
use Rattle.exec_laws.proofs.Owned.{AreItsClients, IsAtItsServer, IsItsServer, NotesItsClients, all_owned}
use Rattle.exec_laws.proofs.Standing.{queue_stands}
use Rattle.exec_laws.proofs.Accounts.{Accounts, HasQueues, of_ask, of_result}
use Rattle.exec_laws.proofs.Told.{all_fair}
use Rattle.exec_rules.proofs.Identifiers.{Distinct, distinct_ids}
use Rattle.exec_rules.proofs.OfKinds.{AreOfTheirKinds, IsOfItsKind, kinds_first, kinds_kept, same_kind}
use Rattle.exec_rules.proofs.Pairs.{Pairs, all_unmapped, all_weaker}
use Rattle.exec_rules.proofs.Running.{found_test, rounds_keep}
use Rattle.exec_rules.proofs.Wiring.{NumbersApart, QueuesApart, numbers_apart, wired}
use Rattle.exec_laws.specs.Exchanges.{IsToldOnce, ask_in, is_asked, is_result_taken, items_of, result_in, times, waiting_for, waiting_in}
use Rattle.exec_rules.specs.Item.{taker_of}
use Rattle.exec_rules.specs.Lines.{is_loss}
use Rattle.exec_rules.specs.Shape.{action_client_shape, shape_of}
use Rattle.exec_rules.specs.Transcript.{entity_at, as_entity, first_world, last_world, new_action_clients, server_of, takes_from_queue}
use Rattle.exec_rules.specs.World.{WorldState, Queue, ServerEntry, ActionClientEntry, action_client_at, goals_in, goals_at, is_action_client_at, is_queue, is_server_at, records_of}
use Rattle.exec_rules.specs.declared.item.Item.{Item}
use Rattle.exec_rules.specs.declared.item.Item.TheVariants as item
use Rattle.exec_rules.proofs.Records.{ids}

-- ---- counts

times_among : (n : ℕ) (all : List ℕ) → times n all ≡ among n all
times_among n [] = refl
times_among n (one ∷ all) = by (one == n) refl (times_among n all)
  where
    by : (b : Bool) → one == n ≡ b → times n all ≡ among n all → times n (one ∷ all) ≡ among n (one ∷ all)
    by true e rest = rw e (omega (arith, rest))
    by false e rest = rw e (omega (arith, rest))

none_many : (test : Line → Bool) (lines : List Line) → list_any test lines ≡ false → many test lines ≡ 0
none_many test [] e = refl
none_many test (one ∷ lines) e = let parts = or_parts (test one) (list_any test lines) e in rw parts.0 (none_many test lines parts.1)

-- what a queue holds that isn't the only one of a kind weighs nothing
module _ (weight : EntityNo → Item → ℕ) (entity : EntityNo) (of : Kind) where
  abbrev weighs : Queue → ℕ
  weighs queue = in_items weight queue.handler.entity queue.items

  abbrev WeighsThere : Queue → Type 0
  WeighsThere queue = is_queue entity of queue ≡ false → weighs queue ≡ 0

  apart : (one other : Queue) → QueuesApart one other → is_queue entity of one ≡ true → is_queue entity of other ≡ false
  apart one other differ is = by (is_queue entity of other) refl
    where
      its : (queue : Queue) → is_queue entity of queue ≡ true → (queue.handler.entity ≡ entity) × (queue.kind ≡ of)
      its queue e =
          let parts = and_parts (queue.handler.entity == entity) (ready_number queue.kind == ready_number of) e in
          (eqb-true queue.handler.entity entity parts.0, same_kind queue.kind of (eqb-true (ready_number queue.kind) (ready_number of) parts.1))

      by : (b : Bool) → is_queue entity of other ≡ b → is_queue entity of other ≡ false
      by true e = absurd (differ ((its other e).1 ∙ sym (its one is).1) ((its other e).0 ∙ sym (its one is).0))
      by false e = e

  flying_none : (one : Queue) → is_queue entity of one ≡ true → (queues : List Queue) → AllByRecursion (QueuesApart one) queues → AllByRecursion WeighsThere queues → flying weight queues ≡ 0
  flying_none one is [] p w = refl
  flying_none one is (queue ∷ queues) p w =
      let first = w.0 (apart one queue p.0 is) in
      let rest = flying_none one is queues p.1 w.1 in
      omega (arith, first, rest)

  flying_one : (queues : List Queue) → Pairs QueuesApart queues → AllByRecursion WeighsThere queues → flying weight queues ≡ option_map_or weighs (find (is_queue entity of) queues) 0
  flying_one [] p w = refl
  flying_one (queue ∷ queues) p w = by (is_queue entity of queue) refl (flying_one queues p.1 w.1)
    where
      by : (b : Bool) → is_queue entity of queue ≡ b → flying weight queues ≡ option_map_or weighs (find (is_queue entity of) queues) 0 → flying weight (queue ∷ queues) ≡ option_map_or weighs (find (is_queue entity of) (queue ∷ queues)) 0
      by true e rest = let none = flying_none queue e queues p.0 w.1 in rw e (omega (arith, none))
      by false e rest = let none = w.0 e in rw e (omega (arith, none, rest))

-- two weights
flying_both : (one other : EntityNo → Item → ℕ) (queues : List Queue) → flying (λ entity taken. one entity taken + other entity taken) queues ≡ flying one queues + flying other queues
flying_both one other [] = refl
flying_both one other (queue ∷ queues) = let first = by queue.items in let rest = flying_both one other queues in omega (arith, first, rest)
  where
    by : (items : List Item) → in_items (λ entity taken. one entity taken + other entity taken) queue.handler.entity items ≡ in_items one queue.handler.entity items + in_items other queue.handler.entity items
    by [] = refl
    by (first ∷ items) = let rest = by items in omega (arith, rest)

-- ---- what is on its way

module _ (plan : PlanData) (client : EntityNo) (id : GoalId) where
  abbrev server : EntityNo
  server = server_of (entity_at plan.graph client).is

  -- results for the client stand in its queue for results
  no_result : (entity : EntityNo) (one : Item) (of : Kind) → taker_of one ≡ of → (entity == client) && (ready_number of == ready_number kind.Result) ≡ false → of_result plan client id entity one ≡ 0
  no_result entity (item.Message value) of e f = refl
  no_result entity (item.Request from number value) of e f = refl
  no_result entity (item.Reply number value) of e f = refl
  no_result entity (item.Goal goal from value) of e f = refl
  no_result entity (item.Cancel request from) of e f = refl
  no_result entity (item.Ask goal from) of e f = refl
  no_result entity (item.Response goal accepted) of e f = refl
  no_result entity (item.Code returned count) of e f = refl
  no_result entity (item.Feedback goal value) of e f = refl
  no_result entity (item.Result goal status value) of e f = by (entity == client) refl
    where
      other : (entity == client) && true ≡ false
      other = ap (λ (k : Kind). (entity == client) && (ready_number k == ready_number kind.Result)) e ∙ f

      by : (b : Bool) → entity == client ≡ b → weigh ((entity == client) && (goal == id)) 1 ≡ 0
      by true g = absurd (true≢false (sym (ap (λ (b : Bool). b && true) g) ∙ other))
      by false g = rw g refl

  no_results : (entity : EntityNo) (of : Kind) (items : List Item) → AllByRecursion (λ one. taker_of one ≡ of) items → (entity == client) && (ready_number of == ready_number kind.Result) ≡ false → in_items (of_result plan client id) entity items ≡ 0
  no_results entity of [] p e = refl
  no_results entity of (one ∷ items) p e = let first = no_result entity one of p.0 e in let rest = no_results entity of items p.1 e in omega (arith, first, rest)

  results_there : (queues : List Queue) → AllByRecursion IsOfItsKind queues → AllByRecursion (WeighsThere (of_result plan client id) client kind.Result) queues
  results_there queues p = all_weaker IsOfItsKind (WeighsThere (of_result plan client id) client kind.Result) (λ queue its e. no_results queue.handler.entity queue.kind queue.items (recursion_from_All (λ one. taker_of one ≡ queue.kind) queue.items its) e) queues p

  result_counts : (one : Item) → of_result plan client id client one ≡ among id (result_in one)
  result_counts (item.Message value) = refl
  result_counts (item.Request from number value) = refl
  result_counts (item.Reply number value) = refl
  result_counts (item.Goal goal from value) = refl
  result_counts (item.Cancel request from) = refl
  result_counts (item.Ask goal from) = refl
  result_counts (item.Response goal accepted) = refl
  result_counts (item.Code returned count) = refl
  result_counts (item.Feedback goal value) = refl
  result_counts (item.Result goal status value) = rw (eq-eqb client client refl) (omega arith)

  results_count : (items : List Item) → in_items (of_result plan client id) client items ≡ among id (flat_map result_in items)
  results_count [] = refl
  results_count (one ∷ items) =
      let first = result_counts one in
      let all = among_append id (result_in one) (flat_map result_in items) in
      let rest = results_count items in
      omega (arith, first, all, rest)

  results_held : (world : WorldState) → Pairs QueuesApart world.queues → AreOfTheirKinds world → flying (of_result plan client id) world.queues ≡ among id (flat_map result_in (items_of client kind.Result world))
  results_held world apart kinds = flying_one (of_result plan client id) client kind.Result world.queues apart (results_there world.queues kinds) ∙ by (find (is_queue client kind.Result) world.queues) refl
    where
      by : (found : Option Queue) → find (is_queue client kind.Result) world.queues ≡ found → option_map_or (weighs (of_result plan client id) client kind.Result) found 0 ≡ among id (flat_map result_in (option_map_or (λ (queue : Queue). queue.items) found []))
      by None e = refl
      by (Some queue) e =
          let here = eqb-true queue.handler.entity client (and_parts (queue.handler.entity == client) (ready_number queue.kind == ready_number kind.Result) (found_test (is_queue client kind.Result) world.queues queue e)).0 in
          ap (λ (n : EntityNo). in_items (of_result plan client id) n queue.items) here ∙ results_count queue.items

  -- its asks stand in its server's queue for asks
  no_ask : (entity : EntityNo) (one : Item) (of : Kind) → taker_of one ≡ of → IsAtItsServer plan entity one → (entity == server) && (ready_number of == ready_number kind.Ask) ≡ false → of_ask plan client id entity one ≡ 0
  no_ask entity (item.Message value) of e its f = refl
  no_ask entity (item.Request from number value) of e its f = refl
  no_ask entity (item.Reply number value) of e its f = refl
  no_ask entity (item.Goal goal from value) of e its f = refl
  no_ask entity (item.Cancel request from) of e its f = refl
  no_ask entity (item.Ask goal from) of e its f = by (from == client) refl
    where
      other : (entity == server) && true ≡ false
      other = ap (λ (k : Kind). (entity == server) && (ready_number k == ready_number kind.Ask)) e ∙ f

      by : (b : Bool) → from == client ≡ b → weigh ((from == client) && (goal == id)) 1 ≡ 0
      by true g =
          let there : server ≡ entity = ap (λ (n : EntityNo). server_of (entity_at plan.graph n).is) (sym (eqb-true from client g)) ∙ its in
          absurd (true≢false (sym (ap (λ (b : Bool). b && true) (eq-eqb entity server (sym there))) ∙ other))
      by false g = rw g refl
  no_ask entity (item.Response goal accepted) of e its f = refl
  no_ask entity (item.Code returned count) of e its f = refl
  no_ask entity (item.Feedback goal value) of e its f = refl
  no_ask entity (item.Result goal status value) of e its f = refl

  no_asks : (entity : EntityNo) (of : Kind) (items : List Item) → AllByRecursion (λ one. taker_of one ≡ of) items → AllByRecursion (IsAtItsServer plan entity) items → (entity == server) && (ready_number of == ready_number kind.Ask) ≡ false → in_items (of_ask plan client id) entity items ≡ 0
  no_asks entity of [] p q e = refl
  no_asks entity of (one ∷ items) p q e = let first = no_ask entity one of p.0 q.0 e in let rest = no_asks entity of items p.1 q.1 e in omega (arith, first, rest)

  asks_there : (queues : List Queue) → AllByRecursion IsOfItsKind queues → AllByRecursion (Holds (IsAtItsServer plan)) queues → AllByRecursion (WeighsThere (of_ask plan client id) server kind.Ask) queues
  asks_there [] p q = tt
  asks_there (queue ∷ queues) p q = ((λ e. no_asks queue.handler.entity queue.kind queue.items (recursion_from_All (λ one. taker_of one ≡ queue.kind) queue.items p.0) q.0 e), asks_there queues p.1 q.1)

  ask_counts : (entity : EntityNo) (one : Item) → of_ask plan client id entity one ≡ among id (ask_in client one)
  ask_counts entity (item.Message value) = refl
  ask_counts entity (item.Request from number value) = refl
  ask_counts entity (item.Reply number value) = refl
  ask_counts entity (item.Goal goal from value) = refl
  ask_counts entity (item.Cancel request from) = refl
  ask_counts entity (item.Ask goal from) = by (from == client)
    where
      by : (b : Bool) → weigh (b && (goal == id)) 1 ≡ among id (if b then goal ∷ [] else [])
      by true = omega arith
      by false = refl
  ask_counts entity (item.Response goal accepted) = refl
  ask_counts entity (item.Code returned count) = refl
  ask_counts entity (item.Feedback goal value) = refl
  ask_counts entity (item.Result goal status value) = refl

  asks_count : (entity : EntityNo) (items : List Item) → in_items (of_ask plan client id) entity items ≡ among id (flat_map (ask_in client) items)
  asks_count entity [] = refl
  asks_count entity (one ∷ items) =
      let first = ask_counts entity one in
      let all = among_append id (ask_in client one) (flat_map (ask_in client) items) in
      let rest = asks_count entity items in
      omega (arith, first, all, rest)

  asks_held : (world : WorldState) → Pairs QueuesApart world.queues → AreOfTheirKinds world → AllByRecursion (Holds (IsAtItsServer plan)) world.queues → flying (of_ask plan client id) world.queues ≡ among id (flat_map (ask_in client) (items_of server kind.Ask world))
  asks_held world apart kinds own = flying_one (of_ask plan client id) server kind.Ask world.queues apart (asks_there world.queues kinds own) ∙ by (find (is_queue server kind.Ask) world.queues)
    where
      by : (found : Option Queue) → option_map_or (weighs (of_ask plan client id) server kind.Ask) found 0 ≡ among id (flat_map (ask_in client) (option_map_or (λ (queue : Queue). queue.items) found []))
      by None = refl
      by (Some queue) = asks_count queue.handler.entity queue.items

  -- ---- who waits

  -- for a goal of another identifier, or at another server, the client isn't noted
  notes_none : (goals : List GoalRecord) (other : GoalId) → other ≡ id → AllByRecursion (λ one. other == one ≡ false) (ids goals) → notes client id goals ≡ 0
  notes_none [] other same p = refl
  notes_none (goal ∷ goals) other same p =
      let rest = notes_none goals other same p.1 in
      let first : weigh (goal.id == id) (among client (waiting_for (Some goal))) ≡ 0 = by (goal.id == id) refl in
      omega (arith, first, rest)
    where
      by : (b : Bool) → goal.id == id ≡ b → weigh (goal.id == id) (among client (waiting_for (Some goal))) ≡ 0
      by true e = absurd (true≢false (sym (eq-eqb other goal.id (same ∙ sym (eqb-true goal.id id e))) ∙ p.0))
      by false e = rw e refl

  notes_here : (goals : List GoalRecord) → Distinct (ids goals) → notes client id goals ≡ among client (waiting_in id goals)
  unfolding IsDistinct
  notes_here [] p = refl
  notes_here (goal ∷ goals) p = by (goal.id == id) refl (notes_here goals p.1)
    where
      by : (b : Bool) → goal.id == id ≡ b → notes client id goals ≡ among client (waiting_in id goals) → notes client id (goal ∷ goals) ≡ among client (waiting_in id (goal ∷ goals))
      by true e rest = let none = notes_none goals goal.id (eqb-true goal.id id e) p.0 in rw e (omega (arith, none))
      by false e rest = rw e (omega (arith, rest))

  unnoted : (at : EntityNo) → (at ≡ server → ⊥) → (goals : List GoalRecord) → AllByRecursion (AreItsClients plan at) goals → notes client id goals ≡ 0
  unnoted at differs [] p = refl
  unnoted at differs (goal ∷ goals) p =
      let rest = unnoted at differs goals p.1 in
      let first : weigh (goal.id == id) (among client (waiting_for (Some goal))) ≡ 0 = ap (λ (n : ℕ). weigh (goal.id == id) n) (waits (is_terminal goal.state) refl) ∙ weighs_nothing (goal.id == id) in
      omega (arith, first, rest)
    where
      others : (askers : List EntityNo) → AllByRecursion (IsItsServer plan at) askers → among client askers ≡ 0
      others [] q = refl
      others (asker ∷ askers) q = by (asker == client) refl (others askers q.1)
        where
          by : (b : Bool) → asker == client ≡ b → among client askers ≡ 0 → among client (asker ∷ askers) ≡ 0
          by true e more = absurd (differs (sym (ap (λ (n : EntityNo). server_of (entity_at plan.graph n).is) (sym (eqb-true asker client e)) ∙ q.0)))
          by false e more = rw e (omega (arith, more))

      waits : (b : Bool) → is_terminal goal.state ≡ b → among client (waiting_for (Some goal)) ≡ 0
      waits true e = rw e refl
      waits false e = rw e (others goal.askers p.0)

  noted_none : (servers : List ServerEntry) → AllByRecursion (λ n. n ≡ server → ⊥) (map (λ entry. entry.handler.entity) servers) → AllByRecursion (NotesItsClients plan) servers → noted_by client id servers ≡ 0
  noted_none [] p q = refl
  noted_none (entry ∷ servers) p q =
      let first = unnoted entry.handler.entity p.0 (records_of entry.held) q.0 in
      let rest = noted_none servers p.1 q.1 in
      omega (arith, first, rest)

  noted_here : (servers : List ServerEntry) → Pairs NumbersApart (map (λ entry. entry.handler.entity) servers) → AllByRecursion (NotesItsClients plan) servers → Distinct (ids (goals_in server servers)) → noted_by client id servers ≡ among client (waiting_in id (goals_in server servers))
  noted_here [] p q d = refl
  noted_here (entry ∷ servers) p q d = by (is_server_at server entry) refl (noted_here servers p.1 q.1)
    where
      by : (b : Bool) → is_server_at server entry ≡ b → (Distinct (ids (goals_in server servers)) → noted_by client id servers ≡ among client (waiting_in id (goals_in server servers))) → noted_by client id (entry ∷ servers) ≡ among client (waiting_in id (goals_in server (entry ∷ servers)))
      by true e rest =
          let at : entry.handler.entity ≡ server = eqb-true entry.handler.entity server e in
          let here : Distinct (ids (records_of entry.held)) = rw e at d in
          let first = notes_here (records_of entry.held) here in
          let none = noted_none servers (all_weaker (NumbersApart entry.handler.entity) (λ n. n ≡ server → ⊥) (λ n differ is. differ (is ∙ sym at)) _ p.0) q.1 in
          rw e (omega (arith, first, none))
      by false e rest =
          let behind : Distinct (ids (goals_in server servers)) = rw e at d in
          let more = rest behind in
          let differs : entry.handler.entity ≡ server → ⊥ = λ is. true≢false (sym (eq-eqb entry.handler.entity server is) ∙ e) in
          let none = unnoted entry.handler.entity differs (records_of entry.held) q.0 in
          rw e (omega (arith, more, none))

-- ---- what stands in a lawful graph

takes_results : (what : Declared) → is_action_client what ≡ true → has_kind kind.Result what ≡ true
takes_results declared.Topic e = absurd (true≢false (sym e))
takes_results (declared.Entity entity) e = by entity.group entity.is e
  where
    by : (group : ℕ) (is : Resolved) → is_action_client (in_group group is) ≡ true → has_kind kind.Result (in_group group is) ≡ true
    by group (Timer what) f = absurd (true≢false (sym f))
    by group (Subscription what) f = absurd (true≢false (sym f))
    by group (Service what) f = absurd (true≢false (sym f))
    by group (Client what) f = absurd (true≢false (sym f))
    by group (Server what) f = absurd (true≢false (sym f))
    by group (ActionClient what) f = refl

takes_asks : (what : Declared) → is_server what ≡ true → has_kind kind.Ask what ≡ true
takes_asks declared.Topic e = absurd (true≢false (sym e))
takes_asks (declared.Entity entity) e = by entity.group entity.is e
  where
    by : (group : ℕ) (is : Resolved) → is_server (in_group group is) ≡ true → has_kind kind.Ask (in_group group is) ≡ true
    by group (Timer what) f = absurd (true≢false (sym f))
    by group (Subscription what) f = absurd (true≢false (sym f))
    by group (Service what) f = absurd (true≢false (sym f))
    by group (Client what) f = absurd (true≢false (sym f))
    by group (Server what) f = refl
    by group (ActionClient what) f = absurd (true≢false (sym f))

module _ (plan : PlanData) (lawful : IsLawful plan.graph) where
  at_number : (test : Declared → Bool) (number : EntityNo) → is_at test plan.graph number ≡ true → test (declared_at plan.graph number) ≡ true
  at_number test number e = by (slice_get plan.graph.entities number) refl e
    where
      by : (found : Option EntityData) → slice_get plan.graph.entities number ≡ found → option_map_or (λ (entity : EntityData). test entity.is) found false ≡ true → test (declared_at plan.graph number) ≡ true
      by None f g = absurd (true≢false (sym g))
      by (Some entity) f g = ap (λ (one : EntityData). test one.is) (get_or_from_slice_get plan.graph.entities number entity (record { name = []; is = declared.Topic }) f) ∙ g

  -- an action client's server is one
  server_stands : (what : Declared) → is_action_client what ≡ true → IsLawfulDeclared plan.graph what → is_server (declared_at plan.graph (server_of (as_entity what).is)) ≡ true
  server_stands declared.Topic e law = absurd (true≢false (sym e))
  server_stands (declared.Entity entity) e law = by entity.group entity.is e law.referring
    where
      by : (group : ℕ) (is : Resolved) → is_action_client (in_group group is) ≡ true → refers (is_declared plan.graph) is ≡ true → is_server (declared_at plan.graph (server_of (as_entity (in_group group is)).is)) ≡ true
      by group (Timer what) f r = absurd (true≢false (sym f))
      by group (Subscription what) f r = absurd (true≢false (sym f))
      by group (Service what) f r = absurd (true≢false (sym f))
      by group (Client what) f r = absurd (true≢false (sym f))
      by group (Server what) f r = absurd (true≢false (sym f))
      by group (ActionClient what) f r = at_number is_server what.server r

  abbrev IsThere : EntityNo → Type 0
  IsThere number = (is_action_client (declared_at plan.graph number) ≡ true) × IsLawfulDeclared plan.graph (declared_at plan.graph number)

  clients_stand : AllByRecursion IsThere (entities_where is_action_client plan.graph)
  clients_stand =
      stands (declared_at plan.graph) is_action_client (IsLawfulDeclared plan.graph) (record { name = []; is = declared.Topic }) 0 plan.graph.entities (λ k within. let same : 0 + k ≡ k = omega arith in ap (λ (n : ℕ). declared_at plan.graph n) same)
      (recursion_from_All (λ entity. IsLawfulDeclared plan.graph entity.is) plan.graph.entities lawful.entities)

  new_clients_stand : (place : ℕ) (numbers : List EntityNo) → AllByRecursion IsThere numbers → AllByRecursion (λ entry. IsThere entry.entity) (map action_client_shape (new_action_clients plan.graph place numbers))
  new_clients_stand place [] p = tt
  new_clients_stand place (number ∷ numbers) p = (p.0, new_clients_stand (suc place) numbers p.1)

  client_stands : (world : WorldState) → shape_of world ≡ shape_of (first_world plan) → (number : EntityNo) (client : ActionClientEntry) → action_client_at number world ≡ Some client → IsThere client.entity
  client_stands world same number client found =
      all_found (λ entry. IsThere entry.entity) (is_action_client_at number) world.action_clients client
      (all_unmapped (λ entry. IsThere entry.entity) action_client_shape world.action_clients
      (subst (λ (clients : List ActionClientEntry). AllByRecursion (λ entry. IsThere entry.entity) clients) (sym (ap (λ (shape : WorldState). shape.action_clients) same)) (new_clients_stand 0 (entities_where is_action_client plan.graph) clients_stand))) found

  has_queues : (client : EntityNo) → IsThere client → HasQueues plan client
  has_queues client p = record {
    asks = queue_stands plan kind.Ask refl (server_of (entity_at plan.graph client).is) (takes_asks (declared_at plan.graph (server_of (entity_at plan.graph client).is)) (server_stands (declared_at plan.graph client) p.0 p.1));
    results = queue_stands plan kind.Result refl client (takes_results (declared_at plan.graph client) p.0);
  }

-- ---- the law

pub told_once : (plan : PlanData) → IsLawful plan.graph → (number : EntityNo) (client : ActionClientEntry) → action_client_at number (last_world plan) ≡ Some client → IsToldOnce client (last_world plan)
told_once plan lawful number client found = record {
  lost = accounts.lost;
  losses = accounts.losses;
  each = told_each;
}
  where
    world : WorldState
    world = last_world plan

    shape : shape_of world ≡ shape_of (first_world plan)
    shape = (all_fair plan client.entity).0

    accounts : Accounts plan client.entity (λ id. 0) world.queues world.servers world.lines
    accounts = (all_fair plan client.entity).1

    kinds : AreOfTheirKinds world
    kinds = rounds_keep kinds_kept plan 1 plan.moments (first_world plan) (kinds_first plan.order plan.graph (filter (λ waitable. takes_from_queue waitable.kind) (wait_set plan.graph)))

    its : server_of (entity_at plan.graph client.entity).is ≡ client.server
    its = eqb-true _ client.server (action_client_knows plan world shape number client found)

    told_each : (id : GoalId) → many (is_asked client.entity id) world.lines ≡ many (is_result_taken client.entity id) world.lines + times id accounts.lost + times id (flat_map result_in (items_of client.entity kind.Result world))
        + times client.entity (waiting_in id (goals_at client.server world)) + times id (flat_map (ask_in client.entity) (items_of client.server kind.Ask world))
    told_each id =
        let all = accounts.each id in
        let most = accounts.sound (has_queues plan lawful client.entity (client_stands plan lawful world shape number client found)) id in
        let none = none_many is_loss world.lines (none_displaced plan (deep_first plan lawful)) in
        let both = flying_both (of_ask plan client.entity id) (of_result plan client.entity id) world.queues in
        let results = results_held plan client.entity id world (wired plan world shape).queues kinds in
        let asks = subst (λ (n : EntityNo). flying (of_ask plan client.entity id) world.queues ≡ among id (flat_map (ask_in client.entity) (items_of n kind.Ask world))) its (asks_held plan client.entity id world (wired plan world shape).queues kinds (all_owned plan).asks) in
        let waits = subst (λ (n : EntityNo). noted_by client.entity id world.servers ≡ among client.entity (waiting_in id (goals_at n world))) its
        (noted_here plan client.entity id world.servers (subst (λ (numbers : List EntityNo). Pairs NumbersApart numbers) (sym (wired plan world shape).listed) (numbers_apart is_server 0 plan.graph.entities)) (all_owned plan).notes
        (distinct_ids plan 1 plan.moments (server_of (entity_at plan.graph client.entity).is))) in
        let a = times_among id accounts.lost in
        let b = times_among id (flat_map result_in (items_of client.entity kind.Result world)) in
        let c = times_among client.entity (waiting_in id (goals_at client.server world)) in
        let d = times_among id (flat_map (ask_in client.entity) (items_of client.server kind.Ask world)) in
        omega (arith, all, most, none, both, results, asks, waits, a, b, c, d)
