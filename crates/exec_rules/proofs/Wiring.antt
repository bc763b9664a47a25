-- Which callbacks a world has: the shape of the first world says it, and so no run changes it.
use Rattle.std.proofs.Common.{◌≡◌, ℕ, suc, ◌≤◌, Bool, true, false, not, ◌||◌, ◌==◌, List, [], ◌∷◌, map, refl, sym, ap, subst, ◌∙◌, true≢false, arith}
use Rattle.std.specs.List.{AllByRecursion, list_any}
use Rattle.std.proofs.lemmas.Bool.{eq-eqb}
use Rattle.exec_msg.specs.Numbers.{EntityNo}
use Rattle.exec_plan.specs.Entity.{Resolved}
use Rattle.exec_plan.specs.Plan.{PlanData}
use Rattle.exec_plan.specs.Graph.{GraphData, EntityData, Waitable, in_group, wait_set, kinds, cons_if, numbers_where, entities_where, has_kind, is_timer, is_server}
use Rattle.exec_plan.specs.declared.entity.Declared.{Declared}
use Rattle.exec_plan.specs.declared.entity.Declared.TheVariants as declared
use Rattle.exec_plan.specs.declared.entity.EntityOf.TheVariants.{Timer, Subscription, Service, Client, Server, ActionClient}
use Rattle.exec_msg.specs.Kind.{ready_number}
use Rattle.exec_msg.specs.declared.kind.Kind.{Kind}
use Rattle.exec_msg.specs.declared.kind.Kind.TheVariants as kind
use Rattle.exec_rules.proofs.Pairs.{all_flat, all_map, all_weaker, all_filter, all_mapped, all_unmapped, Pairs, pairs_flat, pairs_map, pairs_tested, pairs_filter, pairs_unmapped}
use Rattle.exec_rules.specs.Shape.{timer_shape, queue_shape, server_shape, shape_of}
use Rattle.exec_rules.specs.Transcript.{takes_from_queue, new_timer, new_queue, new_server, first_world}
use Rattle.exec_rules.specs.World.{WorldState, TimerEntry, Queue, ServerEntry}

-- ---- numbers of entities

pub above : (test : Declared → Bool) (number : ℕ) (entities : List EntityData) → AllByRecursion (λ n. number ≤ n) (numbers_where test number entities)
above test number [] = tt
above test number (entity ∷ entities) = by (test entity.is) (all_weaker (λ n. suc number ≤ n) (λ n. number ≤ n) (λ n h. omega (arith, h)) _ (above test (suc number) entities))
  where
    by : (b : Bool) → AllByRecursion (λ n. number ≤ n) (numbers_where test (suc number) entities) → AllByRecursion (λ n. number ≤ n) (cons_if b number (numbers_where test (suc number) entities))
    by true rest = (omega arith, rest)
    by false rest = rest

-- two numbers aren't one
abbrev pub NumbersApart : EntityNo → EntityNo → Type 0
NumbersApart one other = other ≡ one → ⊥

pub numbers_apart : (test : Declared → Bool) (number : ℕ) (entities : List EntityData) → Pairs NumbersApart (numbers_where test number entities)
numbers_apart test number [] = tt
numbers_apart test number (entity ∷ entities) = by (test entity.is) (numbers_apart test (suc number) entities)
  where
    by : (b : Bool) → Pairs NumbersApart (numbers_where test (suc number) entities) → Pairs NumbersApart (cons_if b number (numbers_where test (suc number) entities))
    by true rest = (all_weaker (λ n. suc number ≤ n) (NumbersApart number) (λ n h e. omega (arith, h, e)) _ (above test (suc number) entities), rest)
    by false rest = rest

-- ---- the wait set

-- no entity is waited for twice with its callbacks of a kind
abbrev WaitsApart : Waitable → Waitable → Type 0
WaitsApart one other = other.kind ≡ one.kind → other.entity ≡ one.entity → ⊥

-- two kinds have two numbers
abbrev differ : Kind → Kind → Bool
differ one other = not (ready_number one == ready_number other)

not_both : (one other : Kind) → differ one other ≡ true → other ≡ one → ⊥
not_both one other apart e =
    true≢false (sym apart ∙ ap (λ (k : Kind). differ one k) e ∙ ap (λ (b : Bool). not b) (eq-eqb (ready_number one) (ready_number one) refl))

abbrev pub waits_of : GraphData → Kind → List Waitable
waits_of graph of = map (λ entity. record { kind = of; entity = entity }) (entities_where (has_kind of) graph)

pub waits_apart : (graph : GraphData) → Pairs WaitsApart (wait_set graph)
waits_apart graph =
    pairs_flat (λ one other. differ one other ≡ true) WaitsApart (waits_of graph)
    (λ at. pairs_map NumbersApart WaitsApart _ (λ one other apart e f. apart f) _ (numbers_apart (has_kind at) 0 graph.entities))
    (λ one other apart. all_map (λ x. AllByRecursion (WaitsApart x) (waits_of graph other)) _
    (λ entity. all_map (WaitsApart (record { kind = one; entity = entity })) _ (λ second e f. not_both one other apart e) _) _)
    kinds (pairs_tested differ kinds refl)

-- ---- goal requests are taken by servers

goals_are_servers : (is : Declared) → has_kind kind.Goal is ≡ is_server is
goals_are_servers declared.Topic = refl
goals_are_servers (declared.Entity entity) = by entity.group entity.is where
  by : (group : ℕ) (is : Resolved) → has_kind kind.Goal (in_group group is) ≡ is_server (in_group group is)
  by group (Timer entity) = refl
  by group (Subscription entity) = refl
  by group (Service entity) = refl
  by group (Client entity) = refl
  by group (Server entity) = refl
  by group (ActionClient entity) = refl

same_servers : (number : ℕ) (entities : List EntityData) → numbers_where (has_kind kind.Goal) number entities ≡ numbers_where is_server number entities
same_servers number [] = refl
same_servers number (entity ∷ entities) =
    ap (λ (b : Bool). cons_if b number (numbers_where (has_kind kind.Goal) (suc number) entities)) (goals_are_servers entity.is)
    ∙ ap (λ (rest : List ℕ). cons_if (is_server entity.is) number rest) (same_servers (suc number) entities)

-- whether a number is among these
abbrev pub is_listed : List EntityNo → EntityNo → Bool
is_listed all one = list_any (λ other. other == one) all

pub or_more : (a : Bool) → a || true ≡ true
or_more true = refl
or_more false = refl

members : (all : List EntityNo) → AllByRecursion (λ one. is_listed all one ≡ true) all
members [] = tt
members (first ∷ all) =
    (rw (eq-eqb first first refl) refl, all_weaker (λ one. is_listed all one ≡ true) (λ one. is_listed (first ∷ all) one ≡ true) (λ one is. rw is (or_more (first == one))) all (members all))

-- what takes goal requests is listed
abbrev pub TakesGoals : List EntityNo → Kind → EntityNo → Type 0
TakesGoals listed of entity = of ≡ kind.Goal → is_listed listed entity ≡ true

abbrev WaitListed : GraphData → Waitable → Type 0
WaitListed graph waitable = TakesGoals (entities_where is_server graph) waitable.kind waitable.entity

waits_listed : (graph : GraphData) → AllByRecursion (WaitListed graph) (wait_set graph)
waits_listed graph = all_flat (WaitListed graph) (waits_of graph) each kinds
  where
    of_kind : (of : Kind) (some : List EntityNo) → AllByRecursion (λ one. is_listed (entities_where (has_kind of) graph) one ≡ true) some → AllByRecursion (WaitListed graph) (map (λ entity. record { kind = of; entity = entity }) some)
    of_kind of [] p = tt
    of_kind of (one ∷ some) p =
        ((λ is. ap (λ (all : List EntityNo). is_listed all one) (sym (same_servers 0 graph.entities)) ∙ ap (λ (at : Kind). is_listed (entities_where (has_kind at) graph) one) (sym is) ∙ p.0), of_kind of some p.1)

    each : (of : Kind) → AllByRecursion (WaitListed graph) (waits_of graph of)
    each of = of_kind of (entities_where (has_kind of) graph) (members (entities_where (has_kind of) graph))

-- ---- worlds

abbrev pub QueuesApart : Queue → Queue → Type 0
QueuesApart one other = other.kind ≡ one.kind → other.handler.entity ≡ one.handler.entity → ⊥

-- the servers' numbers
abbrev pub servers_of : WorldState → List EntityNo
servers_of world = map (λ entry. entry.handler.entity) world.servers

abbrev pub TakesListed : GraphData → Queue → Type 0
TakesListed graph queue = TakesGoals (entities_where is_server graph) queue.kind queue.handler.entity

-- no timer stands there twice, no entity has two queues of a kind, and servers alone take goal requests
pub record IsWired (graph : GraphData) (world : WorldState) : Type 0 where
  pub timers : Pairs (λ one other. NumbersApart one.handler.entity other.handler.entity) world.timers
  pub queues : Pairs QueuesApart world.queues
  pub takes_goals : AllByRecursion (TakesListed graph) world.queues
  pub listed : servers_of world ≡ entities_where is_server graph

servers_shaped : (servers : List ServerEntry) → map (λ entry. entry.handler.entity) (map server_shape servers) ≡ map (λ entry. entry.handler.entity) servers
servers_shaped [] = refl
servers_shaped (entry ∷ servers) = ap (λ (rest : List EntityNo). entry.handler.entity ∷ rest) (servers_shaped servers)

new_servers : (graph : GraphData) (numbers : List EntityNo) → map (λ entry. entry.handler.entity) (map (new_server graph) numbers) ≡ numbers
new_servers graph [] = refl
new_servers graph (number ∷ numbers) = ap (λ (rest : List EntityNo). number ∷ rest) (new_servers graph numbers)

-- a world of this shape is wired so
pub wired : (plan : PlanData) (world : WorldState) → shape_of world ≡ shape_of (first_world plan) → IsWired plan.graph world
wired plan world same = record {
  timers = pairs_unmapped (λ one other. NumbersApart one.handler.entity other.handler.entity) timer_shape world.timers
      (subst (λ (timers : List TimerEntry). Pairs (λ one other. NumbersApart one.handler.entity other.handler.entity) timers) (sym (ap (λ (shape : WorldState). shape.timers) same))
      (pairs_map _ _ timer_shape (λ one other apart. apart) _ (pairs_map NumbersApart (λ one other. NumbersApart one.handler.entity other.handler.entity) (new_timer plan.graph) (λ one other apart. apart) _ (numbers_apart is_timer 0 plan.graph.entities))));
  queues = pairs_unmapped QueuesApart queue_shape world.queues
      (subst (λ (queues : List Queue). Pairs QueuesApart queues) (sym (ap (λ (shape : WorldState). shape.queues) same))
      (pairs_map QueuesApart QueuesApart queue_shape (λ one other apart. apart) _ (pairs_map WaitsApart QueuesApart (new_queue plan.order plan.graph) (λ one other apart. apart) _ (pairs_filter WaitsApart (λ waitable. takes_from_queue waitable.kind) (wait_set plan.graph) (waits_apart plan.graph)))));
  takes_goals = all_unmapped (TakesListed plan.graph) queue_shape world.queues
      (subst (λ (queues : List Queue). AllByRecursion (TakesListed plan.graph) queues) (sym (ap (λ (shape : WorldState). shape.queues) same))
      (all_mapped (TakesListed plan.graph) (TakesListed plan.graph) queue_shape (λ queue t. t) _ (all_mapped (WaitListed plan.graph) (TakesListed plan.graph) (new_queue plan.order plan.graph) (λ waitable t. t) _ (all_filter (WaitListed plan.graph) (λ waitable. takes_from_queue waitable.kind) (wait_set plan.graph) (waits_listed plan.graph)))));
  listed = sym (servers_shaped world.servers) ∙ ap (λ (shape : WorldState). servers_of shape) same ∙ servers_shaped (map (new_server plan.graph) (entities_where is_server plan.graph)) ∙ new_servers plan.graph (entities_where is_server plan.graph);
}
