-- Requests stand with whom their clients send them to, and what their queues hold is sent there.
use Rattle.std.proofs.Common.{◌≡◌, ℕ, ◌-◌, Bool, true, false, ◌==◌, List, [], ◌∷◌, ◌++◌, length, map, Option, Some, is_some, refl, sym, ap, subst, true≢false, suc, zero, drop}
use Rattle.std.specs.List.{AllByRecursion, find}
use Rattle.std.specs.Option.{unwrap_or}
use Rattle.std.proofs.lemmas.Bool.{eqb-true, eq-eqb, and_parts}
use Rattle.exec_msg.specs.Numbers.{EntityNo}
use Rattle.exec_plan.specs.declared.order.Order.{Order}
use Rattle.exec_plan.specs.Graph.{GraphData, Waitable, entities_where, is_client, is_action_client}
use Rattle.exec_plan.specs.Plan.{PlanData}
use Rattle.exec_msg.specs.Kind.{ready_number}
use Rattle.exec_msg.specs.Lists.{change_first}
use Rattle.exec_rules.proofs.Keeping.{Routes, is_sent_well}
use Rattle.exec_rules.proofs.Pairs.{all_append, all_unmapped}
use Rattle.exec_rules.specs.Item.{taker_of}
use Rattle.exec_rules.specs.Shape.{client_shape, action_client_shape, shape_of}
use Rattle.exec_rules.specs.Ready.{queue_taken}
use Rattle.exec_rules.specs.Transcript.{entity_at, service_of, server_of, new_queue, new_client, new_action_clients, first_world}
use Rattle.exec_rules.specs.World.{WorldState, Queue, ClientEntry, ActionClientEntry, is_queue, queue_after, client_at, action_client_at, is_client_at, is_action_client_at}
use Rattle.exec_rules.specs.declared.item.Item.{Item}

-- where a graph says that clients send their requests
abbrev pub routes_of : GraphData → Routes
routes_of graph = record {
  service = λ client entity. service_of (entity_at graph client).is == entity;
  server = λ client entity. server_of (entity_at graph client).is == entity;
}

-- what holds of all holds of what is found
pub all_found : {A : Type 0} (P : A → Type 0) (test : A → Bool) (all : List A) (one : A) → AllByRecursion P all → find test all ≡ Some one → P one
all_found {A} P test [] one p found = absurd (true≢false (sym (ap (λ (o : Option A). is_some o) found)))
all_found {A} P test (first ∷ all) one p found = by (test first) refl (all_found P test all one p.1)
  where
    by : (b : Bool) → test first ≡ b → (find test all ≡ Some one → P one) → P one
    by true e rest =
        let here : Some first ≡ Some one = rw e at found in
        subst P (ap (λ (o : Option A). unwrap_or o first) here) p.0
    by false e rest = let there : find test all ≡ Some one = rw e at found in rest there

-- ---- clients know where they send

abbrev ClientKnows : GraphData → ClientEntry → Type 0
ClientKnows graph entry = (service_of (entity_at graph entry.entity).is == entry.service) ≡ true

abbrev ActionClientKnows : GraphData → ActionClientEntry → Type 0
ActionClientKnows graph entry = (server_of (entity_at graph entry.entity).is == entry.server) ≡ true

new_clients_know : (graph : GraphData) (numbers : List EntityNo) → AllByRecursion (ClientKnows graph) (map client_shape (map (new_client graph) numbers))
new_clients_know graph [] = tt
new_clients_know graph (number ∷ numbers) = (eq-eqb (service_of (entity_at graph number).is) (service_of (entity_at graph number).is) refl, new_clients_know graph numbers)

new_action_clients_know : (graph : GraphData) (place : ℕ) (numbers : List EntityNo) → AllByRecursion (ActionClientKnows graph) (map action_client_shape (new_action_clients graph place numbers))
new_action_clients_know graph place [] = tt
new_action_clients_know graph place (number ∷ numbers) = (eq-eqb (server_of (entity_at graph number).is) (server_of (entity_at graph number).is) refl, new_action_clients_know graph (suc place) numbers)

module _ (plan : PlanData) (world : WorldState) (same : shape_of world ≡ shape_of (first_world plan)) where
  pub client_knows : (number : EntityNo) (client : ClientEntry) → client_at number world ≡ Some client → (routes_of plan.graph).service client.entity client.service ≡ true
  client_knows number client found =
      all_found (ClientKnows plan.graph) (is_client_at number) world.clients client
      (all_unmapped (ClientKnows plan.graph) client_shape world.clients (subst (λ (clients : List ClientEntry). AllByRecursion (ClientKnows plan.graph) clients) (sym (ap (λ (shape : WorldState). shape.clients) same)) (new_clients_know plan.graph (entities_where is_client plan.graph)))) found

  pub action_client_knows : (number : EntityNo) (client : ActionClientEntry) → action_client_at number world ≡ Some client → (routes_of plan.graph).server client.entity client.server ≡ true
  action_client_knows number client found =
      all_found (ActionClientKnows plan.graph) (is_action_client_at number) world.action_clients client
      (all_unmapped (ActionClientKnows plan.graph) action_client_shape world.action_clients (subst (λ (clients : List ActionClientEntry). AllByRecursion (ActionClientKnows plan.graph) clients) (sym (ap (λ (shape : WorldState). shape.action_clients) same)) (new_action_clients_know plan.graph 0 (entities_where is_action_client plan.graph)))) found

-- ---- queues

all_dropped : {A : Type 0} (P : A → Type 0) (count : ℕ) (all : List A) → AllByRecursion P all → AllByRecursion P (drop count all)
all_dropped P zero all p = p
all_dropped P (suc count) [] p = tt
all_dropped P (suc count) (one ∷ all) p = all_dropped P count all p.1

-- queues hold items that have a property where they stand
module _ (P : EntityNo → Item → Type 0) where
  abbrev pub Holds : Queue → Type 0
  Holds queue = AllByRecursion (P queue.handler.entity) queue.items

  pub held_after : (entity : EntityNo) (number : ℕ) (new : Item) (queues : List Queue) → P entity new → AllByRecursion Holds queues → AllByRecursion Holds (change_first (is_queue entity (taker_of new)) (queue_after number new) queues)
  held_after entity number new [] well p = tt
  held_after entity number new (queue ∷ queues) well p = by (is_queue entity (taker_of new) queue) refl (held_after entity number new queues well p.1)
    where
      by : (b : Bool) → is_queue entity (taker_of new) queue ≡ b → AllByRecursion Holds (change_first (is_queue entity (taker_of new)) (queue_after number new) queues) → AllByRecursion Holds (change_first (is_queue entity (taker_of new)) (queue_after number new) (queue ∷ queues))
      by true e rest =
          let here : queue.handler.entity ≡ entity = eqb-true queue.handler.entity entity (and_parts (queue.handler.entity == entity) (ready_number queue.kind == ready_number (taker_of new)) e).0 in
          rw e (
            all_dropped (P queue.handler.entity) (length (queue.items ++ new ∷ []) - queue.depth) (queue.items ++ new ∷ [])
                (all_append (P queue.handler.entity) queue.items (new ∷ []) p.0 (subst (λ (n : EntityNo). P n new) (sym here) well, tt)),
            p.1,
          )
      by false e rest = rw e (p.0, rest)

  pub held_taken : (queues : List Queue) → AllByRecursion Holds queues → AllByRecursion Holds (map queue_taken queues)
  held_taken [] p = tt
  held_taken (queue ∷ queues) p = (all_dropped (P queue.handler.entity) 1 queue.items p.0, held_taken queues p.1)

  pub held_first : (under : Order) (graph : GraphData) (waitables : List Waitable) → AllByRecursion Holds (map (new_queue under graph) waitables)
  held_first under graph [] = tt
  held_first under graph (waitable ∷ waitables) = (tt, held_first under graph waitables)

-- a queue holds what may be sent to its entity
abbrev pub IsAddressed : Routes → Queue → Type 0
IsAddressed routes queue = AllByRecursion (λ one. is_sent_well routes queue.handler.entity one ≡ true) queue.items

pub addressed_after : (routes : Routes) (entity : EntityNo) (number : ℕ) (new : Item) (queues : List Queue) → is_sent_well routes entity new ≡ true → AllByRecursion (IsAddressed routes) queues → AllByRecursion (IsAddressed routes) (change_first (is_queue entity (taker_of new)) (queue_after number new) queues)
addressed_after routes = held_after (λ entity one. is_sent_well routes entity one ≡ true)

pub addressed_taken : (routes : Routes) (queues : List Queue) → AllByRecursion (IsAddressed routes) queues → AllByRecursion (IsAddressed routes) (map queue_taken queues)
addressed_taken routes = held_taken (λ entity one. is_sent_well routes entity one ≡ true)

pub addressed_first : (routes : Routes) (under : Order) (graph : GraphData) (waitables : List Waitable) → AllByRecursion (IsAddressed routes) (map (new_queue under graph) waitables)
addressed_first routes = held_first (λ entity one. is_sent_well routes entity one ≡ true)
