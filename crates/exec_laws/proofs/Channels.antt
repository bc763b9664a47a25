-- No answer is displaced: at most one is under way in each channel, which has one that sends to it in a round.
use Rattle.std.proofs.Common.{◌≡◌, ℕ, zero, suc, ◌+◌, ◌-◌, ◌≤◌, Bool, true, false, ◌&&◌, ◌==◌, List, [], ◌∷◌, ◌++◌, length, map, drop, refl, sym, ap, subst, ◌∙◌, true≢false, arith}
use Rattle.std.specs.List.{AllByRecursion, find}
use Rattle.std.specs.Option.{option_map_or}
use Rattle.std.proofs.lemmas.Bool.{eqb-true, eq-eqb, and_parts}
use Rattle.exec_msg.specs.Numbers.{EntityNo}
use Rattle.exec_plan.specs.Graph.{GraphData}
use Rattle.exec_msg.specs.KeepLast.{sent, displaced}
use Rattle.exec_msg.specs.Kind.{ready_number}
use Rattle.exec_msg.specs.Lists.{change_first}
use Rattle.exec_msg.specs.declared.kind.Kind.{Kind}
use Rattle.exec_msg.specs.declared.kind.Kind.TheVariants as kind
use Rattle.exec_laws.proofs.Addresses.{routes_of}
use Rattle.exec_rules.proofs.Keeping.{Routes, is_sent_well}
use Rattle.exec_rules.proofs.OfKinds.{same_kind}
use Rattle.exec_rules.proofs.Running.{Answers}
use Rattle.exec_rules.specs.Item.{taker_of}
use Rattle.exec_rules.specs.Ready.{is_callback_of}
use Rattle.exec_rules.specs.Lines.{is_answer}
use Rattle.exec_rules.specs.Ready.{kind_of, queue_taken}
use Rattle.exec_rules.specs.Transcript.{entity_at, service_of, server_of}
use Rattle.exec_rules.specs.World.{Queue, is_queue, queue_after}
use Rattle.exec_rules.specs.declared.item.Item.{Item}
use Rattle.exec_rules.specs.declared.item.Item.TheVariants as item
use Rattle.exec_rules.specs.declared.ready.Cause.{Cause}
use Rattle.exec_rules.specs.declared.ready.Cause.TheVariants as cause
use Rattle.exec_rules.specs.declared.ready.Ready.{Ready}

-- ---- channels

-- the replies of a service, the responses and the codes of a server, and the asks to a server
pub data Channel : Type 0 where
  replies : EntityNo → Channel
  responses : EntityNo → Channel
  codes : EntityNo → Channel
  asks : EntityNo → Channel

-- whether an entity takes replies, responses, codes or asks of a channel
abbrev takes_reply : Routes → Channel → EntityNo → Bool
takes_reply routes (replies service) entity = routes.service entity service
takes_reply routes _ entity = false

abbrev takes_response : Routes → Channel → EntityNo → Bool
takes_response routes (responses server) entity = routes.server entity server
takes_response routes _ entity = false

abbrev takes_code : Routes → Channel → EntityNo → Bool
takes_code routes (codes server) entity = routes.server entity server
takes_code routes _ entity = false

abbrev takes_ask : Channel → EntityNo → Bool
takes_ask (asks server) entity = entity == server
takes_ask _ entity = false

-- whether an entity's callbacks of a kind take from a channel
abbrev pub takes : Routes → Channel → EntityNo → Kind → Bool
takes routes channel entity kind.Reply = takes_reply routes channel entity
takes routes channel entity kind.Response = takes_response routes channel entity
takes routes channel entity kind.Code = takes_code routes channel entity
takes routes channel entity kind.Ask = takes_ask channel entity
takes routes channel entity _ = false

-- whether a callback sends to a channel
abbrev pub sends_to : Routes → Channel → Ready → Bool
sends_to routes (replies service) one = is_callback_of service kind.Request one
sends_to routes (responses server) one = is_callback_of server kind.Goal one
sends_to routes (codes server) one = is_callback_of server kind.Cancel one
sends_to routes (asks server) one = (ready_number (kind_of one.cause) == ready_number kind.Response) && routes.server one.entity server

abbrev pub weigh : Bool → ℕ → ℕ
weigh true count = count
weigh false count = 0

pub weighs_nothing : (b : Bool) → weigh b 0 ≡ 0
weighs_nothing true = refl
weighs_nothing false = refl

-- how many items stand in a channel's queues
abbrev pub total : Routes → Channel → List Queue → ℕ
total routes channel [] = 0
total routes channel (queue ∷ queues) = weigh (takes routes channel queue.handler.entity queue.kind) (length queue.items) + total routes channel queues

-- how many of these callbacks pass a test
abbrev pub count : (Ready → Bool) → List Ready → ℕ
count test [] = 0
count test (one ∷ list) = weigh (test one) 1 + count test list

pub none_taken : (routes : Routes) (channel : Channel) (entity : EntityNo) (of : Kind) → is_answer of ≡ false → takes routes channel entity of ≡ false
none_taken routes channel entity kind.Timer e = refl
none_taken routes channel entity kind.Message e = refl
none_taken routes channel entity kind.Request e = refl
none_taken routes channel entity kind.Reply e = absurd cc
none_taken routes channel entity kind.Goal e = refl
none_taken routes channel entity kind.Cancel e = refl
none_taken routes channel entity kind.Ask e = absurd cc
none_taken routes channel entity kind.Poll e = refl
none_taken routes channel entity kind.Response e = absurd cc
none_taken routes channel entity kind.Code e = absurd cc
none_taken routes channel entity kind.Feedback e = refl
none_taken routes channel entity kind.Result e = refl

-- ---- what a queue holds

length_dropped : {A : Type 0} (count : ℕ) (all : List A) → length (drop count all) ≤ length all
length_dropped zero all = omega arith
length_dropped (suc count) [] = omega arith
length_dropped (suc count) (one ∷ all) = let rest = length_dropped count all in omega (arith, rest)

length_more : {A : Type 0} (all : List A) (new : A) → length (all ++ new ∷ []) ≡ suc (length all)
length_more [] new = refl
length_more (one ∷ all) new = ap (λ (n : ℕ). suc n) (length_more all new)

length_sent : (depth : ℕ) (new : Item) (items : List Item) → length (sent depth new items) ≤ suc (length items)
length_sent depth new items =
    let fewer = length_dropped (length (items ++ new ∷ []) - depth) (items ++ new ∷ []) in
    let more = length_more items new in
    omega (arith, fewer, more)

weigh_more : (b : Bool) (m n : ℕ) → m ≤ suc n → weigh b m ≤ weigh b n + weigh b 1
weigh_more true m n few = omega (arith, few)
weigh_more false m n few = omega arith

module _ (routes : Routes) (channel : Channel) where
  pub total_after : (entity : EntityNo) (number : ℕ) (new : Item) (queues : List Queue) → total routes channel (change_first (is_queue entity (taker_of new)) (queue_after number new) queues) ≤ total routes channel queues + weigh (takes routes channel entity (taker_of new)) 1
  total_after entity number new [] = omega arith
  total_after entity number new (queue ∷ queues) = by (is_queue entity (taker_of new) queue) refl (total_after entity number new queues)
    where
      by : (b : Bool) → is_queue entity (taker_of new) queue ≡ b → total routes channel (change_first (is_queue entity (taker_of new)) (queue_after number new) queues) ≤ total routes channel queues + weigh (takes routes channel entity (taker_of new)) 1 →
          total routes channel (change_first (is_queue entity (taker_of new)) (queue_after number new) (queue ∷ queues)) ≤ total routes channel (queue ∷ queues) + weigh (takes routes channel entity (taker_of new)) 1
      by true e rest =
          let parts = and_parts (queue.handler.entity == entity) (ready_number queue.kind == ready_number (taker_of new)) e in
          let here : queue.handler.entity ≡ entity = eqb-true queue.handler.entity entity parts.0 in
          let same : queue.kind ≡ taker_of new = same_kind queue.kind (taker_of new) (eqb-true (ready_number queue.kind) (ready_number (taker_of new)) parts.1) in
          let both : takes routes channel queue.handler.entity queue.kind ≡ takes routes channel entity (taker_of new) = ap (λ (n : EntityNo). takes routes channel n queue.kind) here ∙ ap (λ (k : Kind). takes routes channel entity k) same in
          let more = weigh_more (takes routes channel queue.handler.entity queue.kind) (length (sent queue.depth new queue.items)) (length queue.items) (length_sent queue.depth new queue.items) in
          let ones : weigh (takes routes channel queue.handler.entity queue.kind) 1 ≡ weigh (takes routes channel entity (taker_of new)) 1 = ap (λ (b : Bool). weigh b 1) both in
          rw e (omega (arith, more, ones))
      by false e rest = rw e (omega (arith, rest))

  -- what a snapshot leaves of a channel with one item
  pub total_taken : (queues : List Queue) → total routes channel queues ≤ 1 → total routes channel (map queue_taken queues) ≡ 0
  total_taken [] few = refl
  total_taken (queue ∷ queues) few =
      let rest = total_taken queues (omega (arith, few)) in
      let first = taken_first (takes routes channel queue.handler.entity queue.kind) queue.items (omega (arith, few)) in
      omega (arith, rest, first)
    where
      taken_first : (b : Bool) (items : List Item) → weigh b (length items) ≤ 1 → weigh b (length (drop 1 items)) ≡ 0
      taken_first false items p = refl
      taken_first true [] p = refl
      taken_first true (one ∷ []) p = refl
      taken_first true (one ∷ (other ∷ items)) p = absurd (omega (arith, p))

  -- an empty channel's queues lose nothing
  pub none_lost : (entity : EntityNo) (new : Item) (queues : List Queue) → takes routes channel entity (taker_of new) ≡ true → total routes channel queues ≡ 0 → AllByRecursion (λ queue. 1 ≤ queue.depth) queues → option_map_or (λ queue. displaced queue.depth new queue.items) (find (is_queue entity (taker_of new)) queues) [] ≡ []
  none_lost entity new [] is none deep = refl
  none_lost entity new (queue ∷ queues) is none deep = by (is_queue entity (taker_of new) queue) refl (none_lost entity new queues is (omega (arith, none)) deep.1)
    where
      empty : (items : List Item) → length items ≡ 0 → displaced queue.depth new items ≡ []
      empty [] p = let least = deep.0 in let zero_excess : 1 - queue.depth ≡ 0 = omega (arith, least) in rw zero_excess refl
      empty (one ∷ items) p = absurd (omega (arith, p))

      by : (b : Bool) → is_queue entity (taker_of new) queue ≡ b → option_map_or (λ queue. displaced queue.depth new queue.items) (find (is_queue entity (taker_of new)) queues) [] ≡ [] → option_map_or (λ queue. displaced queue.depth new queue.items) (find (is_queue entity (taker_of new)) (queue ∷ queues)) [] ≡ []
      by true e rest =
          let parts = and_parts (queue.handler.entity == entity) (ready_number queue.kind == ready_number (taker_of new)) e in
          let here : queue.handler.entity ≡ entity = eqb-true queue.handler.entity entity parts.0 in
          let same : queue.kind ≡ taker_of new = same_kind queue.kind (taker_of new) (eqb-true (ready_number queue.kind) (ready_number (taker_of new)) parts.1) in
          let both : takes routes channel queue.handler.entity queue.kind ≡ true = ap (λ (n : EntityNo). takes routes channel n queue.kind) here ∙ ap (λ (k : Kind). takes routes channel entity k) same ∙ is in
          let weighs : weigh (takes routes channel queue.handler.entity queue.kind) (length queue.items) ≡ length queue.items = ap (λ (b : Bool). weigh b (length queue.items)) both in
          rw e (empty queue.items (omega (arith, none, weighs)))
      by false e rest = rw e rest

-- ---- who sends

-- the channel of an answer
abbrev pub channel_of : GraphData → EntityNo → Kind → Channel
channel_of graph entity kind.Reply = replies (service_of (entity_at graph entity).is)
channel_of graph entity kind.Response = responses (server_of (entity_at graph entity).is)
channel_of graph entity kind.Code = codes (server_of (entity_at graph entity).is)
channel_of graph entity _ = asks entity

pub its_channel : (graph : GraphData) (entity : EntityNo) (of : Kind) → is_answer of ≡ true → takes (routes_of graph) (channel_of graph entity of) entity of ≡ true
its_channel graph entity kind.Timer e = absurd cc
its_channel graph entity kind.Message e = absurd cc
its_channel graph entity kind.Request e = absurd cc
its_channel graph entity kind.Reply e = eq-eqb (service_of (entity_at graph entity).is) (service_of (entity_at graph entity).is) refl
its_channel graph entity kind.Goal e = absurd cc
its_channel graph entity kind.Cancel e = absurd cc
its_channel graph entity kind.Ask e = eq-eqb entity entity refl
its_channel graph entity kind.Poll e = absurd cc
its_channel graph entity kind.Response e = eq-eqb (server_of (entity_at graph entity).is) (server_of (entity_at graph entity).is) refl
its_channel graph entity kind.Code e = eq-eqb (server_of (entity_at graph entity).is) (server_of (entity_at graph entity).is) refl
its_channel graph entity kind.Feedback e = absurd cc
its_channel graph entity kind.Result e = absurd cc

-- a callback takes what may be sent to its entity
abbrev pub cause_sent : Routes → EntityNo → Cause → Bool
cause_sent routes entity (cause.Took taken) = is_sent_well routes entity taken
cause_sent routes entity _ = true

-- one of a kind at an entity
module _ (graph : GraphData) (one : Ready) (sent_well : cause_sent (routes_of graph) one.entity one.cause ≡ true) where
  is_callback : (entity : EntityNo) (of : Kind) (why : Cause) → one.cause ≡ why → kind_of why ≡ of → one.entity ≡ entity → is_callback_of entity of one ≡ true
  is_callback entity of why same is here = rw (eq-eqb one.entity entity here, eq-eqb (ready_number (kind_of one.cause)) (ready_number of) (ap (λ (c : Cause). ready_number (kind_of c)) same ∙ ap (λ (k : Kind). ready_number k) is)) refl

  -- where two entities are the one that stands in the graph
  joined : (a b c : ℕ) → a == b ≡ true → a == c ≡ true → b ≡ c
  joined a b c e f = sym (eqb-true a b e) ∙ eqb-true a c f

  well : (why : Cause) → one.cause ≡ why → cause_sent (routes_of graph) one.entity why ≡ true
  well why same = ap (λ (c : Cause). cause_sent (routes_of graph) one.entity c) (sym same) ∙ sent_well

  -- what answers is sent by a callback that sends to the channel
  pub answers_send : (channel : Channel) (entity : EntityNo) (new : Item) → Answers (routes_of graph) one entity new → takes (routes_of graph) channel entity (taker_of new) ≡ true → sends_to (routes_of graph) channel one ≡ true
  answers_send (replies service) entity (item.Reply number value) a t = is_callback service kind.Request _ a.1 refl (joined _ one.entity service (well _ a.1) t)
  answers_send (responses server) entity (item.Response id accepted) a t = is_callback server kind.Goal _ a.1 refl (joined _ one.entity server (well _ a.1) t)
  answers_send (codes server) entity (item.Code returned moved) a t = is_callback server kind.Cancel _ a.1 refl (joined _ one.entity server (well _ a.1) t)
  answers_send (asks server) entity (item.Ask id client) a t =
      rw (eq-eqb (ready_number (kind_of one.cause)) (ready_number kind.Response) (ap (λ (c : Cause). ready_number (kind_of c)) a.1.0))
      (subst (λ (n : EntityNo). (routes_of graph).server one.entity n ≡ true) (eqb-true entity server t) a.1.1)
  answers_send channel entity (item.Message value) a t = absurd a
  answers_send channel entity (item.Request client number value) a t = absurd a
  answers_send channel entity (item.Goal id client value) a t = absurd a
  answers_send channel entity (item.Cancel request client) a t = absurd a
  answers_send channel entity (item.Feedback id value) a t = absurd a
  answers_send channel entity (item.Result id status value) a t = absurd a
  answers_send (responses server) entity (item.Reply number value) a t = absurd (true≢false (sym t))
  answers_send (codes server) entity (item.Reply number value) a t = absurd (true≢false (sym t))
  answers_send (asks server) entity (item.Reply number value) a t = absurd (true≢false (sym t))
  answers_send (replies server) entity (item.Response id accepted) a t = absurd (true≢false (sym t))
  answers_send (codes server) entity (item.Response id accepted) a t = absurd (true≢false (sym t))
  answers_send (asks server) entity (item.Response id accepted) a t = absurd (true≢false (sym t))
  answers_send (replies server) entity (item.Code returned moved) a t = absurd (true≢false (sym t))
  answers_send (responses server) entity (item.Code returned moved) a t = absurd (true≢false (sym t))
  answers_send (asks server) entity (item.Code returned moved) a t = absurd (true≢false (sym t))
  answers_send (replies server) entity (item.Ask id client) a t = absurd (true≢false (sym t))
  answers_send (responses server) entity (item.Ask id client) a t = absurd (true≢false (sym t))
  answers_send (codes server) entity (item.Ask id client) a t = absurd (true≢false (sym t))
