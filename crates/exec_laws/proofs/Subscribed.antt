-- What a graph says of a subscription: its topic alone sends to it, once a message, and it has a queue.
use Rattle.std.proofs.Common.{◌≡◌, ℕ, zero, suc, ◌<◌, ℤ, Bool, true, false, ◌==◌, if◌then◌else◌, List, [], ◌∷◌, length, map, get_or, refl, sym, ap, ◌∙◌, true≢false, arith}
use Rattle.std.specs.List.{AllByRecursion, Contains, find, flat_map, list_any}
use Rattle.std.specs.Option.{option_map_or}
use Rattle.std.proofs.lemmas.Bool.{eqb-true, eq-eqb}
use Rattle.exec_msg.specs.Numbers.{EntityNo}
use Rattle.exec_plan.specs.Entity.{Resolved}
use Rattle.exec_plan.specs.Graph.{GraphData, of_entity, is_topic, declared_at, entities_where, has_kind}
use Rattle.exec_plan.specs.Plan.{PlanData}
use Rattle.exec_plan.specs.declared.entity.Declared.{Declared}
use Rattle.exec_plan.specs.declared.entity.Declared.TheVariants as declared
use Rattle.exec_plan.specs.declared.entity.EntityOf.TheVariants.{Timer, Subscription, Service, Client, Server, ActionClient}
use Rattle.exec_msg.specs.declared.kind.Kind.TheVariants as kind
use Rattle.exec_rules.proofs.Pairs.{Pairs}
use Rattle.exec_laws.proofs.Standing.{is_declared, queue_stands}
use Rattle.exec_rules.proofs.Wiring.{NumbersApart, is_listed, numbers_apart, or_more}
use Rattle.exec_rules.specs.Transcript.{first_world, new_topic, subscribes_to}
use Rattle.exec_rules.specs.World.{TopicEntry, is_queue, subscribers_at}

-- ---- messages

-- what a message to one of the subscriptions brings to one of them
abbrev pub brought : EntityNo → ℤ → EntityNo → List ℤ
brought subscription value one = if one == subscription then value ∷ [] else []

abbrev pub only_if : Bool → ℤ → List ℤ
only_if b value = if b then value ∷ [] else []

none_brought : (subscription : EntityNo) (value : ℤ) (one : EntityNo) → one ≡ subscription → (others : List EntityNo) → AllByRecursion (NumbersApart one) others → flat_map (brought subscription value) others ≡ []
none_brought subscription value one same [] p = refl
none_brought subscription value one same (other ∷ others) p = by (other == subscription) refl (none_brought subscription value one same others p.1)
  where
    by : (b : Bool) → other == subscription ≡ b → flat_map (brought subscription value) others ≡ [] → flat_map (brought subscription value) (other ∷ others) ≡ []
    by true e rest = absurd (p.0 (eqb-true other subscription e ∙ sym same))
    by false e rest = rw e rest

brought_once : (subscription : EntityNo) (value : ℤ) (all : List EntityNo) → Pairs NumbersApart all → flat_map (brought subscription value) all ≡ only_if (is_listed all subscription) value
brought_once subscription value [] apart = refl
brought_once subscription value (one ∷ all) apart = by (one == subscription) refl (brought_once subscription value all apart.1)
  where
    by : (b : Bool) → one == subscription ≡ b → flat_map (brought subscription value) all ≡ only_if (is_listed all subscription) value → flat_map (brought subscription value) (one ∷ all) ≡ only_if (is_listed (one ∷ all) subscription) value
    by true e rest = rw e (ap (λ (more : List ℤ). value ∷ more) (none_brought subscription value one (eqb-true one subscription e) all apart.0))
    by false e rest = rw e rest

-- a subscription has one topic
topic_only : (topic : EntityNo) (what : Declared) → of_entity false (subscribes_to topic) what ≡ true → (other : EntityNo) → of_entity false (subscribes_to other) what ≡ (topic == other)
topic_only topic declared.Topic e other = absurd (true≢false (sym e))
topic_only topic (declared.Entity entity) e other = by entity.is e
  where
    by : (is : Resolved) → subscribes_to topic is ≡ true → subscribes_to other is ≡ (topic == other)
    by (Timer what) f = absurd (true≢false (sym f))
    by (Subscription what) f = ap (λ (n : EntityNo). n == other) (eqb-true what.topic topic f)
    by (Service what) f = absurd (true≢false (sym f))
    by (Client what) f = absurd (true≢false (sym f))
    by (Server what) f = absurd (true≢false (sym f))
    by (ActionClient what) f = absurd (true≢false (sym f))

takes_messages : (topic : EntityNo) (what : Declared) → of_entity false (subscribes_to topic) what ≡ true → has_kind kind.Message what ≡ true
takes_messages topic declared.Topic e = absurd (true≢false (sym e))
takes_messages topic (declared.Entity entity) e = by entity.is e
  where
    by : (is : Resolved) → subscribes_to topic is ≡ true → has_kind kind.Message (declared.Entity (record entity { is = is })) ≡ true
    by (Timer what) f = absurd (true≢false (sym f))
    by (Subscription what) f = refl
    by (Service what) f = absurd (true≢false (sym f))
    by (Client what) f = absurd (true≢false (sym f))
    by (Server what) f = absurd (true≢false (sym f))
    by (ActionClient what) f = absurd (true≢false (sym f))

abbrev subscribers_in : EntityNo → List TopicEntry → List EntityNo
subscribers_in topic topics = option_map_or (λ (entry : TopicEntry). entry.subscribers) (find (λ (entry : TopicEntry). entry.entity == topic) topics) []

new_subscribers : (graph : GraphData) (topic : EntityNo) (numbers : List EntityNo) → subscribers_in topic (map (new_topic graph) numbers) ≡ (if is_listed numbers topic then entities_where (of_entity false (subscribes_to topic)) graph else [])
new_subscribers graph topic [] = refl
new_subscribers graph topic (number ∷ numbers) = by (number == topic) refl (new_subscribers graph topic numbers)
  where
    by : (b : Bool) → number == topic ≡ b → subscribers_in topic (map (new_topic graph) numbers) ≡ (if is_listed numbers topic then entities_where (of_entity false (subscribes_to topic)) graph else []) →
        subscribers_in topic (map (new_topic graph) (number ∷ numbers)) ≡ (if is_listed (number ∷ numbers) topic then entities_where (of_entity false (subscribes_to topic)) graph else [])
    by true e rest = rw e (ap (λ (n : EntityNo). entities_where (of_entity false (subscribes_to n)) graph) (eqb-true number topic e))
    by false e rest = rw e rest

contained : (all : List EntityNo) (one : EntityNo) → Contains all one → is_listed all one ≡ true
contained all one held = at all held.0 held.1 held.2
  where
    at : (some : List EntityNo) (k : ℕ) → k < length some → get_or some k one ≡ one → is_listed some one ≡ true
    at [] k within is = absurd (omega (arith, within))
    at (first ∷ some) zero within is = rw (eq-eqb first one is) refl
    at (first ∷ some) (suc k) within is = rw (at some k (omega (arith, within)) is) (or_more (first == one))

module _ (plan : PlanData) (topic subscription : EntityNo) (among : Contains (subscribers_at topic (first_world plan)) subscription) where
  both : (is_listed (entities_where is_topic plan.graph) topic ≡ true) × (of_entity false (subscribes_to topic) (declared_at plan.graph subscription) ≡ true)
  both = by (is_listed (entities_where is_topic plan.graph) topic) refl
    where
      there : is_listed (if is_listed (entities_where is_topic plan.graph) topic then entities_where (of_entity false (subscribes_to topic)) plan.graph else []) subscription ≡ true
      there = ap (λ (all : List EntityNo). is_listed all subscription) (sym (new_subscribers plan.graph topic (entities_where is_topic plan.graph))) ∙ contained (subscribers_at topic (first_world plan)) subscription among

      by : (b : Bool) → is_listed (entities_where is_topic plan.graph) topic ≡ b → (is_listed (entities_where is_topic plan.graph) topic ≡ true) × (of_entity false (subscribes_to topic) (declared_at plan.graph subscription) ≡ true)
      by true e = let here : is_listed (entities_where (of_entity false (subscribes_to topic)) plan.graph) subscription ≡ true = rw e at there in (e, sym (is_declared plan.graph (of_entity false (subscribes_to topic)) refl subscription) ∙ here)
      by false e = let none : false ≡ true = rw e at there in absurd (true≢false (sym none))

  -- a message to the subscription's topic is brought to it once, and one to another topic never
  pub messages_brought : (other : EntityNo) (value : ℤ) → flat_map (brought subscription value) (subscribers_at other (first_world plan)) ≡ only_if (other == topic) value
  messages_brought other value =
      ap (λ (all : List EntityNo). flat_map (brought subscription value) all) (new_subscribers plan.graph other (entities_where is_topic plan.graph)) ∙ by (other == topic) (is_listed (entities_where is_topic plan.graph) other) refl refl
    where
      each : flat_map (brought subscription value) (entities_where (of_entity false (subscribes_to other)) plan.graph) ≡ only_if (topic == other) value
      each =
          brought_once subscription value (entities_where (of_entity false (subscribes_to other)) plan.graph) (numbers_apart (of_entity false (subscribes_to other)) 0 plan.graph.entities)
          ∙ ap (λ (b : Bool). only_if b value) (is_declared plan.graph (of_entity false (subscribes_to other)) refl subscription ∙ topic_only topic (declared_at plan.graph subscription) both.1 other)

      by : (b c : Bool) → other == topic ≡ b → is_listed (entities_where is_topic plan.graph) other ≡ c →
          flat_map (brought subscription value) (if is_listed (entities_where is_topic plan.graph) other then entities_where (of_entity false (subscribes_to other)) plan.graph else []) ≡ only_if (other == topic) value
      by true true e f = rw f (each ∙ ap (λ (b : Bool). only_if b value) (eq-eqb topic other (sym (eqb-true other topic e)) ∙ sym e))
      by true false e f = absurd (true≢false (sym (ap (λ (n : EntityNo). is_listed (entities_where is_topic plan.graph) n) (eqb-true other topic e) ∙ both.0) ∙ f))
      by false true e f = rw f (each ∙ ap (λ (b : Bool). only_if b value) (apart (topic == other) refl))
        where
          apart : (b : Bool) → topic == other ≡ b → (topic == other) ≡ (other == topic)
          apart true g = absurd (true≢false (sym (eq-eqb other topic (sym (eqb-true topic other g))) ∙ e))
          apart false g = g ∙ sym e
      by false false e f = rw (f, e) refl

  -- its queue
  pub queue_there : list_any (is_queue subscription kind.Message) (first_world plan).queues ≡ true
  queue_there = queue_stands plan kind.Message refl subscription (takes_messages topic (declared_at plan.graph subscription) both.1)
