-- Each queue of a lawful graph holds one item at least.
use Rattle.std.proofs.Common.{◌≡◌, ℕ, zero, suc, ◌+◌, ◌≤◌, ◌<◌, Bool, true, false, List, [], ◌∷◌, length, map, slice_index_or, refl, sym, ap, subst, ◌∙◌, true≢false, arith}
use Rattle.std.specs.List.{AllByRecursion, filter}
use Rattle.std.proofs.lemmas.Bool.{and_parts}
use Rattle.std.proofs.lemmas.List.Elements.{recursion_from_All}
use Rattle.exec_plan.specs.Entity.{Resolved, queue_depth, is_from_1, is_within}
use Rattle.exec_plan.specs.Graph.{GraphData, EntityData, Waitable, in_group, wait_set, kinds, cons_if, numbers_where, entities_where, has_kind, declared_at}
use Rattle.exec_plan.specs.Lawful.{IsLawful, IsLawfulDeclared}
use Rattle.exec_plan.specs.Plan.{PlanData}
use Rattle.exec_plan.specs.declared.entity.Declared.{Declared}
use Rattle.exec_plan.specs.declared.entity.Declared.TheVariants as declared
use Rattle.exec_plan.specs.declared.entity.EntityOf.TheVariants.{Timer, Subscription, Service, Client, Server, ActionClient}
use Rattle.exec_msg.specs.declared.kind.Kind.{Kind}
use Rattle.exec_msg.specs.declared.kind.Kind.TheVariants as kind
use Rattle.exec_rules.proofs.Pairs.{all_flat, all_mapped}
use Rattle.exec_rules.specs.Transcript.{as_entity, entity_at, takes_from_queue, new_queue, first_world}

-- ---- entities

-- what stands at numbers passes the test, and has a property that all of these have
pub stands : (at : ℕ → Declared) (test : Declared → Bool) (P : Declared → Type 0) (default : EntityData) (number : ℕ) (entities : List EntityData) → ((k : ℕ) → k < length entities → at (number + k) ≡ (slice_index_or entities k default).is) → AllByRecursion (λ entity. P entity.is) entities → AllByRecursion (λ n. (test (at n) ≡ true) × P (at n)) (numbers_where test number entities)
stands at test P default number [] place p = tt
stands at test P default number (entity ∷ entities) place p =
    by (test entity.is) refl
    (stands at test P default (suc number) entities
    (λ k within. let next : suc number + k ≡ number + suc k = omega arith in ap (λ (n : ℕ). at n) next ∙ place (suc k) (omega (arith, within))) p.1)
  where
    here : at number ≡ entity.is
    here = let same : number ≡ number + 0 = omega arith in ap (λ (n : ℕ). at n) same ∙ place 0 (omega arith)

    by : (b : Bool) → test entity.is ≡ b → AllByRecursion (λ n. (test (at n) ≡ true) × P (at n)) (numbers_where test (suc number) entities) → AllByRecursion (λ n. (test (at n) ≡ true) × P (at n)) (cons_if b number (numbers_where test (suc number) entities))
    by true f rest = ((ap (λ (is : Declared). test is) here ∙ f, subst P (sym here) p.0), rest)
    by false f rest = rest

-- ---- depths

from_1 : (most number : ℕ) → is_from_1 most number ≡ true → 1 ≤ number
from_1 most zero e = absurd (true≢false (sym e))
from_1 most (suc number) e = omega arith

-- a timer takes from no queue
no_timer : (of : Kind) (group : ℕ) (period : _) → takes_from_queue of ≡ true → has_kind of (in_group group (Timer period)) ≡ true → ⊥
no_timer kind.Timer group period e f = true≢false (sym e)
no_timer kind.Message group period e f = true≢false (sym f)
no_timer kind.Request group period e f = true≢false (sym f)
no_timer kind.Reply group period e f = true≢false (sym f)
no_timer kind.Goal group period e f = true≢false (sym f)
no_timer kind.Cancel group period e f = true≢false (sym f)
no_timer kind.Ask group period e f = true≢false (sym f)
no_timer kind.Poll group period e f = true≢false (sym e)
no_timer kind.Response group period e f = true≢false (sym f)
no_timer kind.Code group period e f = true≢false (sym f)
no_timer kind.Feedback group period e f = true≢false (sym f)
no_timer kind.Result group period e f = true≢false (sym f)

deep_resolved : (of : Kind) (group : ℕ) (is : Resolved) → takes_from_queue of ≡ true → has_kind of (in_group group is) ≡ true → is_within is ≡ true → 1 ≤ queue_depth is
deep_resolved of group (Timer entity) queued has within = absurd (no_timer of group entity queued has)
deep_resolved of group (Subscription entity) queued has within = from_1 _ entity.depth within
deep_resolved of group (Service entity) queued has within = from_1 _ entity.depth within
deep_resolved of group (Client entity) queued has within = from_1 _ entity.depth within
deep_resolved of group (Server entity) queued has within = from_1 _ entity.depth (and_parts _ _ within).0
deep_resolved of group (ActionClient entity) queued has within = from_1 _ entity.depth within

deep_declared : (graph : GraphData) (of : Kind) (is : Declared) → takes_from_queue of ≡ true → has_kind of is ≡ true → IsLawfulDeclared graph is → 1 ≤ queue_depth (as_entity is).is
deep_declared graph of declared.Topic queued has lawful = absurd (true≢false (sym has))
deep_declared graph of (declared.Entity entity) queued has lawful = deep_resolved of entity.group entity.is queued has lawful.within

-- ---- queues

module _ (plan : PlanData) (lawful : IsLawful plan.graph) where
  abbrev IsDeep : Waitable → Type 0
  IsDeep waitable = takes_from_queue waitable.kind ≡ true → 1 ≤ queue_depth (entity_at plan.graph waitable.entity).is

  waits_deep : (of : Kind) → AllByRecursion IsDeep (map (λ entity. record { kind = of; entity = entity }) (entities_where (has_kind of) plan.graph))
  waits_deep of =
      all_mapped (λ n. (has_kind of (declared_at plan.graph n) ≡ true) × IsLawfulDeclared plan.graph (declared_at plan.graph n)) IsDeep (λ entity. record { kind = of; entity = entity })
      (λ n p queued. deep_declared plan.graph of (declared_at plan.graph n) queued p.0 p.1) (entities_where (has_kind of) plan.graph)
      (stands (declared_at plan.graph) (has_kind of) (IsLawfulDeclared plan.graph) (record { name = []; is = declared.Topic }) 0 plan.graph.entities (λ k within. let same : 0 + k ≡ k = omega arith in ap (λ (n : ℕ). declared_at plan.graph n) same)
      (recursion_from_All (λ entity. IsLawfulDeclared plan.graph entity.is) plan.graph.entities lawful.entities))

  queued_deep : (waitables : List Waitable) → AllByRecursion IsDeep waitables → AllByRecursion (λ waitable. 1 ≤ queue_depth (entity_at plan.graph waitable.entity).is) (filter (λ waitable. takes_from_queue waitable.kind) waitables)
  queued_deep [] p = tt
  queued_deep (waitable ∷ waitables) p = by (takes_from_queue waitable.kind) refl (queued_deep waitables p.1)
    where
      by : (b : Bool) → takes_from_queue waitable.kind ≡ b → AllByRecursion (λ one. 1 ≤ queue_depth (entity_at plan.graph one.entity).is) (filter (λ one. takes_from_queue one.kind) waitables) → AllByRecursion (λ one. 1 ≤ queue_depth (entity_at plan.graph one.entity).is) (filter (λ one. takes_from_queue one.kind) (waitable ∷ waitables))
      by true e rest = rw e (p.0 e, rest)
      by false e rest = rw e rest

  pub deep_first : AllByRecursion (λ queue. 1 ≤ queue.depth) (first_world plan).queues
  deep_first =
      all_mapped (λ waitable. 1 ≤ queue_depth (entity_at plan.graph waitable.entity).is) (λ queue. 1 ≤ queue.depth) (new_queue plan.order plan.graph) (λ waitable p. p) _
      (queued_deep (wait_set plan.graph) (all_flat IsDeep (λ of. map (λ entity. record { kind = of; entity = entity }) (entities_where (has_kind of) plan.graph)) waits_deep kinds))
