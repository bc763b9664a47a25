-- Which queues the first world of a plan has: one for each kind of an entity's callbacks that takes from one.
use Rattle.std.proofs.Common.{◌≡◌, ℕ, zero, suc, ◌+◌, ◌≤◌, Bool, true, false, ◌&&◌, ◌||◌, ◌==◌, List, [], ◌∷◌, map, slice_index_or, refl, sym, ap, subst, ◌∙◌, true≢false, arith}
use Rattle.std.specs.List.{AllByRecursion, filter, flat_map, list_any}
use Rattle.std.proofs.lemmas.Bool.{eqb-true, eq-eqb}
use Rattle.std.proofs.lemmas.List.Folds.{list_any-append}
use Rattle.exec_msg.specs.Numbers.{EntityNo}
use Rattle.exec_plan.specs.Graph.{GraphData, EntityData, Waitable, declared_at, wait_set, kinds, cons_if, numbers_where, entities_where, has_kind}
use Rattle.exec_plan.specs.Plan.{PlanData}
use Rattle.exec_plan.specs.declared.entity.Declared.{Declared}
use Rattle.exec_plan.specs.declared.entity.Declared.TheVariants as declared
use Rattle.exec_msg.specs.Kind.{ready_number}
use Rattle.exec_msg.specs.declared.kind.Kind.{Kind}
use Rattle.exec_msg.specs.declared.kind.Kind.TheVariants as kind
use Rattle.exec_rules.proofs.OfKinds.{same_kind}
use Rattle.exec_rules.proofs.Wiring.{above, is_listed, or_more, waits_of}
use Rattle.exec_rules.specs.Shape.{queue_shape, shape_of}
use Rattle.exec_rules.specs.Transcript.{first_world, new_queue, takes_from_queue}
use Rattle.exec_rules.specs.World.{WorldState, Queue, is_queue}

-- ---- numbers

-- whether a number is among those that pass a test: what stands at it does, where nothing else does
unlisted : (all : List EntityNo) (n : ℕ) → AllByRecursion (λ one. suc n ≤ one) all → is_listed all n ≡ false
unlisted [] n p = refl
unlisted (one ∷ all) n p = by (one == n) refl (unlisted all n p.1)
  where
    by : (b : Bool) → one == n ≡ b → is_listed all n ≡ false → is_listed (one ∷ all) n ≡ false
    by true e rest = let same : one ≡ n = eqb-true one n e in let higher = p.0 in absurd (omega (arith, same, higher))
    by false e rest = rw e rest

listed_at : (test : Declared → Bool) (other : EntityData) → test other.is ≡ false → (number k : ℕ) (entities : List EntityData) → is_listed (numbers_where test number entities) (number + k) ≡ test (slice_index_or entities k other).is
listed_at test other none number k [] = sym none
listed_at test other none number zero (entity ∷ entities) = by (test entity.is) refl
  where
    here : number == number + 0 ≡ true
    here = eq-eqb number (number + 0) (omega arith)

    later : is_listed (numbers_where test (suc number) entities) (number + 0) ≡ false
    later = let e : number ≡ number + 0 = omega arith in subst (λ (n : ℕ). is_listed (numbers_where test (suc number) entities) n ≡ false) e (unlisted _ number (above test (suc number) entities))

    by : (b : Bool) → test entity.is ≡ b → is_listed (cons_if (test entity.is) number (numbers_where test (suc number) entities)) (number + 0) ≡ test entity.is
    by true e = rw (e, here) refl
    by false e = rw e later
listed_at test other none number (suc k) (entity ∷ entities) = by (test entity.is) refl (listed_at test other none (suc number) k entities)
  where
    moved : is_listed (numbers_where test (suc number) entities) (suc number + k) ≡ test (slice_index_or entities k other).is → is_listed (numbers_where test (suc number) entities) (number + suc k) ≡ test (slice_index_or entities k other).is
    moved rest = let e : suc number + k ≡ number + suc k = omega arith in subst (λ (n : ℕ). is_listed (numbers_where test (suc number) entities) n ≡ test (slice_index_or entities k other).is) e rest

    apart : (b : Bool) → number == number + suc k ≡ b → number == number + suc k ≡ false
    apart true e = let same : number ≡ number + suc k = eqb-true number (number + suc k) e in absurd (omega (arith, same))
    apart false e = e

    by : (b : Bool) → test entity.is ≡ b → is_listed (numbers_where test (suc number) entities) (suc number + k) ≡ test (slice_index_or entities k other).is → is_listed (cons_if (test entity.is) number (numbers_where test (suc number) entities)) (number + suc k) ≡ test (slice_index_or entities k other).is
    by true e rest = rw (e, apart (number == number + suc k) refl) (moved rest)
    by false e rest = rw e (moved rest)

pub is_declared : (graph : GraphData) (test : Declared → Bool) → test declared.Topic ≡ false → (number : EntityNo) → is_listed (entities_where test graph) number ≡ test (declared_at graph number)
is_declared graph test none number =
    let e : 0 + number ≡ number = omega arith in
    subst (λ (n : ℕ). is_listed (entities_where test graph) n ≡ test (declared_at graph number)) e (listed_at test (record { name = []; is = declared.Topic }) none 0 number graph.entities)

-- ---- the wait set

any_flat : {A B : Type 0} (test : B → Bool) (f : A → List B) (all : List A) → list_any test (flat_map f all) ≡ list_any (λ one. list_any test (f one)) all
any_flat test f [] = refl
any_flat test f (one ∷ all) = list_any-append test (f one) (flat_map f all) ∙ ap (λ (b : Bool). list_any test (f one) || b) (any_flat test f all)

-- each kind is one of all
among_kinds : (of : Kind) → list_any (λ one. ready_number one == ready_number of) kinds ≡ true
among_kinds kind.Timer = refl
among_kinds kind.Message = refl
among_kinds kind.Request = refl
among_kinds kind.Reply = refl
among_kinds kind.Goal = refl
among_kinds kind.Cancel = refl
among_kinds kind.Ask = refl
among_kinds kind.Poll = refl
among_kinds kind.Response = refl
among_kinds kind.Code = refl
among_kinds kind.Feedback = refl
among_kinds kind.Result = refl

any_kind : (of : Kind) (test : Kind → Bool) → test of ≡ true → (some : List Kind) → list_any (λ one. ready_number one == ready_number of) some ≡ true → list_any test some ≡ true
any_kind of test passes [] e = e
any_kind of test passes (one ∷ some) e = by (ready_number one == ready_number of) refl (any_kind of test passes some)
  where
    by : (b : Bool) → ready_number one == ready_number of ≡ b → (list_any (λ other. ready_number other == ready_number of) some ≡ true → list_any test some ≡ true) → list_any test (one ∷ some) ≡ true
    by true f rest = ap (λ (b : Bool). b || list_any test some) (ap (λ (k : Kind). test k) (same_kind one of (eqb-true (ready_number one) (ready_number of) f)) ∙ passes)
    by false f rest = let there : list_any (λ other. ready_number other == ready_number of) some ≡ true = rw f at e in ap (λ (b : Bool). test one || b) (rest there) ∙ or_more (test one)

module _ (plan : PlanData) (of : Kind) (queued : takes_from_queue of ≡ true) (entity : EntityNo) (has : has_kind of (declared_at plan.graph entity) ≡ true) where
  abbrev waits_here : Waitable → Bool
  waits_here waitable = (waitable.entity == entity) && (ready_number waitable.kind == ready_number of)

  queues_there : (waitables : List Waitable) → list_any waits_here waitables ≡ true → list_any (is_queue entity of) (map (new_queue plan.order plan.graph) (filter (λ waitable. takes_from_queue waitable.kind) waitables)) ≡ true
  queues_there [] e = e
  queues_there (waitable ∷ waitables) e = by (takes_from_queue waitable.kind) (waits_here waitable) refl refl (queues_there waitables)
    where
      by : (b c : Bool) → takes_from_queue waitable.kind ≡ b → waits_here waitable ≡ c →
          (list_any waits_here waitables ≡ true → list_any (is_queue entity of) (map (new_queue plan.order plan.graph) (filter (λ one. takes_from_queue one.kind) waitables)) ≡ true) → list_any (is_queue entity of) (map (new_queue plan.order plan.graph) (filter (λ one. takes_from_queue one.kind) (waitable ∷ waitables))) ≡ true
      by true true f g rest = rw (f, g) refl
      by true false f g rest = let there : list_any waits_here waitables ≡ true = rw g at e in rw (f, g) (rest there)
      by false c f g rest = let there : list_any waits_here waitables ≡ true = rw (nothing (ready_number waitable.kind == ready_number of) refl) at e in rw f (rest there)
        where
          no : (b : Bool) → b && false ≡ false
          no true = refl
          no false = refl

          nothing : (b : Bool) → ready_number waitable.kind == ready_number of ≡ b → waits_here waitable ≡ false
          nothing true h = absurd (true≢false (sym queued ∙ ap (λ (k : Kind). takes_from_queue k) (sym (same_kind waitable.kind of (eqb-true (ready_number waitable.kind) (ready_number of) h))) ∙ f))
          nothing false h = ap (λ (b : Bool). (waitable.entity == entity) && b) h ∙ no (waitable.entity == entity)

  here_waits : (numbers : List EntityNo) → list_any waits_here (map (λ one. record { kind = of; entity = one }) numbers) ≡ is_listed numbers entity
  here_waits [] = refl
  here_waits (number ∷ numbers) = by (number == entity) refl (here_waits numbers)
    where
      same : ready_number of == ready_number of ≡ true
      same = eq-eqb (ready_number of) (ready_number of) refl

      by : (b : Bool) → number == entity ≡ b → list_any waits_here (map (λ one. record { kind = of; entity = one }) numbers) ≡ is_listed numbers entity →
          list_any waits_here (map (λ one. record { kind = of; entity = one }) (number ∷ numbers)) ≡ is_listed (number ∷ numbers) entity
      by true e rest = rw (e, same) refl
      by false e rest = rw e rest

  pub queue_stands : list_any (is_queue entity of) (first_world plan).queues ≡ true
  queue_stands =
      queues_there (wait_set plan.graph)
      (any_flat waits_here (waits_of plan.graph) kinds
      ∙ any_kind of (λ one. list_any waits_here (waits_of plan.graph one)) (here_waits (entities_where (has_kind of) plan.graph) ∙ is_declared plan.graph (has_kind of) refl entity ∙ has) kinds (among_kinds of))

-- ---- worlds

-- whether a world has a queue of a kind is said by its shape
pub has_queue : (entity : EntityNo) (of : Kind) (world first : WorldState) → shape_of world ≡ shape_of first → list_any (is_queue entity of) world.queues ≡ list_any (is_queue entity of) first.queues
has_queue entity of world first same = sym (shaped world.queues) ∙ ap (λ (shape : WorldState). list_any (is_queue entity of) shape.queues) same ∙ shaped first.queues
  where
    shaped : (queues : List Queue) → list_any (is_queue entity of) (map queue_shape queues) ≡ list_any (is_queue entity of) queues
    shaped [] = refl
    shaped (queue ∷ queues) = by (is_queue entity of queue) refl (shaped queues)
      where
        by : (b : Bool) → is_queue entity of queue ≡ b → list_any (is_queue entity of) (map queue_shape queues) ≡ list_any (is_queue entity of) queues → list_any (is_queue entity of) (map queue_shape (queue ∷ queues)) ≡ list_any (is_queue entity of) (queue ∷ queues)
        by true e rest = rw e refl
        by false e rest = rw e rest
