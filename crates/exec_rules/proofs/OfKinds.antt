-- Each queue holds items of its kind alone.
use Rattle.std.proofs.Common.{◌≡◌, ℕ, zero, suc, ◌-◌, Bool, true, false, ◌==◌, List, [], ◌∷◌, ◌++◌, length, map, take, get_or, refl, sym, ap, ◌∙◌}
use Rattle.std.specs.List.{All, AllByRecursion, filter, find}
use Rattle.std.specs.Option.{option_map_or}
use Rattle.std.proofs.lemmas.Bool.{and_parts, eqb-true}
use Rattle.std.proofs.lemmas.List.Elements.{All-nil, All-push, All-drop, All-from_recursion, recursion_from_All}
use Rattle.exec_msg.specs.Numbers.{EntityNo, Moment}
use Rattle.exec_plan.specs.Graph.{GraphData, Waitable, wait_set, kinds}
use Rattle.exec_plan.specs.Plan.{PlanData}
use Rattle.exec_plan.specs.declared.order.Order.{Order}
use Rattle.exec_msg.specs.KeepLast.{displaced}
use Rattle.exec_msg.specs.Kind.{ready_number}
use Rattle.exec_msg.specs.declared.kind.Kind.{Kind}
use Rattle.exec_msg.specs.declared.kind.Kind.TheVariants as kind
use Rattle.exec_msg.specs.Lists.{change_first}
use Rattle.exec_rules.proofs.Pairs.{all_append, all_weaker}
use Rattle.exec_rules.proofs.Running.{KeptByRounds, rounds_keep}
use Rattle.exec_rules.specs.Item.{taker_of}
use Rattle.exec_rules.specs.Ready.{queue_taken}
use Rattle.exec_rules.specs.Transcript.{takes_from_queue, new_queue, first_world, rounds}
use Rattle.exec_rules.specs.World.{WorldState, Queue, is_queue, next_arrival, queue_after}
use Rattle.exec_rules.specs.declared.item.Item.{Item}

kind_back : (one : Kind) → get_or kinds (ready_number one - 1) kind.Timer ≡ one
kind_back kind.Timer = refl
kind_back kind.Message = refl
kind_back kind.Request = refl
kind_back kind.Reply = refl
kind_back kind.Goal = refl
kind_back kind.Cancel = refl
kind_back kind.Ask = refl
kind_back kind.Poll = refl
kind_back kind.Response = refl
kind_back kind.Code = refl
kind_back kind.Feedback = refl
kind_back kind.Result = refl

-- no two kinds have one number
pub same_kind : (one other : Kind) → ready_number one ≡ ready_number other → one ≡ other
same_kind one other e = sym (kind_back one) ∙ ap (λ (n : ℕ). get_or kinds (n - 1) kind.Timer) e ∙ kind_back other

-- a queue holds items of its kind
abbrev pub IsOfItsKind : Queue → Type 0
IsOfItsKind queue = All (λ one. taker_of one ≡ queue.kind) queue.items

kinds_after : (entity : EntityNo) (number : ℕ) (new : Item) (queues : List Queue) → AllByRecursion IsOfItsKind queues → AllByRecursion IsOfItsKind (change_first (is_queue entity (taker_of new)) (queue_after number new) queues)
kinds_after entity number new [] p = tt
kinds_after entity number new (queue ∷ queues) p = by (is_queue entity (taker_of new) queue) refl (kinds_after entity number new queues p.1)
  where
    by : (b : Bool) → is_queue entity (taker_of new) queue ≡ b → AllByRecursion IsOfItsKind (change_first (is_queue entity (taker_of new)) (queue_after number new) queues) → AllByRecursion IsOfItsKind (change_first (is_queue entity (taker_of new)) (queue_after number new) (queue ∷ queues))
    by true e rest =
        let same : taker_of new ≡ queue.kind = sym (same_kind queue.kind (taker_of new) (eqb-true (ready_number queue.kind) (ready_number (taker_of new)) (and_parts (queue.handler.entity == entity) (ready_number queue.kind == ready_number (taker_of new)) e).1)) in
        rw e (All-drop (λ one. taker_of one ≡ queue.kind) (length (queue.items ++ new ∷ []) - queue.depth) (queue.items ++ new ∷ []) (All-push (λ one. taker_of one ≡ queue.kind) queue.items new p.0 same), p.1)
    by false e rest = rw e (p.0, rest)

kinds_taken : (queues : List Queue) → AllByRecursion IsOfItsKind queues → AllByRecursion IsOfItsKind (map queue_taken queues)
kinds_taken [] p = tt
kinds_taken (queue ∷ queues) p = (All-drop (λ one. taker_of one ≡ queue.kind) 1 queue.items p.0, kinds_taken queues p.1)

pub kinds_first : (under : Order) (graph : GraphData) (waitables : List Waitable) → AllByRecursion IsOfItsKind (map (new_queue under graph) waitables)
kinds_first under graph [] = tt
kinds_first under graph (waitable ∷ waitables) = (All-nil (λ one. taker_of one ≡ waitable.kind), kinds_first under graph waitables)

-- all queues of a world do
abbrev pub AreOfTheirKinds : WorldState → Type 0
AreOfTheirKinds world = AllByRecursion IsOfItsKind world.queues

pub kinds_kept : KeptByRounds AreOfTheirKinds
kinds_kept = record {
  basic = record {
    lines_kept = λ lines world p. p;
    queues_kept = λ entity new world p. kinds_after entity (next_arrival world) new world.queues p;
    goals_kept = λ server change world same p. p;
    tasks_kept = λ server id task world p. p;
    arrivals_kept = λ server id world p. p;
    calls_kept = λ client world p. p;
    sending_kept = λ client world p. p;
    variables_kept = λ group variables world p. p;
  };
  accepts_kept = λ server moment how request world room p. p;
  expiry_kept = λ moment world p. p;
  snapshot_kept = λ moment world p. kinds_taken world.queues p;
}

pub queues_of_kinds : (plan : PlanData) (number : ℕ) (moments : List Moment) → All (λ queue. All (λ one. taker_of one ≡ queue.kind) queue.items) (rounds plan number moments (first_world plan)).queues
queues_of_kinds plan number moments =
    All-from_recursion IsOfItsKind _ (rounds_keep kinds_kept plan number moments (first_world plan) (kinds_first plan.order plan.graph (filter (λ waitable. takes_from_queue waitable.kind) (wait_set plan.graph))))

-- ---- what is displaced

all_taken : {A : Type 0} (P : A → Type 0) (many : ℕ) (all : List A) → AllByRecursion P all → AllByRecursion P (take many all)
all_taken P zero all p = tt
all_taken P (suc many) [] p = tt
all_taken P (suc many) (one ∷ all) p = (p.0, all_taken P many all p.1)

-- what an item displaces is of its kind
pub lost_of_kind : (entity : EntityNo) (new : Item) (queues : List Queue) → AllByRecursion IsOfItsKind queues → AllByRecursion (λ one. taker_of one ≡ taker_of new) (option_map_or (λ queue. displaced queue.depth new queue.items) (find (is_queue entity (taker_of new)) queues) [])
lost_of_kind entity new [] p = tt
lost_of_kind entity new (queue ∷ queues) p = by (is_queue entity (taker_of new) queue) refl (lost_of_kind entity new queues p.1)
  where
    by : (b : Bool) → is_queue entity (taker_of new) queue ≡ b → AllByRecursion (λ one. taker_of one ≡ taker_of new) (option_map_or (λ one. displaced one.depth new one.items) (find (is_queue entity (taker_of new)) queues) []) →
        AllByRecursion (λ one. taker_of one ≡ taker_of new) (option_map_or (λ one. displaced one.depth new one.items) (find (is_queue entity (taker_of new)) (queue ∷ queues)) [])
    by true e rest =
        let same : queue.kind ≡ taker_of new = same_kind queue.kind (taker_of new) (eqb-true (ready_number queue.kind) (ready_number (taker_of new)) (and_parts (queue.handler.entity == entity) (ready_number queue.kind == ready_number (taker_of new)) e).1) in
        rw e (all_taken (λ one. taker_of one ≡ taker_of new) _ (queue.items ++ new ∷ [])
        (all_append (λ one. taker_of one ≡ taker_of new) queue.items (new ∷ [])
        (all_weaker (λ one. taker_of one ≡ queue.kind) (λ one. taker_of one ≡ taker_of new) (λ one is. is ∙ same) queue.items (recursion_from_All (λ one. taker_of one ≡ queue.kind) queue.items p.0))
        (refl, tt)))
    by false e rest = rw e rest
