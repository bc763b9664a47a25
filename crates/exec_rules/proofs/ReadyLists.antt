-- What a ready list has: at most one callback of each kind but poll for each entity.
use Rattle.std.proofs.Common.{◌≡◌, ◌≢◌, ℕ, suc, ◌≤◌, Bool, true, false, ◌==◌, List, [], ◌∷◌, ◌++◌, length, refl, sym, ap, ◌∙◌, arith}
use Rattle.std.specs.List.{AllByRecursion, filter, flat_map}
use Rattle.std.proofs.lemmas.Bool.{eqb-true, and_parts}
use Rattle.std.proofs.lemmas.List.Elements.{recursion_from_All}
use Rattle.exec_msg.specs.Numbers.{EntityNo, Moment}
use Rattle.exec_plan.specs.Graph.{GraphData, wait_set, entities_where, is_server}
use Rattle.exec_plan.specs.Plan.{PlanData}
use Rattle.exec_msg.specs.Kind.{ready_number}
use Rattle.exec_msg.specs.Timer.{is_due}
use Rattle.exec_msg.specs.declared.kind.Kind.{Kind}
use Rattle.exec_msg.specs.declared.kind.Kind.TheVariants as kind
use Rattle.exec_rules.proofs.OfKinds.{IsOfItsKind, AreOfTheirKinds, kinds_kept, kinds_first, same_kind}
use Rattle.exec_rules.proofs.Pairs.{all_append, all_both, all_flat, all_flat_where, all_map, all_weaker, Pairs, pairs_all, pairs_append, pairs_flat, pairs_with}
use Rattle.exec_rules.proofs.Sorting.{all_sorted, pairs_sorted}
use Rattle.exec_rules.proofs.Running.{snapshot_keeps, rounds_keep}
use Rattle.exec_rules.proofs.Shapes.{shape_kept}
use Rattle.exec_rules.proofs.Wiring.{NumbersApart, QueuesApart, TakesGoals, TakesListed, IsWired, is_listed, wired}
use Rattle.exec_rules.specs.Item.{taker_of}
use Rattle.exec_rules.specs.Ready.{is_callback_of}
use Rattle.exec_rules.specs.Shape.{shape_of}
use Rattle.exec_rules.specs.Sorting.{sorted_by}
use Rattle.exec_rules.specs.Ready.{all_ready, kind_of, due_ready, item_ready, queue_ready, poll_ready, placed_from, rank_under, ready_list}
use Rattle.exec_rules.specs.Transcript.{takes_from_queue, first_world, at_snapshot, rounds}
use Rattle.exec_rules.specs.World.{WorldState, TimerEntry, Queue, ServerEntry, goals_at}
use Rattle.exec_rules.specs.declared.item.Item.{Item}
use Rattle.exec_rules.specs.declared.item.Item.TheVariants as item
use Rattle.exec_rules.specs.declared.ready.Ready.{Ready}

-- ---- callbacks of timers, of queues and of polls

-- a callback is of this entity and kind
abbrev pub IsOf : EntityNo → Kind → Ready → Type 0
IsOf entity of one = (kind_of one.cause ≡ of) × (one.entity ≡ entity)

pub due_of : (moment : Moment) (entry : TimerEntry) → AllByRecursion (IsOf entry.handler.entity kind.Timer) (due_ready moment entry)
due_of moment entry = by (is_due entry.timer moment) refl
  where
    by : (b : Bool) → is_due entry.timer moment ≡ b → AllByRecursion (IsOf entry.handler.entity kind.Timer) (due_ready moment entry)
    by true e = rw e ((refl, refl), tt)
    by false e = rw e tt

pub poll_of : (moment : Moment) (entry : ServerEntry) → AllByRecursion (IsOf entry.handler.entity kind.Poll) (poll_ready moment entry)
poll_of moment entry = all_map (IsOf entry.handler.entity kind.Poll) _ (λ goal. (refl, refl)) _

module _ (moment : Moment) (world : WorldState) where
  -- what takes from a queue of items of its kind has a property that each such callback has
  queue_has : (P : Ready → Type 0) (queue : Queue) → ((one : Ready) (taken : Item) → taker_of taken ≡ queue.kind → IsOf queue.handler.entity (taker_of taken) one → P one) → IsOfItsKind queue → AllByRecursion P (queue_ready moment world queue)
  queue_has P queue has p = by queue.items (recursion_from_All (λ one. taker_of one ≡ queue.kind) queue.items p)
    where
      by : (items : List Item) → AllByRecursion (λ one. taker_of one ≡ queue.kind) items → AllByRecursion P (item_ready moment queue.handler (goals_at queue.handler.entity world) items)
      by [] q = tt
      by (first ∷ items) q = (has _ first q.0 (refl, refl), tt)

  pub queue_of : (queue : Queue) → IsOfItsKind queue → AllByRecursion (IsOf queue.handler.entity queue.kind) (queue_ready moment world queue)
  queue_of queue p = queue_has (IsOf queue.handler.entity queue.kind) queue (λ one taken same is. (is.0 ∙ same, is.1)) p

-- what takes an item is of no timer, and no poll
abbrev TakesItem : Ready → Type 0
TakesItem one = (kind_of one.cause ≢ kind.Timer) × (kind_of one.cause ≢ kind.Poll)

takes_item : (taken : Item) → (taker_of taken ≢ kind.Timer) × (taker_of taken ≢ kind.Poll)
takes_item (item.Message value) = ((λ e. cc), (λ e. cc))
takes_item (item.Request client number value) = ((λ e. cc), (λ e. cc))
takes_item (item.Reply number value) = ((λ e. cc), (λ e. cc))
takes_item (item.Goal id client value) = ((λ e. cc), (λ e. cc))
takes_item (item.Cancel request client) = ((λ e. cc), (λ e. cc))
takes_item (item.Ask id client) = ((λ e. cc), (λ e. cc))
takes_item (item.Response id accepted) = ((λ e. cc), (λ e. cc))
takes_item (item.Code returned moved) = ((λ e. cc), (λ e. cc))
takes_item (item.Feedback id value) = ((λ e. cc), (λ e. cc))
takes_item (item.Result id status value) = ((λ e. cc), (λ e. cc))

queue_takes : (moment : Moment) (world : WorldState) (queue : Queue) → AllByRecursion TakesItem (queue_ready moment world queue)
queue_takes moment world queue = by queue.items
  where
    by : (items : List Item) → AllByRecursion TakesItem (item_ready moment queue.handler (goals_at queue.handler.entity world) items)
    by [] = tt
    by (first ∷ items) = (takes_item first, tt)

-- ---- two callbacks

-- two callbacks aren't of one entity and both of this kind
abbrev pub Apart : Kind → Ready → Ready → Type 0
Apart of one other = kind_of one.cause ≡ of → kind_of other.cause ≡ of → other.entity ≡ one.entity → ⊥

-- callbacks of two entities, or of two kinds
module _ (of : Kind) (some more : List Ready) where
  apart_by_entity : (one other : EntityNo) (at of_other : Kind) → (of_other ≡ at → other ≡ one → ⊥) → AllByRecursion (IsOf one at) some → AllByRecursion (IsOf other of_other) more → AllByRecursion (λ x. AllByRecursion (Apart of x) more) some
  apart_by_entity one other at of_other apart p q =
      all_weaker (IsOf one at) (λ x. AllByRecursion (Apart of x) more)
      (λ x is. all_weaker (IsOf other of_other) (Apart of x) (λ y too a b same. apart (sym too.0 ∙ b ∙ sym a ∙ is.0) (sym too.1 ∙ same ∙ is.1)) more q) some p

  -- callbacks of a kind, and others that aren't
  apart_by_kind : (at : Kind) → AllByRecursion (λ x. kind_of x.cause ≡ at) some → AllByRecursion (λ y. kind_of y.cause ≢ at) more → AllByRecursion (λ x. AllByRecursion (Apart of x) more) some
  apart_by_kind at p q =
      all_weaker (λ x. kind_of x.cause ≡ at) (λ x. AllByRecursion (Apart of x) more)
      (λ x is. all_weaker (λ y. kind_of y.cause ≢ at) (Apart of x) (λ y isnt a b same. isnt (b ∙ sym a ∙ is)) more q) some p

  apart_from_kind : (at : Kind) → AllByRecursion (λ x. kind_of x.cause ≢ at) some → AllByRecursion (λ y. kind_of y.cause ≡ at) more → AllByRecursion (λ x. AllByRecursion (Apart of x) more) some
  apart_from_kind at p q =
      all_weaker (λ x. kind_of x.cause ≢ at) (λ x. AllByRecursion (Apart of x) more)
      (λ x isnt. all_weaker (λ y. kind_of y.cause ≡ at) (Apart of x) (λ y is a b same. isnt (a ∙ sym b ∙ is)) more q) some p

module _ (of : Kind) (moment : Moment) (world : WorldState) where
  due_apart : (entry : TimerEntry) → Pairs (Apart of) (due_ready moment entry)
  due_apart entry = by (is_due entry.timer moment) refl
    where
      by : (b : Bool) → is_due entry.timer moment ≡ b → Pairs (Apart of) (due_ready moment entry)
      by true e = rw e (tt, tt)
      by false e = rw e tt

  queue_apart : (queue : Queue) → Pairs (Apart of) (queue_ready moment world queue)
  queue_apart queue = by queue.items
    where
      by : (items : List Item) → Pairs (Apart of) (item_ready moment queue.handler (goals_at queue.handler.entity world) items)
      by [] = tt
      by (first ∷ items) = (tt, tt)

  timers_apart : (graph : GraphData) → IsWired graph world → Pairs (Apart of) (flat_map (due_ready moment) world.timers)
  timers_apart graph wires =
      pairs_flat (λ one other. NumbersApart one.handler.entity other.handler.entity) (Apart of) (due_ready moment) due_apart
      (λ one other apart. apart_by_entity of (due_ready moment one) (due_ready moment other) one.handler.entity other.handler.entity kind.Timer kind.Timer (λ same e. apart e) (due_of moment one) (due_of moment other))
      world.timers wires.timers

  queues_apart : (graph : GraphData) → IsWired graph world → AreOfTheirKinds world → Pairs (Apart of) (flat_map (queue_ready moment world) world.queues)
  queues_apart graph wires p =
      pairs_flat (λ one other. IsOfItsKind one × (IsOfItsKind other × QueuesApart one other)) (Apart of) (queue_ready moment world) queue_apart
      (λ one other q. apart_by_entity of (queue_ready moment world one) (queue_ready moment world other) one.handler.entity other.handler.entity one.kind other.kind q.1.1 (queue_of moment world one q.0) (queue_of moment world other q.1.0))
      world.queues (pairs_with IsOfItsKind QueuesApart world.queues p wires.queues)

-- ---- the whole list

pub all_placed : (P : Ready → Type 0) → ((position : ℕ) (one : Ready) → P one → P (record one { position = position })) → (position : ℕ) (list : List Ready) → AllByRecursion P list → AllByRecursion P (placed_from position list)
all_placed P moved position [] p = tt
all_placed P moved position (one ∷ list) p = (moved position one p.0, all_placed P moved (suc position) list p.1)

-- what holds of the callbacks of timers, of those that take from queues, and of polls, holds of all that are listed
pub all_listed : (P : Ready → Type 0) → ((position : ℕ) (one : Ready) → P one → P (record one { position = position })) → (moment : Moment) (world : WorldState) →
    AllByRecursion P (flat_map (due_ready moment) world.timers) → AllByRecursion P (flat_map (queue_ready moment world) world.queues) → AllByRecursion P (flat_map (poll_ready moment) world.servers) →
    AllByRecursion P (ready_list moment world)
all_listed P moved moment world due taken polled =
    let timers : List Ready = flat_map (due_ready moment) world.timers in
    let took : List Ready = flat_map (queue_ready moment world) world.queues in
    let polls : List Ready = flat_map (poll_ready moment) world.servers in
    all_placed P moved 1 (sorted_by (rank_under world.order world) (timers ++ took ++ polls))
    (all_sorted P (rank_under world.order world) (timers ++ took ++ polls) (all_append P (timers ++ took) polls (all_append P timers took due taken) polled))

pairs_placed : (of : Kind) (position : ℕ) (list : List Ready) → Pairs (Apart of) list → Pairs (Apart of) (placed_from position list)
pairs_placed of position [] p = tt
pairs_placed of position (one ∷ list) p = (all_placed (Apart of one) (λ place other q. q) (suc position) list p.0, pairs_placed of (suc position) list p.1)

-- no two callbacks of a kind but poll are of one entity
pub ready_apart : (of : Kind) → of ≢ kind.Poll → (graph : GraphData) (moment : Moment) (world : WorldState) → IsWired graph world → AreOfTheirKinds world → Pairs (Apart of) (all_ready moment world)
ready_apart of other graph moment world wires p =
    let timers : List Ready = flat_map (due_ready moment) world.timers in
    let took : List Ready = flat_map (queue_ready moment world) world.queues in
    let polls : List Ready = flat_map (poll_ready moment) world.servers in
    let are_timers : AllByRecursion (λ one. kind_of one.cause ≡ kind.Timer) timers = all_flat _ (due_ready moment) (λ entry. all_weaker (IsOf entry.handler.entity kind.Timer) _ (λ one is. is.0) _ (due_of moment entry)) world.timers in
    let take : AllByRecursion TakesItem took = all_flat TakesItem (queue_ready moment world) (queue_takes moment world) world.queues in
    let are_polls : AllByRecursion (λ one. kind_of one.cause ≡ kind.Poll) polls = all_flat _ (poll_ready moment) (λ entry. all_weaker (IsOf entry.handler.entity kind.Poll) _ (λ one is. is.0) _ (poll_of moment entry)) world.servers in
    let no_polls : AllByRecursion (λ one. kind_of one.cause ≢ kind.Poll) (timers ++ took) =
    all_append _ timers took (all_weaker (λ one. kind_of one.cause ≡ kind.Timer) (λ one. kind_of one.cause ≢ kind.Poll) (λ one is e. timers_poll_none (sym is ∙ e)) timers are_timers) (all_weaker TakesItem (λ one. kind_of one.cause ≢ kind.Poll) (λ one t. t.1) took take) in
    pairs_append (Apart of) (timers ++ took) polls
    (pairs_append (Apart of) timers took (timers_apart of moment world graph wires) (queues_apart of moment world graph wires p)
    (apart_by_kind of timers took kind.Timer are_timers (all_weaker TakesItem (λ one. kind_of one.cause ≢ kind.Timer) (λ one t. t.0) took take)))
    (pairs_all (λ one. kind_of one.cause ≡ kind.Poll) (Apart of) (λ x y is too a b same. other (sym a ∙ is)) polls are_polls)
    (apart_from_kind of (timers ++ took) polls kind.Poll no_polls are_polls)
  where
    timers_poll_none : kind.Timer ≡ kind.Poll → ⊥
    timers_poll_none e = cc

-- nor in the list
pub list_apart : (of : Kind) → of ≢ kind.Poll → (graph : GraphData) (moment : Moment) (world : WorldState) → IsWired graph world → AreOfTheirKinds world → Pairs (Apart of) (ready_list moment world)
list_apart of other graph moment world wires p =
    pairs_placed of 1 (sorted_by (rank_under world.order world) (all_ready moment world))
    (pairs_sorted (Apart of) (rank_under world.order world) (all_ready moment world) (λ one two apart a b same. apart b a (sym same)) (ready_apart of other graph moment world wires p))

-- what takes a goal request is a server's
abbrev pub IsListed : GraphData → Ready → Type 0
IsListed graph one = TakesGoals (entities_where is_server graph) (kind_of one.cause) one.entity

queues_listed : (graph : GraphData) (moment : Moment) (world : WorldState) → IsWired graph world → AreOfTheirKinds world → AllByRecursion (IsListed graph) (flat_map (queue_ready moment world) world.queues)
queues_listed graph moment world wires p =
    all_flat_where (λ queue. TakesListed graph queue × IsOfItsKind queue) (IsListed graph) (queue_ready moment world)
    (λ queue q. queue_has moment world (IsListed graph) queue (λ one taken same is goal. ap (λ (at : EntityNo). is_listed (entities_where is_server graph) at) is.1 ∙ q.0 (sym same ∙ sym is.0 ∙ goal)) q.1) world.queues
    (all_both (TakesListed graph) IsOfItsKind _ (λ queue takes q. (takes, q)) world.queues wires.takes_goals p)

pub list_listed : (graph : GraphData) (moment : Moment) (world : WorldState) → IsWired graph world → AreOfTheirKinds world → AllByRecursion (IsListed graph) (ready_list moment world)
list_listed graph moment world wires p =
    all_listed (IsListed graph) (λ place one q. q) moment world
    (all_flat (IsListed graph) (due_ready moment) (λ entry. all_weaker (IsOf entry.handler.entity kind.Timer) (IsListed graph) (λ one is goal. absurd (not_goal_timer (sym is.0 ∙ goal))) _ (due_of moment entry)) world.timers)
    (queues_listed graph moment world wires p)
    (all_flat (IsListed graph) (poll_ready moment) (λ entry. all_weaker (IsOf entry.handler.entity kind.Poll) (IsListed graph) (λ one is goal. absurd (not_goal_poll (sym is.0 ∙ goal))) _ (poll_of moment entry)) world.servers)
  where
    not_goal_timer : kind.Timer ≡ kind.Goal → ⊥
    not_goal_timer e = absurd cc

    not_goal_poll : kind.Poll ≡ kind.Goal → ⊥
    not_goal_poll e = absurd cc

-- so at most one passes the test
pub is_callback : (entity : EntityNo) (of : Kind) (one : Ready) → is_callback_of entity of one ≡ true → (kind_of one.cause ≡ of) × (one.entity ≡ entity)
is_callback entity of one is =
    let parts = and_parts (one.entity == entity) (ready_number (kind_of one.cause) == ready_number of) is in
    (same_kind (kind_of one.cause) of (eqb-true (ready_number (kind_of one.cause)) (ready_number of) parts.1), eqb-true one.entity entity parts.0)

none_more : (entity : EntityNo) (of : Kind) (one : Ready) (rest : List Ready) → is_callback_of entity of one ≡ true → AllByRecursion (Apart of one) rest → filter (is_callback_of entity of) rest ≡ []
none_more entity of one [] is apart = refl
none_more entity of one (other ∷ rest) is apart = by (is_callback_of entity of other) refl (none_more entity of one rest is apart.1)
  where
    by : (b : Bool) → is_callback_of entity of other ≡ b → filter (is_callback_of entity of) rest ≡ [] → filter (is_callback_of entity of) (other ∷ rest) ≡ []
    by true too e =
        let a = is_callback entity of one is in
        let b = is_callback entity of other too in
        absurd (apart.0 a.0 b.0 (b.1 ∙ sym a.1))
    by false not_too e = rw not_too e

pub one_at_most : (entity : EntityNo) (of : Kind) (list : List Ready) → Pairs (Apart of) list → length (filter (is_callback_of entity of) list) ≤ 1
one_at_most entity of [] apart = omega arith
one_at_most entity of (one ∷ rest) apart = by (is_callback_of entity of one) refl (one_at_most entity of rest apart.1)
  where
    by : (b : Bool) → is_callback_of entity of one ≡ b → length (filter (is_callback_of entity of) rest) ≤ 1 → length (filter (is_callback_of entity of) (one ∷ rest)) ≤ 1
    by true is few = rw (is, none_more entity of one rest is apart.0) (omega arith)
    by false is few = rw is few

-- ---- in a plan

-- the world of a snapshot behind rounds of a plan
module _ (plan : PlanData) (number : ℕ) (moments : List Moment) (next : ℕ) (moment : Moment) where
  pub snapshot_of_kinds : AreOfTheirKinds (at_snapshot plan next moment (rounds plan number moments (first_world plan)))
  snapshot_of_kinds =
      snapshot_keeps kinds_kept plan next moment _ (rounds_keep kinds_kept plan number moments (first_world plan) (kinds_first plan.order plan.graph (filter (λ waitable. takes_from_queue waitable.kind) (wait_set plan.graph))))

  pub snapshot_wired : IsWired plan.graph (at_snapshot plan next moment (rounds plan number moments (first_world plan)))
  snapshot_wired =
      wired plan _ (snapshot_keeps (shape_kept (shape_of (first_world plan))) plan next moment _ (rounds_keep (shape_kept (shape_of (first_world plan))) plan number moments (first_world plan) refl))

  -- finds at most one callback of an entity and a kind but poll
  pub one_ready : (entity : EntityNo) (of : Kind) → of ≢ kind.Poll → length (filter (is_callback_of entity of) (ready_list moment (at_snapshot plan next moment (rounds plan number moments (first_world plan))))) ≤ 1
  one_ready entity of other = one_at_most entity of _ (list_apart of other plan.graph moment _ snapshot_wired snapshot_of_kinds)
