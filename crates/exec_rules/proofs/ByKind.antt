-- Under the order of kinds the ready list has timers, what takes from the queues before polls, polls, and what takes from the other
-- queues, one after another.
use Rattle.std.proofs.Common.{◌≡◌, ℕ, ◌≤◌, Bool, true, false, not, nat_le, List, [], ◌∷◌, ◌++◌, refl, sym, ap, ◌∙◌, append_assoc, subst, arith, true≢false}
use Rattle.std.specs.List.{AllByRecursion, filter, flat_map, fold}
use Rattle.std.proofs.lemmas.Bool.{le-leb, leb-false, leb-true, lt-leb, not-true}
use Rattle.std.proofs.lemmas.Grind.{flat_map-append}
use Rattle.std.proofs.lemmas.List.Elements.{recursion_from_All}
use Rattle.exec_msg.specs.Kind.{ready_number}
use Rattle.exec_msg.specs.Numbers.{Moment}
use Rattle.exec_msg.specs.declared.kind.Kind.{Kind}
use Rattle.exec_msg.specs.declared.kind.Kind.TheVariants as kind
use Rattle.exec_plan.specs.Graph.{GraphData, entities_where, has_kind, kinds, wait_set}
use Rattle.exec_plan.specs.Plan.{PlanData}
use Rattle.exec_plan.specs.declared.order.Order.{Order}
use Rattle.exec_plan.specs.declared.order.Order.TheVariants as order
use Rattle.exec_rules.proofs.OfKinds.{AreOfTheirKinds, IsOfItsKind}
use Rattle.exec_rules.proofs.Pairs.{Pairs, all_append, all_both, all_filter, all_flat, all_flat_where, all_map, all_passed, all_weaker, pairs_all, pairs_append, pairs_filter, pairs_flat, pairs_map, pairs_tested, pairs_unmapped, pairs_with}
use Rattle.exec_rules.proofs.ReadyLists.{IsOf, due_of, poll_of, queue_of, snapshot_of_kinds}
use Rattle.exec_rules.proofs.Running.{rounds_keep, snapshot_keeps}
use Rattle.exec_rules.proofs.Shapes.{shape_kept}
use Rattle.exec_rules.proofs.Sorting.{Rises, back_goes, front_stays}
use Rattle.exec_rules.proofs.Wiring.{waits_of}
use Rattle.exec_rules.specs.Ready.{all_ready, answered_by_first, due_ready, item_ready, kind_of, placed_from, poll_ready, queue_ready, rank_under, ready_list, reply_taken, take_inputs}
use Rattle.exec_rules.specs.Shape.{queue_shape, shape_of}
use Rattle.exec_rules.specs.Sorting.{sorted_by}
use Rattle.exec_rules.specs.Item.{taker_of}
use Rattle.exec_rules.specs.Transcript.{at_snapshot, first_world, new_queue, rounds, takes_from_queue}
use Rattle.exec_rules.specs.World.{ClientEntry, Queue, WorldState, goals_at}
use Rattle.exec_rules.specs.declared.item.Item.{Item}
use Rattle.exec_rules.specs.declared.item.Item.TheVariants as item
use Rattle.exec_rules.specs.declared.ready.Ready.{Ready}
use Rattle.exec_rules.specs.inner.ByKind.{IsListedByKind, is_before_polls, listed_by_kind, queues_before_polls, queues_behind_polls, ready_before, ready_behind, taken_in_parts}

-- ---- queues stand in the order of their kinds

-- one kind isn't behind another
abbrev KindsRise : Kind → Kind → Type 0
KindsRise one other = nat_le (ready_number one) (ready_number other) ≡ true

abbrev pub QueuesRise : List Queue → Type 0
QueuesRise queues = Pairs (λ one other. KindsRise one.kind other.kind) queues

not_behind_itself : (of : Kind) → KindsRise of of
not_behind_itself of = le-leb (ready_number of) (ready_number of) (omega arith)

stays_behind : (one other : Kind) → is_before_polls one ≡ false → KindsRise one other → is_before_polls other ≡ false
stays_behind one other behind rise =
    lt-leb (ready_number other) (ready_number kind.Poll) (omega (arith, leb-false (ready_number one) (ready_number kind.Poll) behind, leb-true (ready_number one) (ready_number other) rise))

-- a wait set does
waits_rise : (graph : GraphData) → Pairs (λ one other. KindsRise one.kind other.kind) (wait_set graph)
waits_rise graph =
    pairs_flat KindsRise (λ one other. KindsRise one.kind other.kind) (waits_of graph)
    (λ of. pairs_all (λ one. one.kind ≡ of) (λ one other. KindsRise one.kind other.kind) (λ one other is too. ap (λ (k : Kind). nat_le (ready_number k) (ready_number other.kind)) is ∙ ap (λ (k : Kind). nat_le (ready_number of) (ready_number k)) too ∙ not_behind_itself of) (waits_of graph of) (all_map (λ one. one.kind ≡ of) _ (λ entity. refl) (entities_where (has_kind of) graph)))
    (λ one other rise. all_map (λ x. AllByRecursion (λ y. KindsRise x.kind y.kind) (waits_of graph other)) _ (λ entity. all_map (λ y. KindsRise one y.kind) _ (λ second. rise) (entities_where (has_kind other) graph)) (entities_where (has_kind one) graph))
    kinds (pairs_tested (λ one other. nat_le (ready_number one) (ready_number other)) kinds refl)

-- and so do the queues of a world of this shape
pub queues_rise : (plan : PlanData) (world : WorldState) → shape_of world ≡ shape_of (first_world plan) → QueuesRise world.queues
queues_rise plan world same =
    pairs_unmapped (λ one other. KindsRise one.kind other.kind) queue_shape world.queues
    (subst (λ (queues : List Queue). QueuesRise queues) (sym (ap (λ (shape : WorldState). shape.queues) same))
    (pairs_map (λ one other. KindsRise one.kind other.kind) (λ one other. KindsRise one.kind other.kind) queue_shape (λ one other rise. rise) _
    (pairs_map (λ one other. KindsRise one.kind other.kind) (λ one other. KindsRise one.kind other.kind) (new_queue plan.order plan.graph) (λ one other rise. rise) _
    (pairs_filter (λ one other. KindsRise one.kind other.kind) (λ waitable. takes_from_queue waitable.kind) (wait_set plan.graph) (waits_rise plan.graph)))))

-- ---- two parts of them

pub split_by : (queues : List Queue) → QueuesRise queues → queues ≡ filter (λ queue. is_before_polls queue.kind) queues ++ filter (λ queue. not (is_before_polls queue.kind)) queues
split_by [] rise = refl
split_by (queue ∷ queues) rise = by (is_before_polls queue.kind) refl (split_by queues rise.1)
  where
    none_before : (rest : List Queue) → is_before_polls queue.kind ≡ false → AllByRecursion (λ other. KindsRise queue.kind other.kind) rest → filter (λ other. is_before_polls other.kind) rest ≡ []
    none_before [] behind all = refl
    none_before (other ∷ rest) behind all = rw (stays_behind queue.kind other.kind behind all.0) (none_before rest behind all.1)

    all_behind : (rest : List Queue) → is_before_polls queue.kind ≡ false → AllByRecursion (λ other. KindsRise queue.kind other.kind) rest → filter (λ other. not (is_before_polls other.kind)) rest ≡ rest
    all_behind [] behind all = refl
    all_behind (other ∷ rest) behind all = rw (stays_behind queue.kind other.kind behind all.0) (ap (λ (more : List Queue). other ∷ more) (all_behind rest behind all.1))

    by : (b : Bool) → is_before_polls queue.kind ≡ b → queues ≡ filter (λ other. is_before_polls other.kind) queues ++ filter (λ other. not (is_before_polls other.kind)) queues
        → queue ∷ queues ≡ filter (λ other. is_before_polls other.kind) (queue ∷ queues) ++ filter (λ other. not (is_before_polls other.kind)) (queue ∷ queues)
    by true is rest = rw is (ap (λ (more : List Queue). queue ∷ more) rest)
    by false is rest = rw (is, none_before queues is rise.0, all_behind queues is rise.0) refl

-- ---- ranks under the order of kinds

abbrev kind_rank : Ready → ℕ
kind_rank one = ready_number (kind_of one.cause)

abbrev Rise : Ready → Ready → Type 0
Rise one other = nat_le (kind_rank one) (kind_rank other) ≡ true

-- a callback of a timer, one of a kind before polls, a poll, and one of another kind
abbrev OfTimer : Ready → Type 0
OfTimer one = kind_of one.cause ≡ kind.Timer

abbrev IsBefore : Bool → Ready → Type 0
IsBefore b one = is_before_polls (kind_of one.cause) ≡ b

abbrev IsPoll : Ready → Type 0
IsPoll one = kind_of one.cause ≡ kind.Poll

from_1 : (of : Kind) → 1 ≤ ready_number of
from_1 kind.Timer = omega arith
from_1 kind.Message = omega arith
from_1 kind.Request = omega arith
from_1 kind.Reply = omega arith
from_1 kind.Goal = omega arith
from_1 kind.Cancel = omega arith
from_1 kind.Ask = omega arith
from_1 kind.Poll = omega arith
from_1 kind.Response = omega arith
from_1 kind.Code = omega arith
from_1 kind.Feedback = omega arith
from_1 kind.Result = omega arith

timer_first : (one other : Ready) → OfTimer one → Rise one other
timer_first one other is = le-leb (kind_rank one) (kind_rank other) (omega (arith, ap ready_number is, from_1 (kind_of other.cause)))

before_poll : (one other : Ready) → IsBefore true one → IsPoll other → Rise one other
before_poll one other before is = le-leb (kind_rank one) (kind_rank other) (omega (arith, ap ready_number is, leb-true (kind_rank one) (ready_number kind.Poll) before))

before_behind : (one other : Ready) → IsBefore true one → IsBefore false other → Rise one other
before_behind one other before behind =
    le-leb (kind_rank one) (kind_rank other) (omega (arith, leb-true (kind_rank one) (ready_number kind.Poll) before, leb-false (kind_rank other) (ready_number kind.Poll) behind))

poll_behind : (one other : Ready) → IsPoll one → IsBefore false other → Rise one other
poll_behind one other is behind = le-leb (kind_rank one) (kind_rank other) (omega (arith, ap ready_number is, leb-false (kind_rank other) (ready_number kind.Poll) behind))

behind_poll : (one other : Ready) → IsBefore false one → IsPoll other → nat_le (kind_rank one) (kind_rank other) ≡ false
behind_poll one other behind is = ap (λ (k : Kind). nat_le (kind_rank one) (ready_number k)) is ∙ behind

every : {A : Type 0} (P : A → Type 0) → ((one : A) → P one) → (all : List A) → AllByRecursion P all
every P each [] = tt
every P each (one ∷ all) = (each one, every P each all)

-- what two properties make of each two
between : {A : Type 0} (P Q : A → Type 0) (R : A → A → Type 0) → ((one other : A) → P one → Q other → R one other) → (some more : List A) → AllByRecursion P some → AllByRecursion Q more → AllByRecursion (λ one. AllByRecursion (R one) more) some
between P Q R related some more p q = all_weaker P (λ one. AllByRecursion (R one) more) (λ one is. all_weaker Q (R one) (λ other too. related one other is too) more q) some p

-- ---- the parts of what is ready

module _ (moment : Moment) (world : WorldState) (kinds_of : AreOfTheirKinds world) where
  abbrev timers : List Ready
  timers = flat_map (due_ready moment) world.timers

  abbrev polls : List Ready
  polls = flat_map (poll_ready moment) world.servers

  of_timers : AllByRecursion OfTimer timers
  of_timers = all_flat OfTimer (due_ready moment) (λ entry. all_weaker (IsOf entry.handler.entity kind.Timer) OfTimer (λ one is. is.0) _ (due_of moment entry)) world.timers

  are_polls : AllByRecursion IsPoll polls
  are_polls = all_flat IsPoll (poll_ready moment) (λ entry. all_weaker (IsOf entry.handler.entity kind.Poll) IsPoll (λ one is. is.0) _ (poll_of moment entry)) world.servers

  queues_in : (b : Bool) (test : Queue → Bool) → ((queue : Queue) → test queue ≡ true → is_before_polls queue.kind ≡ b) → AllByRecursion (IsBefore b) (flat_map (queue_ready moment world) (filter test world.queues))
  queues_in b test fits =
      all_flat_where (λ queue. (test queue ≡ true) × IsOfItsKind queue) (IsBefore b) (queue_ready moment world)
      (λ queue q. all_weaker (IsOf queue.handler.entity queue.kind) (IsBefore b) (λ one is. ap (λ (k : Kind). is_before_polls k) is.0 ∙ fits queue q.0) _ (queue_of moment world queue q.1)) (filter test world.queues)
      (all_both _ IsOfItsKind _ (λ queue passed q. (passed, q)) (filter test world.queues) (all_passed test world.queues) (all_filter IsOfItsKind test world.queues kinds_of))

  queue_rises : (queue : Queue) → Pairs Rise (queue_ready moment world queue)
  queue_rises queue = by queue.items
    where
      by : (items : List Item) → Pairs Rise (item_ready moment queue.handler (goals_at queue.handler.entity world) items)
      by [] = tt
      by (first ∷ items) = (tt, tt)

  queues_rising : (test : Queue → Bool) → QueuesRise world.queues → Pairs Rise (flat_map (queue_ready moment world) (filter test world.queues))
  queues_rising test rise =
      pairs_flat (λ one other. IsOfItsKind one × (IsOfItsKind other × KindsRise one.kind other.kind)) Rise (queue_ready moment world) queue_rises
      (λ one other q. between (IsOf one.handler.entity one.kind) (IsOf other.handler.entity other.kind) Rise
      (λ x y is too. ap (λ (k : Kind). nat_le (ready_number k) (kind_rank y)) is.0 ∙ ap (λ (k : Kind). nat_le (ready_number one.kind) (ready_number k)) too.0 ∙ q.1.1)
      (queue_ready moment world one) (queue_ready moment world other) (queue_of moment world one q.0) (queue_of moment world other q.1.0))
      (filter test world.queues)
      (pairs_with IsOfItsKind (λ one other. KindsRise one.kind other.kind) (filter test world.queues) (all_filter IsOfItsKind test world.queues kinds_of) (pairs_filter (λ one other. KindsRise one.kind other.kind) test world.queues rise))

  abbrev took_before : List Ready
  took_before = flat_map (queue_ready moment world) (queues_before_polls world)

  abbrev took_behind : List Ready
  took_behind = ready_behind moment world

  before : AllByRecursion (IsBefore true) took_before
  before = queues_in true (λ queue. is_before_polls queue.kind) (λ queue passed. passed)

  behind : AllByRecursion (IsBefore false) took_behind
  behind = queues_in false (λ queue. not (is_before_polls queue.kind)) (λ queue passed. not-true (is_before_polls queue.kind) passed)

  parts_sorted : QueuesRise world.queues → sorted_by kind_rank (all_ready moment world) ≡ (ready_before moment world ++ polls) ++ took_behind
  parts_sorted rise =
      let polls_rise : Rises kind_rank polls = pairs_all IsPoll Rise (λ one other is too. ap (λ (k : Kind). nat_le (ready_number k) (kind_rank other)) is ∙ ap (λ (k : Kind). nat_le (ready_number kind.Poll) (ready_number k)) too) polls are_polls in
      let behind_rises : Rises kind_rank took_behind = queues_rising (λ queue. not (is_before_polls queue.kind)) rise in
      let front_rises : Rises kind_rank (timers ++ took_before) =
      pairs_append Rise timers took_before (pairs_all OfTimer Rise (λ one other is too. timer_first one other is) timers of_timers) (queues_rising (λ queue. is_before_polls queue.kind) rise)
      (all_weaker OfTimer (λ one. AllByRecursion (Rise one) took_before) (λ one is. every (Rise one) (λ other. timer_first one other is) took_before) timers of_timers) in
      let back_rises : Rises kind_rank (polls ++ took_behind) = pairs_append Rise polls took_behind polls_rise behind_rises (between IsPoll (IsBefore false) Rise poll_behind polls took_behind are_polls behind) in
      let crosses : AllByRecursion (λ one. AllByRecursion (Rise one) (polls ++ took_behind)) (timers ++ took_before) =
      all_append (λ one. AllByRecursion (Rise one) (polls ++ took_behind)) timers took_before
      (all_weaker OfTimer (λ one. AllByRecursion (Rise one) (polls ++ took_behind)) (λ one is. every (Rise one) (λ other. timer_first one other is) (polls ++ took_behind)) timers of_timers)
      (all_both _ _ (λ one. AllByRecursion (Rise one) (polls ++ took_behind)) (λ one p q. all_append (Rise one) polls took_behind p q) took_before
      (between (IsBefore true) IsPoll Rise before_poll took_before polls before are_polls) (between (IsBefore true) (IsBefore false) Rise before_behind took_before took_behind before behind)) in
      ap (λ (took : List Ready). sorted_by kind_rank ((timers ++ took) ++ polls)) (ap (flat_map (queue_ready moment world)) (split_by world.queues rise) ∙ flat_map-append (queue_ready moment world) (queues_before_polls world) (queues_behind_polls world))
      ∙ ap (sorted_by kind_rank) (ap (λ (list : List Ready). list ++ polls) (sym (append_assoc timers took_before took_behind)) ∙ append_assoc (timers ++ took_before) took_behind polls)
      ∙ front_stays kind_rank (timers ++ took_before) (took_behind ++ polls) (polls ++ took_behind)
      (back_goes kind_rank took_behind polls behind_rises polls_rise (between (IsBefore false) IsPoll (λ one other. nat_le (kind_rank one) (kind_rank other) ≡ false) behind_poll took_behind polls behind are_polls))
      (pairs_append Rise (timers ++ took_before) (polls ++ took_behind) front_rises back_rises crosses)
      ∙ sym (append_assoc (timers ++ took_before) polls took_behind)

  -- the ready list, part by part
  pub listed : world.order ≡ order.Kind → QueuesRise world.queues → ready_list moment world ≡ listed_by_kind moment world
  listed of_kinds rise = ap (placed_from 1) (ap (λ (under : Order). sorted_by (rank_under under world) (all_ready moment world)) of_kinds ∙ parts_sorted rise)

-- ---- what is taken

none_answered : (queue : Queue) (clients : List ClientEntry) → IsOfItsKind queue → is_before_polls queue.kind ≡ false → reply_taken clients queue ≡ clients
none_answered queue clients kinds behind = by queue.items (recursion_from_All (λ one. taker_of one ≡ queue.kind) queue.items kinds)
  where
    by : (items : List Item) → AllByRecursion (λ one. taker_of one ≡ queue.kind) items → answered_by_first queue.handler.entity items clients ≡ clients
    by [] q = refl
    by (item.Message value ∷ items) q = refl
    by (item.Request client number value ∷ items) q = refl
    by (item.Reply number value ∷ items) q = absurd (true≢false (ap (λ (k : Kind). is_before_polls k) q.0 ∙ behind))
    by (item.Goal id client value ∷ items) q = refl
    by (item.Cancel request client ∷ items) q = refl
    by (item.Ask id client ∷ items) q = refl
    by (item.Response id accepted ∷ items) q = refl
    by (item.Code returned moved ∷ items) q = refl
    by (item.Feedback id value ∷ items) q = refl
    by (item.Result id status value ∷ items) q = refl

answered_before : (queues : List Queue) (clients : List ClientEntry) → AllByRecursion IsOfItsKind queues → fold reply_taken clients queues ≡ fold reply_taken clients (filter (λ queue. is_before_polls queue.kind) queues)
answered_before [] clients kinds = refl
answered_before (queue ∷ queues) clients kinds = by (is_before_polls queue.kind) refl (λ so_far. answered_before queues so_far kinds.1)
  where
    by : (b : Bool) → is_before_polls queue.kind ≡ b → ((so_far : List ClientEntry) → fold reply_taken so_far queues ≡ fold reply_taken so_far (filter (λ one. is_before_polls one.kind) queues)) → fold reply_taken clients (queue ∷ queues) ≡ fold reply_taken clients (filter (λ one. is_before_polls one.kind) (queue ∷ queues))
    by true is rest = rw is (rest (reply_taken clients queue))
    by false is rest = rw is (ap (λ (so_far : List ClientEntry). fold reply_taken so_far queues) (none_answered queue clients kinds.0 is) ∙ rest clients)

-- replies are handed on by queues before polls alone
pub taken : (moment : Moment) (world : WorldState) → AreOfTheirKinds world → take_inputs moment world ≡ taken_in_parts moment world
taken moment world kinds = ap (λ (clients : List ClientEntry). record (take_inputs moment world) { clients = clients }) (answered_before world.queues world.clients kinds)

-- ---- in a plan

-- the snapshots of its rounds are so under the order of kinds
pub listed_in_rounds : (plan : PlanData) (number : ℕ) (moments : List Moment) (next moment : Moment) → plan.order ≡ order.Kind → IsListedByKind moment (at_snapshot plan next moment (rounds plan number moments (first_world plan)))
listed_in_rounds plan number moments next moment of_kinds =
    let shapes = shape_kept (shape_of (first_world plan)) in
    let before : WorldState = at_snapshot plan next moment (rounds plan number moments (first_world plan)) in
    let shaped : shape_of before ≡ shape_of (first_world plan) = snapshot_keeps shapes plan next moment _ (rounds_keep shapes plan number moments (first_world plan) refl) in
    listed moment before (snapshot_of_kinds plan number moments next moment) (ap (λ (shape : WorldState). shape.order) shaped ∙ of_kinds) (queues_rise plan before shaped)
