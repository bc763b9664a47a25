-- The callbacks of a snapshot have the variables of their groups.
use Rattle.std.proofs.Common.{◌≡◌, ℕ, ◌<◌, Bool, true, false, List, [], ◌∷◌, length, slice_get, Option, None, Some, refl, sym, ap, subst, ◌∙◌, true≢false}
use Rattle.std.specs.List.{AllByRecursion, filter}
use Rattle.std.specs.Option.{option_map_or}
use Rattle.std.proofs.lemmas.List.{length-replicate}
use Rattle.std.proofs.lemmas.Option.{slice_get_within}
use Rattle.exec_plan.specs.Plan.{PlanData}
use Rattle.exec_plan.specs.Graph.{GraphData, GroupNo, is_exclusive, is_server, is_timer, entities_where, wait_set}
use Rattle.exec_msg.specs.Numbers.{EntityNo, Moment}
use Rattle.exec_plan.specs.declared.entity.CallbackGroup.{CallbackGroup}
use Rattle.exec_msg.specs.Timer.{is_due}
use Rattle.exec_msg.specs.declared.kind.Kind.{Kind}
use Rattle.exec_msg.specs.declared.kind.Kind.TheVariants as kind
use Rattle.exec_script.specs.Zeros.{zeros}
use Rattle.exec_rules.proofs.Pairs.{all_flat_where, all_map, all_mapped, all_unmapped}
use Rattle.exec_rules.proofs.ReadyLists.{all_listed}
use Rattle.exec_rules.specs.Calls.{HaveVariables}
use Rattle.exec_rules.specs.Shape.{queue_shape, server_shape, shape_of, timer_shape}
use Rattle.exec_rules.specs.Ready.{due_ready, is_goal_awake, item_ready, poll_ready, queue_ready, ready_list, take_inputs}
use Rattle.exec_rules.specs.Transcript.{entity_at, first_world, handler_for, new_queue, new_server, new_timer, takes_from_queue}
use Rattle.exec_rules.specs.World.{Handler, Queue, ServerEntry, TimerEntry, WorldState, goals_at}
use Rattle.exec_rules.specs.declared.item.Item.{Item}
use Rattle.exec_rules.specs.declared.ready.Ready.{Ready}

-- ---- the groups of a graph

-- a mutually exclusive group is one of the graph's
group_within : (graph : GraphData) (group : GroupNo) → is_exclusive graph group ≡ true → group < length graph.groups
group_within graph group exclusive = by (slice_get graph.groups group) refl exclusive
  where
    by : (found : Option CallbackGroup) → slice_get graph.groups group ≡ found → option_map_or (λ (one : CallbackGroup). one.exclusive) found false ≡ true → group < length graph.groups
    by None e is = absurd (true≢false (sym is))
    by (Some one) e is = slice_get_within graph.groups group one e

-- the group of a callback, where it is mutually exclusive, is below this number
abbrev IsBelow : ℕ → Handler → Type 0
IsBelow groups handler = handler.exclusive ≡ true → handler.group < groups

handler_within : (graph : GraphData) (of : Kind) (number : EntityNo) → IsBelow (length graph.groups) (handler_for graph of number (entity_at graph number))
handler_within graph of number exclusive = group_within graph (entity_at graph number).group exclusive

-- ---- the callbacks of a world

record AreBelow (groups : ℕ) (world : WorldState) : Type 0 where
  timers : AllByRecursion (λ entry. IsBelow groups entry.handler) world.timers
  queues : AllByRecursion (λ queue. IsBelow groups queue.handler) world.queues
  servers : AllByRecursion (λ entry. IsBelow groups entry.handler) world.servers

-- those of a world of this shape
all_below : (plan : PlanData) (world : WorldState) → shape_of world ≡ shape_of (first_world plan) → AreBelow (length plan.graph.groups) world
all_below plan world same =
    let groups : ℕ = length plan.graph.groups in
    record {
      timers = all_unmapped (λ entry. IsBelow groups entry.handler) timer_shape world.timers
          (subst (λ (timers : List TimerEntry). AllByRecursion (λ entry. IsBelow groups entry.handler) timers) (sym (ap (λ (shape : WorldState). shape.timers) same))
          (all_mapped (λ entry. IsBelow groups entry.handler) (λ entry. IsBelow groups entry.handler) timer_shape (λ entry below. below) _ (all_map (λ entry. IsBelow groups entry.handler) (new_timer plan.graph) (λ number. handler_within plan.graph kind.Timer number) (entities_where is_timer plan.graph))));
      queues = all_unmapped (λ queue. IsBelow groups queue.handler) queue_shape world.queues
          (subst (λ (queues : List Queue). AllByRecursion (λ queue. IsBelow groups queue.handler) queues) (sym (ap (λ (shape : WorldState). shape.queues) same))
          (all_mapped (λ queue. IsBelow groups queue.handler) (λ queue. IsBelow groups queue.handler) queue_shape (λ queue below. below) _ (all_map (λ queue. IsBelow groups queue.handler) (new_queue plan.order plan.graph) (λ waitable. handler_within plan.graph waitable.kind waitable.entity) (filter (λ waitable. takes_from_queue waitable.kind) (wait_set plan.graph)))));
      servers = all_unmapped (λ entry. IsBelow groups entry.handler) server_shape world.servers
          (subst (λ (servers : List ServerEntry). AllByRecursion (λ entry. IsBelow groups entry.handler) servers) (sym (ap (λ (shape : WorldState). shape.servers) same))
          (all_mapped (λ entry. IsBelow groups entry.handler) (λ entry. IsBelow groups entry.handler) server_shape (λ entry below. below) _ (all_map (λ entry. IsBelow groups entry.handler) (new_server plan.graph) (λ number. handler_within plan.graph kind.Poll number) (entities_where is_server plan.graph))));
    }

-- it has variables for each group
groups_kept : (plan : PlanData) (world : WorldState) → shape_of world ≡ shape_of (first_world plan) → length plan.graph.groups ≡ length world.variables
groups_kept plan world same =
    sym (length-replicate (length plan.graph.groups) zeros)
    ∙ sym (length-replicate (length (first_world plan).variables) zeros)
    ∙ sym (ap (λ (shape : WorldState). length shape.variables) same)
    ∙ length-replicate (length world.variables) zeros

-- ---- the ready list

-- the same of a ready callback
abbrev IsReadyBelow : ℕ → Ready → Type 0
IsReadyBelow groups one = one.exclusive ≡ true → one.group < groups

due_below : (groups : ℕ) (moment : Moment) (entry : TimerEntry) → IsBelow groups entry.handler → AllByRecursion (IsReadyBelow groups) (due_ready moment entry)
due_below groups moment entry below = by (is_due entry.timer moment) refl
  where
    by : (b : Bool) → is_due entry.timer moment ≡ b → AllByRecursion (IsReadyBelow groups) (due_ready moment entry)
    by true e = rw e (below, tt)
    by false e = rw e tt

taken_below : (groups : ℕ) (moment : Moment) (world : WorldState) (queue : Queue) → IsBelow groups queue.handler → AllByRecursion (IsReadyBelow groups) (queue_ready moment world queue)
taken_below groups moment world queue below = by queue.items
  where
    by : (items : List Item) → AllByRecursion (IsReadyBelow groups) (item_ready moment queue.handler (goals_at queue.handler.entity world) items)
    by [] = tt
    by (first ∷ items) = (below, tt)

polls_below : (groups : ℕ) (moment : Moment) (entry : ServerEntry) → IsBelow groups entry.handler → AllByRecursion (IsReadyBelow groups) (poll_ready moment entry)
polls_below groups moment entry below = all_map (IsReadyBelow groups) _ (λ goal. below) (filter (is_goal_awake moment) entry.held)

listed_below : (groups : ℕ) (moment : Moment) (world : WorldState) → AreBelow groups world → AllByRecursion (IsReadyBelow groups) (ready_list moment world)
listed_below groups moment world below =
    all_listed (IsReadyBelow groups) (λ place one q. q) moment world
    (all_flat_where (λ entry. IsBelow groups entry.handler) (IsReadyBelow groups) (due_ready moment) (due_below groups moment) world.timers below.timers)
    (all_flat_where (λ queue. IsBelow groups queue.handler) (IsReadyBelow groups) (queue_ready moment world) (taken_below groups moment world) world.queues below.queues)
    (all_flat_where (λ entry. IsBelow groups entry.handler) (IsReadyBelow groups) (poll_ready moment) (polls_below groups moment) world.servers below.servers)

-- the callbacks of a snapshot have the variables of their groups
pub snapshot_variables : (plan : PlanData) (moment : Moment) (world : WorldState) → shape_of world ≡ shape_of (first_world plan) → HaveVariables (ready_list moment world) (take_inputs moment world)
snapshot_variables plan moment world same =
    subst (λ (groups : ℕ). AllByRecursion (IsReadyBelow groups) (ready_list moment world)) (groups_kept plan world same)
    (listed_below (length plan.graph.groups) moment world (all_below plan world same))
