-- The scripts of a world's callbacks are those of its plan's graph, so that what a snapshot lists has its scripts from there.
use Rattle.std.proofs.Common.{◌≡◌, ℕ, Bool, true, false, List, [], ◌∷◌, ◌++◌, map, Option, Some, None, is_some, if◌then◌else◌, refl, sym, ap, ap₂, subst, ◌∙◌, arith}
use Rattle.std.specs.List.{All, AllByRecursion, filter, flat_map}
use Rattle.std.specs.Option.{unwrap_or}
use Rattle.std.proofs.lemmas.List.{map-append}
use Rattle.exec_entity.proofs.Polls.{awake_are}
use Rattle.exec_goal.specs.Table.{GoalRecord}
use Rattle.exec_msg.specs.Numbers.{EntityNo, Moment}
use Rattle.exec_msg.specs.Timer.{is_due}
use Rattle.exec_msg.specs.declared.kind.Kind.{Kind}
use Rattle.exec_msg.specs.declared.kind.Kind.TheVariants as kind
use Rattle.exec_plan.specs.Graph.{GraphData, callback_script, declared_at, entities_where, is_server, is_timer, script_at, script_for, wait_set, Waitable}
use Rattle.exec_plan.specs.Plan.{PlanData}
use Rattle.exec_plan.specs.declared.entity.Declared.{Declared}
use Rattle.exec_plan.specs.declared.entity.Declared.TheVariants.{Topic, Entity}
use Rattle.exec_script.specs.Instruction.{Script}
use Rattle.exec_rules.proofs.Pairs.{all_append, all_filter, all_flat_where, all_mapped, all_unmapped}
use Rattle.exec_rules.proofs.ReadyLists.{all_placed}
use Rattle.exec_rules.specs.Item.{taker_of}
use Rattle.exec_rules.specs.Ready.{candidates_for, due_ready, is_goal_awake, item_ready, placed_from, poll_ready, queue_ready, ready_for, script_to_take, woken}
use Rattle.exec_rules.specs.Shape.{queue_shape, server_shape, timer_shape}
use Rattle.exec_rules.specs.Transcript.{as_entity, entity_at, new_queue, new_server, new_timer, takes_from_queue}
use Rattle.exec_rules.specs.World.{Queue, ServerEntry, TimerEntry, WorldState, goals_at, has_room_for, HeldGoal}
use Rattle.exec_rules.specs.declared.item.Item.{Item}
use Rattle.exec_rules.specs.declared.item.Item.TheVariants as item
use Rattle.exec_rules.specs.declared.ready.Cause.TheVariants as cause
use Rattle.exec_rules.specs.declared.ready.Ready.{Ready}
use Rattle.exec_rules.specs.inner.Awake.{awake_goal, awake_goals}
use Rattle.exec_rules.specs.inner.ByKind.{is_before_polls, queues_before_polls, ready_before, ready_behind}
use Rattle.exec_rules.specs.inner.Listing.{HasScriptOf, as_listed, with_script_of}
use Rattle.exec_world.specs.inner.Snapshots.{HaveScriptsOf, scripted_poll}
use Rattle.exec_world.specs.inner.Sound.{IsSound}

-- ---- the scripts of a plan's first world

each : {A : Type 0} (P : A → Type 0) → ((one : A) → P one) → (all : List A) → AllByRecursion P all
each P holds [] = tt
each P holds (one ∷ all) = (holds one, each P holds all)

-- the script of a handler that is made of a graph's entity
script_there : (graph : GraphData) (number : EntityNo) (of : Kind) → unwrap_or (callback_script of (entity_at graph number).is) [] ≡ script_at graph number of
script_there graph number of = by (declared_at graph number)
  where
    none : (kind : Kind) → unwrap_or (callback_script kind (as_entity Topic).is) [] ≡ []
    none kind.Timer = refl
    none kind.Message = refl
    none kind.Request = refl
    none kind.Reply = refl
    none kind.Goal = refl
    none kind.Cancel = refl
    none kind.Ask = refl
    none kind.Poll = refl
    none kind.Response = refl
    none kind.Code = refl
    none kind.Feedback = refl
    none kind.Result = refl

    by : (declared : Declared) → unwrap_or (callback_script of (as_entity declared).is) [] ≡ script_for of declared
    by Topic = none of
    by (Entity entity) = refl

module _ (graph : GraphData) where
  abbrev HasTimerScript : TimerEntry → Type 0
  HasTimerScript entry = entry.handler.script ≡ script_at graph entry.handler.entity kind.Timer

  abbrev HasQueueScript : Queue → Type 0
  HasQueueScript queue = queue.handler.script ≡ script_at graph queue.handler.entity queue.kind

  abbrev HasServerScript : ServerEntry → Type 0
  HasServerScript entry = entry.handler.script ≡ script_at graph entry.handler.entity kind.Poll

-- the scripts of a sound world
pub scripts_sound : (plan : PlanData) (world : WorldState) → IsSound plan world → HaveScriptsOf plan.graph world
scripts_sound plan world p = record {
  timers = all_unmapped (HasTimerScript plan.graph) timer_shape world.timers
      (subst (λ (timers : List TimerEntry). AllByRecursion (HasTimerScript plan.graph) timers) (sym (ap (λ (shape : WorldState). shape.timers) p.shape))
      (all_mapped (HasTimerScript plan.graph) (HasTimerScript plan.graph) timer_shape (λ entry q. q) _
      (all_mapped (λ (number : EntityNo). ℕ) (HasTimerScript plan.graph) (new_timer plan.graph) (λ number any. script_there plan.graph number kind.Timer) _ (each (λ (number : EntityNo). ℕ) (λ number. number) (entities_where is_timer plan.graph)))));
  queues = all_unmapped (HasQueueScript plan.graph) queue_shape world.queues
      (subst (λ (queues : List Queue). AllByRecursion (HasQueueScript plan.graph) queues) (sym (ap (λ (shape : WorldState). shape.queues) p.shape))
      (all_mapped (HasQueueScript plan.graph) (HasQueueScript plan.graph) queue_shape (λ queue q. q) _
      (all_mapped (λ (waitable : Waitable). ℕ) (HasQueueScript plan.graph) (new_queue plan.order plan.graph) (λ waitable any. script_there plan.graph waitable.entity waitable.kind) _
      (each (λ (waitable : Waitable). ℕ) (λ waitable. 0) (filter (λ waitable. takes_from_queue waitable.kind) (wait_set plan.graph))))));
  servers = all_unmapped (HasServerScript plan.graph) server_shape world.servers
      (subst (λ (servers : List ServerEntry). AllByRecursion (HasServerScript plan.graph) servers) (sym (ap (λ (shape : WorldState). shape.servers) p.shape))
      (all_mapped (HasServerScript plan.graph) (HasServerScript plan.graph) server_shape (λ entry q. q) _
      (all_mapped (λ (number : EntityNo). ℕ) (HasServerScript plan.graph) (new_server plan.graph) (λ number any. script_there plan.graph number kind.Poll) _ (each (λ (number : EntityNo). ℕ) (λ number. number) (entities_where is_server plan.graph)))));
  kinds = p.kinds;
}

-- ---- the scripts of ready callbacks

-- an item's callback has the script whole, or none
taken_script : (first : Item) (goals : List GoalRecord) (own : _) → (if is_some (script_to_take first goals own) then Some own else None) ≡ script_to_take first goals own
taken_script (item.Message value) goals own = refl
taken_script (item.Request client number value) goals own = refl
taken_script (item.Reply number value) goals own = refl
taken_script (item.Goal id client value) goals own = by (has_room_for id goals)
  where
    by : (b : Bool) → (if is_some (if b then Some own else None) then Some own else None) ≡ (if b then Some own else None)
    by true = refl
    by false = refl
taken_script (item.Cancel request client) goals own = refl
taken_script (item.Ask id client) goals own = refl
taken_script (item.Response id accepted) goals own = refl
taken_script (item.Code returned moved) goals own = refl
taken_script (item.Feedback id value) goals own = refl
taken_script (item.Result id status value) goals own = refl

module _ (graph : GraphData) (moment : Moment) where
  due_scripts : (entry : TimerEntry) → HasTimerScript graph entry → AllByRecursion (HasScriptOf graph) (due_ready moment entry)
  due_scripts entry has = by (is_due entry.timer moment)
    where
      by : (b : Bool) → AllByRecursion (HasScriptOf graph) (if b then ready_for moment entry.handler cause.Due [] (Some entry.handler.script) ∷ [] else [])
      by true = ((λ i. ready_for moment entry.handler cause.Due [] (Some (sym has i))), tt)
      by false = tt

  item_scripts : (world : WorldState) (queue : Queue) → HasQueueScript graph queue → All (λ one. taker_of one ≡ queue.kind) queue.items → AllByRecursion (HasScriptOf graph) (queue_ready moment world queue)
  item_scripts world queue has kinds = by queue.items kinds
    where
      by : (items : List Item) → All (λ one. taker_of one ≡ queue.kind) items → AllByRecursion (HasScriptOf graph) (item_ready moment queue.handler (goals_at queue.handler.entity world) items)
      by [] of = tt
      by (first ∷ items) of =
          let goals = goals_at queue.handler.entity world in
          let runs = is_some (script_to_take first goals queue.handler.script) in
          let one : Ready = ready_for moment queue.handler (cause.Took first) (candidates_for first goals) (script_to_take first goals queue.handler.script) in (
            ap (λ (script : Option Script). record one { script = script })
                (ap (λ (script : Script). if runs then Some script else None) (ap (script_at graph queue.handler.entity) (of 0 first (omega arith)) ∙ sym has) ∙ taken_script first goals queue.handler.script),
            tt,
          )

  poll_scripts : (entry : ServerEntry) → HasServerScript graph entry → map (scripted_poll graph moment) (awake_goals moment entry) ≡ poll_ready moment entry
  poll_scripts entry has = ap (map (scripted_poll graph moment)) (awake_are moment entry) ∙ by (filter (is_goal_awake moment) entry.held)
    where
      by : (held : List HeldGoal) → map (scripted_poll graph moment) (map (λ held. awake_goal entry.handler held.goal) held) ≡ map (λ held. ready_for moment entry.handler (woken held.goal) [] (Some entry.handler.script)) held
      by [] = refl
      by (one ∷ held) = λ i. ready_for moment entry.handler (woken one.goal) [] (Some (sym has i)) ∷ by held i

  server_scripts : (servers : List ServerEntry) → AllByRecursion (HasServerScript graph) servers → map (scripted_poll graph moment) (flat_map (awake_goals moment) servers) ≡ flat_map (poll_ready moment) servers
  server_scripts [] has = refl
  server_scripts (entry ∷ servers) has =
      map-append (scripted_poll graph moment) (awake_goals moment entry) (flat_map (awake_goals moment) servers) ∙ ap₂ (λ (some more : List Ready). some ++ more) (poll_scripts entry has.0) (server_scripts servers has.1)

-- what is listed has its scripts from the graph
pub scripted : (graph : GraphData) (list : List Ready) → AllByRecursion (HasScriptOf graph) list → map (with_script_of graph) (map as_listed list) ≡ list
scripted graph [] p = refl
scripted graph (one ∷ list) p = λ i. p.0 i ∷ scripted graph list p.1 i

moved : (graph : GraphData) (position : ℕ) (one : Ready) → HasScriptOf graph one → HasScriptOf graph (record one { position = position })
moved graph position one has = ap (λ (ready : Ready). record ready { position = position }) has

both : {A : Type 0} (P Q : A → Type 0) (all : List A) → AllByRecursion P all → AllByRecursion Q all → AllByRecursion (λ one. P one × Q one) all
both P Q [] p q = tt
both P Q (one ∷ all) p q = ((p.0, q.0), both P Q all p.1 q.1)

module _ (graph : GraphData) (moment : Moment) (world : WorldState) (p : HaveScriptsOf graph world) where
  abbrev HasOwn : Queue → Type 0
  HasOwn queue = HasQueueScript graph queue × All (λ one. taker_of one ≡ queue.kind) queue.items

  in_queues : (test : Queue → Bool) → AllByRecursion (HasScriptOf graph) (flat_map (queue_ready moment world) (filter test world.queues))
  in_queues test =
      all_flat_where HasOwn (HasScriptOf graph) (queue_ready moment world) (λ queue own. item_scripts graph moment world queue own.0 own.1) (filter test world.queues)
      (all_filter HasOwn test world.queues (both (HasQueueScript graph) (λ queue. All (λ one. taker_of one ≡ queue.kind) queue.items) world.queues p.queues p.kinds))

  before_polls : AllByRecursion (HasScriptOf graph) (ready_before moment world)
  before_polls =
      all_append (HasScriptOf graph) (flat_map (due_ready moment) world.timers) (flat_map (queue_ready moment world) (queues_before_polls world))
      (all_flat_where (HasTimerScript graph) (HasScriptOf graph) (due_ready moment) (due_scripts graph moment) world.timers p.timers) (in_queues (λ queue. is_before_polls queue.kind))

  behind_polls : AllByRecursion (HasScriptOf graph) (ready_behind moment world)
  behind_polls = in_queues _

  placed_scripts : (position : ℕ) (list : List Ready) → AllByRecursion (HasScriptOf graph) list → map (with_script_of graph) (map as_listed (placed_from position list)) ≡ placed_from position list
  placed_scripts position list has = scripted graph (placed_from position list) (all_placed (HasScriptOf graph) (moved graph) position list has)

  pub scripts_before : map (with_script_of graph) (map as_listed (placed_from 1 (ready_before moment world))) ≡ placed_from 1 (ready_before moment world)
  scripts_before = placed_scripts 1 (ready_before moment world) before_polls

  pub scripts_behind : (position : ℕ) → map (with_script_of graph) (map as_listed (placed_from position (ready_behind moment world))) ≡ placed_from position (ready_behind moment world)
  scripts_behind position = placed_scripts position (ready_behind moment world) behind_polls

  pub scripts_whole : map (with_script_of graph) (map as_listed (placed_from 1 (ready_before moment world ++ ready_behind moment world))) ≡ placed_from 1 (ready_before moment world ++ ready_behind moment world)
  scripts_whole =
      placed_scripts 1 (ready_before moment world ++ ready_behind moment world)
      (all_append (HasScriptOf graph) (ready_before moment world) (ready_behind moment world) before_polls behind_polls)

  pub scripts_of_polls : map (scripted_poll graph moment) (flat_map (awake_goals moment) world.servers) ≡ flat_map (poll_ready moment) world.servers
  scripts_of_polls = server_scripts graph moment world.servers p.servers
