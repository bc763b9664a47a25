-- How long scripts are, and how many goals servers hold, in any world of a lawful plan.
use Rattle.std.proofs.Common.{◌≡◌, ℕ, zero, suc, ◌≤◌, ◌||◌, nat_le, Bool, true, false, not, List, [], ◌∷◌, ◌++◌, length, Option, None, Some, length-append, slice_index_or, refl, sym, ap, ◌∙◌, arith, if◌then◌else◌}
use Rattle.std.specs.List.{AllByRecursion, filter}
use Rattle.std.specs.Option.{unwrap_or}
use Rattle.std.proofs.lemmas.Bool.{leb-false, or_parts, not-true}
use Rattle.std.proofs.lemmas.List.{length-map}
use Rattle.std.proofs.lemmas.List.Elements.{recursion_from_All}
use Rattle.std.proofs.lemmas.List.Filters.{length-filter_both}
use Rattle.exec_goal.specs.Table.{GoalRecord, holds_id, is_full, is_expired}
use Rattle.exec_msg.specs.declared.goal.Acceptance.{Acceptance}
use Rattle.exec_msg.specs.Numbers.{EntityNo, GoalId, Moment}
use Rattle.exec_script.specs.Instruction.{Script}
use Rattle.exec_plan.specs.Entity.{Resolved, scripts_of, result_scripts}
use Rattle.exec_plan.specs.Graph.{EntityData, GraphData, Waitable, callback_script, declared_at, entities_where, is_server, is_timer, wait_set}
use Rattle.exec_plan.specs.Lawful.{IsLawful, IsLawfulDeclared, IsLawfulScript}
use Rattle.exec_plan.specs.Plan.{PlanData}
use Rattle.exec_plan.specs.declared.entity.Declared.{Declared}
use Rattle.exec_plan.specs.declared.entity.Declared.TheVariants as declared
use Rattle.exec_plan.specs.declared.entity.EntityOf.TheVariants.{Timer, Subscription, Service, Client, Server, ActionClient}
use Rattle.exec_msg.specs.Lists.{change_first}
use Rattle.exec_msg.specs.declared.limits.TheConstants.{GOALS, INSTRUCTIONS}
use Rattle.exec_msg.specs.Timer.{is_due}
use Rattle.exec_msg.specs.declared.kind.Kind.{Kind}
use Rattle.exec_msg.specs.declared.kind.Kind.TheVariants as kind
use Rattle.exec_task.specs.Task.{TaskState}
use Rattle.exec_rules.proofs.Pairs.{all_append, all_filter, all_map, all_mapped, all_weaker}
use Rattle.exec_rules.proofs.Running.{KeptByRounds}
use Rattle.exec_rules.specs.Close.{GoalRequest, held_goal, server_accepting}
use Rattle.exec_rules.specs.Ready.{queue_taken, timer_taken}
use Rattle.exec_rules.specs.Transcript.{as_entity, entity_at, first_world, handler_for, new_queue, new_server, new_timer, server_expired, takes_from_queue}
use Rattle.exec_rules.specs.World.{GoalWork, ServerEntry, TimerEntry, WorldState, has_room_for, is_for, is_server_at, goals_in, next_arrival, records_of, with_records, with_goals, with_held, standing, arrived, HeldGoal}
use Rattle.exec_rules.proofs.Records.{ids, all_put, parts_put}

-- a script of no more instructions than one may have
abbrev pub IsShort : Script → Type 0
IsShort script = length script ≤ INSTRUCTIONS

-- a server's script is short, as its goals' are, and it holds no more goals than one may
pub record IsSmallServer (entry : ServerEntry) : Type 0 where
  pub script : IsShort entry.handler.script
  pub goals : length entry.held ≤ GOALS
  pub works : AllByRecursion (λ held. IsShort held.work.script) entry.held

-- all scripts of a world are short, and no server holds more goals than it may
pub record IsSmall (world : WorldState) : Type 0 where
  pub timers : AllByRecursion (λ entry. IsShort entry.handler.script) world.timers
  pub queues : AllByRecursion (λ queue. IsShort queue.handler.script) world.queues
  pub servers : AllByRecursion IsSmallServer world.servers

-- ---- lists

pub all_changed : {A : Type 0} (P : A → Type 0) (test : A → Bool) (change : A → A) → ((one : A) → P one → P (change one)) → (all : List A) → AllByRecursion P all → AllByRecursion P (change_first test change all)
all_changed P test change kept [] p = tt
all_changed {A} P test change kept (one ∷ all) p = by (test one) refl (all_changed P test change kept all p.1)
  where
    by : (b : Bool) → test one ≡ b → AllByRecursion P (change_first test change all) → AllByRecursion P (change_first test change (one ∷ all))
    by true e rest = rw e (kept one p.0, p.1)
    by false e rest = rw e (p.0, rest)

length_changed : {A : Type 0} (test : A → Bool) (change : A → A) (all : List A) → length (change_first test change all) ≡ length all
length_changed test change [] = refl
length_changed test change (one ∷ all) = by (test one) (length_changed test change all)
  where
    by : (b : Bool) → length (change_first test change all) ≡ length all → length (if b then change one ∷ all else one ∷ change_first test change all) ≡ suc (length all)
    by true rest = refl
    by false rest = ap suc rest

pub filter_less : {A : Type 0} (test : A → Bool) (all : List A) → length (filter test all) ≤ length all
filter_less test all = omega (arith, length-filter_both test (λ one. not (test one)) (λ one. refl) all)

-- ---- rounds

server_tasked : (id : GoalId) (task : TaskState) (entry : ServerEntry) → IsSmallServer entry → IsSmallServer (with_held id (standing task) entry)
server_tasked id task entry p = record {
  script = p.script;
  goals = omega (arith, p.goals, length_changed (is_for id) (standing task) entry.held);
  works = all_changed (λ held. IsShort held.work.script) (is_for id) _ (λ held q. q) entry.held p.works;
}

server_arrived : (id : GoalId) (number : ℕ) (entry : ServerEntry) → IsSmallServer entry → IsSmallServer (with_held id (arrived number) entry)
server_arrived id number entry p = record {
  script = p.script;
  goals = omega (arith, p.goals, length_changed (is_for id) (arrived number) entry.held);
  works = all_changed (λ held. IsShort held.work.script) (is_for id) _ (λ held q. q) entry.held p.works;
}

server_changed : (change : List GoalRecord → List GoalRecord) → ((goals : List GoalRecord) → ids (change goals) ≡ ids goals) → (entry : ServerEntry) → IsSmallServer entry → IsSmallServer (with_goals change entry)
server_changed change same entry p =
    let after : List GoalRecord = change (records_of entry.held) in
    let long : length (with_records after entry.held) ≡ length entry.held =
    sym (length-map (with_records after entry.held) (λ (held : HeldGoal). held.work)) ∙ ap (λ (some : List GoalWork). length some) (parts_put (λ held. held.work) (λ goal held. refl) after entry.held (same (records_of entry.held))) ∙ length-map entry.held (λ (held : HeldGoal). held.work) in
    record { script = p.script; goals = omega (arith, long, p.goals); works = all_put (λ held. IsShort held.work.script) (λ goal held is q. q) after entry.held (same (records_of entry.held)) p.works }

-- a server accepts a goal where it has room for one more
server_accepted : (server : EntityNo) (number : ℕ) (moment : Moment) (how : Acceptance) (request : GoalRequest) (servers : List ServerEntry) → has_room_for request.id (goals_in server servers) ≡ true → AllByRecursion IsSmallServer servers →
    AllByRecursion IsSmallServer (change_first (is_server_at server) (server_accepting number moment how request) servers)
server_accepted server number moment how request [] room p = tt
server_accepted server number moment how request (entry ∷ servers) room p = by (is_server_at server entry) refl (server_accepted server number moment how request servers)
  where
    by : (b : Bool) → is_server_at server entry ≡ b →
        (has_room_for request.id (goals_in server servers) ≡ true → AllByRecursion IsSmallServer servers → AllByRecursion IsSmallServer (change_first (is_server_at server) (server_accepting number moment how request) servers)) →
        AllByRecursion IsSmallServer (change_first (is_server_at server) (server_accepting number moment how request) (entry ∷ servers))
    by true e rest =
        let here : has_room_for request.id (records_of entry.held) ≡ true = rw e at room in
        let few : nat_le GOALS (length (records_of entry.held)) ≡ false = (or_parts (holds_id request.id (records_of entry.held)) (is_full (records_of entry.held)) (not-true (holds_id request.id (records_of entry.held) || is_full (records_of entry.held)) here)).1 in
        let one_more : List HeldGoal = held_goal number moment how entry.handler.script request ∷ [] in
        let fits : length (entry.held ++ one_more) ≤ GOALS = omega (arith, leb-false GOALS (length (records_of entry.held)) few, length-map entry.held (λ (held : HeldGoal). held.goal), length-append entry.held one_more) in
        let accepted : IsSmallServer (server_accepting number moment how request entry) = record {
          script = p.0.script;
          goals = fits;
          works = all_append (λ held. IsShort held.work.script) entry.held one_more p.0.works (p.0.script, tt);
        } in
        rw e (accepted, p.1)
    by false e rest = let behind : has_room_for request.id (goals_in server servers) ≡ true = rw e at room in rw e (p.0, rest behind p.1)

server_left : (moment : Moment) (entry : ServerEntry) → IsSmallServer entry → IsSmallServer (server_expired moment entry)
server_left moment entry p = record {
  script = p.script;
  goals = omega (arith, p.goals, filter_less (λ (held : HeldGoal). not (is_expired moment entry.timeout held.goal)) entry.held);
  works = all_filter (λ held. IsShort held.work.script) _ entry.held p.works;
}

timer_called : (moment : Moment) (entry : TimerEntry) → IsShort entry.handler.script → IsShort (timer_taken moment entry).handler.script
timer_called moment entry p = by (is_due entry.timer moment) refl
  where
    by : (b : Bool) → is_due entry.timer moment ≡ b → IsShort (timer_taken moment entry).handler.script
    by true e = rw e p
    by false e = rw e p

pub small_kept : KeptByRounds IsSmall
small_kept = record {
  basic = record {
    lines_kept = λ lines world p. record { timers = p.timers; queues = p.queues; servers = p.servers };
    queues_kept = λ entity new world p. record { timers = p.timers; queues = all_changed (λ queue. IsShort queue.handler.script) _ _ (λ queue q. q) world.queues p.queues; servers = p.servers };
    goals_kept = λ server change world same p. record { timers = p.timers; queues = p.queues; servers = all_changed IsSmallServer _ _ (server_changed change same) world.servers p.servers };
    tasks_kept = λ server id task world p. record { timers = p.timers; queues = p.queues; servers = all_changed IsSmallServer _ _ (server_tasked id task) world.servers p.servers };
    arrivals_kept = λ server id world p. record { timers = p.timers; queues = p.queues; servers = all_changed IsSmallServer _ _ (server_arrived id (next_arrival world)) world.servers p.servers };
    calls_kept = λ client world p. record { timers = p.timers; queues = p.queues; servers = p.servers };
    sending_kept = λ client world p. record { timers = p.timers; queues = p.queues; servers = p.servers };
    variables_kept = λ group variables world p. record { timers = p.timers; queues = p.queues; servers = p.servers };
  };
  accepts_kept = λ server moment how request world room p. record { timers = p.timers; queues = p.queues; servers = server_accepted server (next_arrival world) moment how request world.servers room p.servers };
  expiry_kept = λ moment world p. record { timers = p.timers; queues = p.queues; servers = all_mapped IsSmallServer IsSmallServer _ (server_left moment) world.servers p.servers };
  snapshot_kept = λ moment world p. record {
    timers = all_mapped (λ entry. IsShort entry.handler.script) (λ entry. IsShort entry.handler.script) _ (timer_called moment) world.timers p.timers;
    queues = all_mapped (λ queue. IsShort queue.handler.script) (λ queue. IsShort queue.handler.script) queue_taken (λ queue q. q) world.queues p.queues;
    servers = p.servers;
  };
}

-- ---- the first world

result_short : (script : Option Script) → AllByRecursion (λ roled. IsShort roled.script) (result_scripts script) → IsShort (unwrap_or script [])
result_short None all = omega arith
result_short (Some script) all = all.0

-- the script of an entity's callbacks of a kind is one of its scripts
script_short : (of : Kind) (is : Resolved) → AllByRecursion (λ roled. IsShort roled.script) (scripts_of is) → IsShort (unwrap_or (callback_script of is) [])
script_short kind.Timer (Timer entity) all = all.0
script_short kind.Message (Timer entity) all = omega arith
script_short kind.Request (Timer entity) all = omega arith
script_short kind.Reply (Timer entity) all = omega arith
script_short kind.Goal (Timer entity) all = omega arith
script_short kind.Cancel (Timer entity) all = omega arith
script_short kind.Ask (Timer entity) all = omega arith
script_short kind.Poll (Timer entity) all = omega arith
script_short kind.Response (Timer entity) all = omega arith
script_short kind.Code (Timer entity) all = omega arith
script_short kind.Feedback (Timer entity) all = omega arith
script_short kind.Result (Timer entity) all = omega arith
script_short kind.Timer (Subscription entity) all = omega arith
script_short kind.Message (Subscription entity) all = all.0
script_short kind.Request (Subscription entity) all = omega arith
script_short kind.Reply (Subscription entity) all = omega arith
script_short kind.Goal (Subscription entity) all = omega arith
script_short kind.Cancel (Subscription entity) all = omega arith
script_short kind.Ask (Subscription entity) all = omega arith
script_short kind.Poll (Subscription entity) all = omega arith
script_short kind.Response (Subscription entity) all = omega arith
script_short kind.Code (Subscription entity) all = omega arith
script_short kind.Feedback (Subscription entity) all = omega arith
script_short kind.Result (Subscription entity) all = omega arith
script_short kind.Timer (Service entity) all = omega arith
script_short kind.Message (Service entity) all = omega arith
script_short kind.Request (Service entity) all = all.0
script_short kind.Reply (Service entity) all = omega arith
script_short kind.Goal (Service entity) all = omega arith
script_short kind.Cancel (Service entity) all = omega arith
script_short kind.Ask (Service entity) all = omega arith
script_short kind.Poll (Service entity) all = omega arith
script_short kind.Response (Service entity) all = omega arith
script_short kind.Code (Service entity) all = omega arith
script_short kind.Feedback (Service entity) all = omega arith
script_short kind.Result (Service entity) all = omega arith
script_short kind.Timer (Client entity) all = omega arith
script_short kind.Message (Client entity) all = omega arith
script_short kind.Request (Client entity) all = omega arith
script_short kind.Reply (Client entity) all = all.0
script_short kind.Goal (Client entity) all = omega arith
script_short kind.Cancel (Client entity) all = omega arith
script_short kind.Ask (Client entity) all = omega arith
script_short kind.Poll (Client entity) all = omega arith
script_short kind.Response (Client entity) all = omega arith
script_short kind.Code (Client entity) all = omega arith
script_short kind.Feedback (Client entity) all = omega arith
script_short kind.Result (Client entity) all = omega arith
script_short kind.Timer (Server entity) all = omega arith
script_short kind.Message (Server entity) all = omega arith
script_short kind.Request (Server entity) all = omega arith
script_short kind.Reply (Server entity) all = omega arith
script_short kind.Goal (Server entity) all = all.0
script_short kind.Cancel (Server entity) all = all.1.0
script_short kind.Ask (Server entity) all = omega arith
script_short kind.Poll (Server entity) all = all.1.1.0
script_short kind.Response (Server entity) all = omega arith
script_short kind.Code (Server entity) all = omega arith
script_short kind.Feedback (Server entity) all = omega arith
script_short kind.Result (Server entity) all = omega arith
script_short kind.Timer (ActionClient entity) all = omega arith
script_short kind.Message (ActionClient entity) all = omega arith
script_short kind.Request (ActionClient entity) all = omega arith
script_short kind.Reply (ActionClient entity) all = omega arith
script_short kind.Goal (ActionClient entity) all = omega arith
script_short kind.Cancel (ActionClient entity) all = omega arith
script_short kind.Ask (ActionClient entity) all = omega arith
script_short kind.Poll (ActionClient entity) all = omega arith
script_short kind.Response (ActionClient entity) all = all.0
script_short kind.Code (ActionClient entity) all = all.1.0
script_short kind.Feedback (ActionClient entity) all = all.1.1.0
script_short kind.Result (ActionClient entity) all = result_short entity.on_result all.1.1.1

-- nothing is asked of a topic, as which no entity is declared
topic_short : (of : Kind) → IsShort (unwrap_or (callback_script of (as_entity declared.Topic).is) [])
topic_short kind.Timer = omega arith
topic_short kind.Message = omega arith
topic_short kind.Request = omega arith
topic_short kind.Reply = omega arith
topic_short kind.Goal = omega arith
topic_short kind.Cancel = omega arith
topic_short kind.Ask = omega arith
topic_short kind.Poll = omega arith
topic_short kind.Response = omega arith
topic_short kind.Code = omega arith
topic_short kind.Feedback = omega arith
topic_short kind.Result = omega arith

declared_short : (graph : GraphData) (of : Kind) (is : Declared) → IsLawfulDeclared graph is → IsShort (unwrap_or (callback_script of (as_entity is).is) [])
declared_short graph of declared.Topic p = topic_short of
declared_short graph of (declared.Entity entity) p =
    script_short of entity.is (all_weaker (IsLawfulScript graph p.group) (λ roled. IsShort roled.script) (λ roled q. q.short) (scripts_of entity.is) (recursion_from_All (IsLawfulScript graph p.group) (scripts_of entity.is) p.scripts))

lawful_at : (graph : GraphData) (entities : List EntityData) (number : ℕ) → AllByRecursion (λ entity. IsLawfulDeclared graph entity.is) entities → IsLawfulDeclared graph (slice_index_or entities number (record { name = []; is = declared.Topic })).is
lawful_at graph [] number p = tt
lawful_at graph (entity ∷ entities) zero p = p.0
lawful_at graph (entity ∷ entities) (suc number) p = lawful_at graph entities number p.1

pub first_small : (plan : PlanData) → IsLawful plan.graph → IsSmall (first_world plan)
first_small plan lawful =
    let short : (of : Kind) (number : EntityNo) → IsShort (handler_for plan.graph of number (entity_at plan.graph number)).script = λ of number. declared_short plan.graph of (declared_at plan.graph number) (lawful_at plan.graph plan.graph.entities number (recursion_from_All (λ entity. IsLawfulDeclared plan.graph entity.is) plan.graph.entities lawful.entities)) in
    record {
      timers = all_map (λ entry. IsShort entry.handler.script) (new_timer plan.graph) (λ number. short kind.Timer number) (entities_where is_timer plan.graph);
      queues = all_map (λ queue. IsShort queue.handler.script) (new_queue plan.order plan.graph) (λ waitable. short waitable.kind waitable.entity) (filter (λ (waitable : Waitable). takes_from_queue waitable.kind) (wait_set plan.graph));
      servers = all_map IsSmallServer (new_server plan.graph) (λ number. record { script = short kind.Poll number; goals = omega arith; works = tt }) (entities_where is_server plan.graph);
    }
