-- A callback's variables and its goal's task may come home before its effects are given.
use Rattle.std.proofs.Common.{◌≡◌, ℕ, ◌+◌, ℤ, Bool, true, false, if◌then◌else◌, List, [], ◌∷◌, map, Option, None, Some, refl, sym, ap, ◌∙◌}
use Rattle.std.specs.List.{find, fold}
use Rattle.std.specs.Option.{option_map_or}
use Rattle.exec_goal.specs.Cancel.{CancelRequest}
use Rattle.exec_goal.specs.State.{is_accepted, status_of}
use Rattle.exec_goal.specs.Table.{GoalRecord, has_id, after_event}
use Rattle.exec_msg.specs.Numbers.{EntityNo, GoalId}
use Rattle.exec_plan.specs.Graph.{GroupNo}
use Rattle.exec_msg.specs.Lists.{change_first}
use Rattle.exec_msg.specs.declared.goal.Event.TheVariants as event
use Rattle.exec_msg.specs.declared.line.Line.{Line}
use Rattle.exec_msg.specs.declared.line.Line.TheVariants as line
use Rattle.exec_script.specs.declared.effects.Effect.{Effect}
use Rattle.exec_script.specs.declared.effects.Effect.TheVariants as effect
use Rattle.exec_task.specs.Task.{TaskState}
use Rattle.exec_rules.proofs.Keeping.{ids_changed}
use Rattle.exec_rules.proofs.Later.{callback_later}
use Rattle.exec_rules.proofs.Records.{ids, put_changed, records_left}
use Rattle.exec_rules.specs.Callback.{AfterCallback}
use Rattle.exec_rules.specs.Close.{close_callback, goal_arrived}
use Rattle.exec_rules.specs.Give.{publish, call_by, send_goal_by, send_cancel, cancel_all_by, cancel_goal_by, execute_goal, execute, sender_at, give_feedback, give, give_all}
use Rattle.exec_rules.specs.Item.{goal_id}
use Rattle.exec_rules.specs.Ready.{run_line}
use Rattle.exec_rules.specs.Run.{work_for, with_polled, variables_for, with_variables_for, brought_home, after_callback, run, apart, effects_of, commit}
use Rattle.exec_script.specs.Script.{Variables}
use Rattle.exec_rules.specs.World.{WorldState, TopicEntry, HeldGoal, Queue, ServerEntry, ClientEntry, ActionClientEntry, add_line, add_lines, drop_line, lost_by, queued, push, push_any, subscribers_at, is_server_at, goals_at, records_of, with_records, with_goals, change_goals, is_for, with_held, change_held, next_arrival, standing, with_task, client_at, with_call, action_client_at, with_goal_sent, with_variables}
use Rattle.exec_rules.specs.declared.item.Item.{Item}
use Rattle.exec_rules.specs.declared.item.Item.TheVariants as item
use Rattle.exec_rules.specs.declared.ready.Cause.{Cause}
use Rattle.exec_rules.specs.declared.ready.Cause.TheVariants as cause
use Rattle.exec_rules.specs.declared.ready.Ready.{Ready}

-- a change that comes to the same before each change that an effect makes and behind it, and that leaves all that effects
-- read
pub record StandsApart (home : WorldState → WorldState) : Type 0 where
  pub lines_apart : (lines : List Line) (world : WorldState) → home (add_lines lines world) ≡ add_lines lines (home world)
  pub queued_apart : (entity : EntityNo) (new : Item) (world : WorldState) → home (queued entity new world) ≡ queued entity new (home world)
  pub calls_apart : (client : EntityNo) (world : WorldState) → home (with_call client world) ≡ with_call client (home world)
  pub sending_apart : (client : EntityNo) (world : WorldState) → home (with_goal_sent client world) ≡ with_goal_sent client (home world)
  pub arrivals_apart : (server : EntityNo) (id : GoalId) (world : WorldState) → home (goal_arrived server id world) ≡ goal_arrived server id (home world)
  pub goals_apart : (server : EntityNo) (change : List GoalRecord → List GoalRecord) (world : WorldState) → ((goals : List GoalRecord) → ids (change goals) ≡ ids goals) → home (change_goals server change world) ≡ change_goals server change (home world)
  pub order_same : (world : WorldState) → (home world).order ≡ world.order
  pub topics_same : (world : WorldState) → (home world).topics ≡ world.topics
  pub queues_same : (world : WorldState) → (home world).queues ≡ world.queues
  pub clients_same : (world : WorldState) → (home world).clients ≡ world.clients
  pub action_clients_same : (world : WorldState) → (home world).action_clients ≡ world.action_clients
  pub goals_same : (server : EntityNo) (world : WorldState) → goals_at server (home world) ≡ goals_at server world
  pub senders_same : (server : EntityNo) (id : GoalId) (world : WorldState) → sender_at server id (home world) ≡ sender_at server id world

-- ---- effects

module _ {home : WorldState → WorldState} (a : StandsApart home) where
  pub line_apart : (one : Line) (world : WorldState) → home (add_line one world) ≡ add_line one (home world)
  line_apart one world = a.lines_apart (one ∷ []) world

  pub push_apart : (entity : EntityNo) (new : Item) (world : WorldState) → home (push entity new world) ≡ push entity new (home world)
  push_apart entity new world =
      a.lines_apart (map (drop_line entity) (lost_by entity new world)) (queued entity new world)
      ∙ ap (λ (after : WorldState). add_lines (map (drop_line entity) (lost_by entity new world)) after) (a.queued_apart entity new world)
      ∙ ap (λ (queues : List Queue). add_lines (map (drop_line entity) (lost_by entity new (record world { queues = queues }))) (queued entity new (home world))) (sym (a.queues_same world))

  pub push_any_apart : (entity : Option EntityNo) (new : Item) (world : WorldState) → home (push_any entity new world) ≡ push_any entity new (home world)
  push_any_apart None new world = refl
  push_any_apart (Some entity) new world = push_apart entity new world

  pushes_apart : (new : Item) (entities : List EntityNo) (world : WorldState) → home (fold (λ before entity. push entity new before) world entities) ≡ fold (λ before entity. push entity new before) (home world) entities
  pushes_apart new [] world = refl
  pushes_apart new (entity ∷ entities) world =
      pushes_apart new entities (push entity new world)
      ∙ ap (λ (after : WorldState). fold (λ before one. push one new before) after entities) (push_apart entity new world)

  publish_apart : (topic : EntityNo) (value : ℤ) (world : WorldState) → home (publish topic value world) ≡ publish topic value (home world)
  publish_apart topic value world =
      pushes_apart (item.Message value) (subscribers_at topic world) world
      ∙ ap (λ (topics : List TopicEntry). fold (λ before one. push one (item.Message value) before) (home world) (subscribers_at topic (record world { topics = topics }))) (sym (a.topics_same world))

  call_apart : (client : Option ClientEntry) (value : ℤ) (world : WorldState) → home (call_by client value world) ≡ call_by client value (home world)
  call_apart None value world = refl
  call_apart (Some client) value world =
      push_apart client.service (item.Request client.entity (client.calls + 1) value) (add_line (line.Call client.entity (client.calls + 1) value) (with_call client.entity world))
      ∙ ap (λ (after : WorldState). push client.service (item.Request client.entity (client.calls + 1) value) after)
      (line_apart (line.Call client.entity (client.calls + 1) value) (with_call client.entity world)
      ∙ ap (λ (after : WorldState). add_line (line.Call client.entity (client.calls + 1) value) after) (a.calls_apart client.entity world))

  send_goal_apart : (client : Option ActionClientEntry) (value : ℤ) (world : WorldState) → home (send_goal_by client value world) ≡ send_goal_by client value (home world)
  send_goal_apart None value world = refl
  send_goal_apart (Some client) value world =
      let id : GoalId = goal_id client.place (client.goals + 1) in
      push_apart client.server (item.Goal id (Some client.entity) value) (add_line (line.Goal client.entity id value) (with_goal_sent client.entity world))
      ∙ ap (λ (after : WorldState). push client.server (item.Goal id (Some client.entity) value) after)
      (line_apart (line.Goal client.entity id value) (with_goal_sent client.entity world)
      ∙ ap (λ (after : WorldState). add_line (line.Goal client.entity id value) after) (a.sending_apart client.entity world))

  send_cancel_apart : (client : ActionClientEntry) (request : CancelRequest) (world : WorldState) → home (send_cancel client request world) ≡ send_cancel client request (home world)
  send_cancel_apart client request world =
      push_apart client.server (item.Cancel request (Some client.entity)) (add_line (line.Cancel client.entity request.id request.stamp) world)
      ∙ ap (λ (after : WorldState). push client.server (item.Cancel request (Some client.entity)) after) (line_apart (line.Cancel client.entity request.id request.stamp) world)

  cancel_all_apart : (client : Option ActionClientEntry) (stamp : ℕ) (world : WorldState) → home (cancel_all_by client stamp world) ≡ cancel_all_by client stamp (home world)
  cancel_all_apart None stamp world = refl
  cancel_all_apart (Some client) stamp world = send_cancel_apart client (record { id = 0; stamp = stamp }) world

  cancel_goal_apart : (client : Option ActionClientEntry) (number stamp : ℕ) (world : WorldState) → home (cancel_goal_by client number stamp world) ≡ cancel_goal_by client number stamp (home world)
  cancel_goal_apart None number stamp world = refl
  cancel_goal_apart (Some client) number stamp world = send_cancel_apart client (record { id = goal_id client.place number; stamp = stamp }) world

  execute_goal_apart : (server : EntityNo) (goal : Option GoalRecord) (world : WorldState) → home (execute_goal server goal world) ≡ execute_goal server goal (home world)
  execute_goal_apart server None world = refl
  execute_goal_apart server (Some goal) world =
      let said : Line = line.State server goal.id (status_of (after_event event.Execute goal).state) in
      line_apart said (change_goals server (change_first (has_id goal.id) (after_event event.Execute)) world)
      ∙ ap (λ (after : WorldState). add_line said after) (a.goals_apart server (change_first (has_id goal.id) (after_event event.Execute)) world (ids_changed goal.id (after_event event.Execute) (λ one. refl)))

  execute_apart : (server : EntityNo) (world : WorldState) → home (execute server world) ≡ execute server (home world)
  execute_apart server world =
      execute_goal_apart server (find (λ goal. is_accepted goal.state) (goals_at server world)) world
      ∙ ap (λ (goals : List GoalRecord). execute_goal server (find (λ goal. is_accepted goal.state) goals) (home world)) (sym (a.goals_same server world))

  feedback_apart : (server : EntityNo) (why : Cause) (value : ℤ) (world : WorldState) → home (give_feedback server why value world) ≡ give_feedback server why value (home world)
  feedback_apart server cause.Due value world = refl
  feedback_apart server (cause.Took taken) value world = refl
  feedback_apart server (cause.Woke id goal canceling) value world =
      push_any_apart (sender_at server id world) (item.Feedback id value) (add_line (line.Feedback server id value) world)
      ∙ ap (λ (after : WorldState). push_any (sender_at server id world) (item.Feedback id value) after) (line_apart (line.Feedback server id value) world)
      ∙ ap (λ (sender : Option EntityNo). push_any sender (item.Feedback id value) (add_line (line.Feedback server id value) (home world))) (sym (a.senders_same server id world))

  give_apart : (one : Ready) (given : Effect) (world : WorldState) → home (give one given world) ≡ give one given (home world)
  give_apart one (effect.Publish topic value) world =
      publish_apart topic value (add_line (line.Pub topic value) world)
      ∙ ap (λ (after : WorldState). publish topic value after) (line_apart (line.Pub topic value) world)
  give_apart one (effect.Call client value) world =
      call_apart (client_at client world) value world
      ∙ ap (λ (clients : List ClientEntry). call_by (client_at client (record world { clients = clients })) value (home world)) (sym (a.clients_same world))
  give_apart one (effect.SendGoal client value) world =
      send_goal_apart (action_client_at client world) value world
      ∙ ap (λ (clients : List ActionClientEntry). send_goal_by (action_client_at client (record world { action_clients = clients })) value (home world)) (sym (a.action_clients_same world))
  give_apart one (effect.CancelAll client stamp) world =
      cancel_all_apart (action_client_at client world) stamp world
      ∙ ap (λ (clients : List ActionClientEntry). cancel_all_by (action_client_at client (record world { action_clients = clients })) stamp (home world)) (sym (a.action_clients_same world))
  give_apart one (effect.CancelGoal client number stamp) world =
      cancel_goal_apart (action_client_at client world) number stamp world
      ∙ ap (λ (clients : List ActionClientEntry). cancel_goal_by (action_client_at client (record world { action_clients = clients })) number stamp (home world)) (sym (a.action_clients_same world))
  give_apart one (effect.Execute server) world = execute_apart server world
  give_apart one (effect.Log value) world = line_apart (line.Log one.entity value) world
  give_apart one (effect.Feedback value) world = feedback_apart one.entity one.cause value world

  pub effects_apart : (one : Ready) (effects : List Effect) (world : WorldState) → home (give_all one effects world) ≡ give_all one effects (home world)
  effects_apart one [] world = refl
  effects_apart one (given ∷ effects) world =
      effects_apart one effects (give one given world)
      ∙ ap (λ (after : WorldState). give_all one effects after) (give_apart one given world)

-- ---- what comes home

-- changes of a list's first elements that pass tests come to the same in either order, where neither change bears on the
-- other and on its test
changed_in_turn : {A : Type 0} (test other : A → Bool) (change another : A → A) → ((x : A) → test (another x) ≡ test x) → ((x : A) → other (change x) ≡ other x) → ((x : A) → change (another x) ≡ another (change x)) → (xs : List A) → change_first test change (change_first other another xs) ≡ change_first other another (change_first test change xs)
changed_in_turn test other change another kept left same [] = refl
changed_in_turn {A} test other change another kept left same (x ∷ xs) = by (test x) (other x) refl refl (changed_in_turn test other change another kept left same xs)
  where
    by : (b c : Bool) → test x ≡ b → other x ≡ c → change_first test change (change_first other another xs) ≡ change_first other another (change_first test change xs) → change_first test change (change_first other another (x ∷ xs)) ≡ change_first other another (change_first test change (x ∷ xs))
    by true true e f rest = rw (e, f, kept x ∙ e, left x ∙ f) (ap (λ (first : A). first ∷ xs) (same x))
    by true false e f rest = rw (e, f, e, left x ∙ f) refl
    by false true e f rest = rw (e, f, kept x ∙ e) refl
    by false false e f rest = rw (e, f, e) (ap (λ (others : List A). x ∷ others) rest)

-- what is read of the first element that passes a test stays, where a change leaves that and the test
pub read_unchanged : {A B : Type 0} (part : A → B) (none : B) (test other : A → Bool) (change : A → A) → ((x : A) → other (change x) ≡ other x) → ((x : A) → part (change x) ≡ part x) → (xs : List A) → option_map_or part (find other (change_first test change xs)) none ≡ option_map_or part (find other xs) none
read_unchanged part none test other change left same [] = refl
read_unchanged part none test other change left same (x ∷ xs) = by (test x) (other x) refl refl (read_unchanged part none test other change left same xs)
  where
    by : (b c : Bool) → test x ≡ b → other x ≡ c → option_map_or part (find other (change_first test change xs)) none ≡ option_map_or part (find other xs) none → option_map_or part (find other (change_first test change (x ∷ xs))) none ≡ option_map_or part (find other (x ∷ xs)) none
    by true true e f rest = rw (e, left x ∙ f, f) (same x)
    by true false e f rest = rw (e, left x ∙ f, f) refl
    by false true e f rest = rw (e, f) refl
    by false false e f rest = rw (e, f) rest

-- the action client that sent a goal of a server
abbrev sender_in : GoalId → ServerEntry → Option EntityNo
sender_in id entry = option_map_or (λ held. held.client) (find (is_for id) entry.held) None

sender_found : (id : GoalId) (found : Option ServerEntry) → option_map_or (λ held. held.client) (find (is_for id) (option_map_or (λ entry. entry.held) found [])) None ≡ option_map_or (sender_in id) found None
sender_found id None = refl
sender_found id (Some entry) = refl

-- a server's goal is changed, but not its record, its sender and the number of its arrival
module _ (server : EntityNo) (goal : GoalId) (change : HeldGoal → HeldGoal) (goal_same : (held : HeldGoal) → (change held).goal ≡ held.goal) (record_apart : (goal : GoalRecord) (held : HeldGoal) → change (record held { goal = goal }) ≡ record (change held) { goal = goal }) (client_same : (held : HeldGoal) → (change held).client ≡ held.client) (arrival_apart : (number : ℕ) (held : HeldGoal) → change (record held { arrival = number }) ≡ record (change held) { arrival = number }) where
  abbrev pub held_changed : WorldState → WorldState
  held_changed world = change_held server goal change world

  is_for_same : (id : GoalId) (held : HeldGoal) → is_for id (change held) ≡ is_for id held
  is_for_same id held = ap (has_id id) (goal_same held)

  goals_in_turn : (by : List GoalRecord → List GoalRecord) → ((goals : List GoalRecord) → ids (by goals) ≡ ids goals) → (entry : ServerEntry) → with_held goal change (with_goals by entry) ≡ with_goals by (with_held goal change entry)
  goals_in_turn by same entry =
      ap (λ (held : List HeldGoal). record entry { held = held })
      (put_changed goal change goal_same record_apart (by (records_of entry.held)) entry.held (same (records_of entry.held))
      ∙ ap (λ (goals : List GoalRecord). with_records (by goals) (change_first (is_for goal) change entry.held)) (sym (records_left goal change goal_same entry.held)))

  pub held_apart : StandsApart held_changed
  held_apart = record {
    lines_apart = λ lines world. refl;
    queued_apart = λ entity new world. refl;
    calls_apart = λ client world. refl;
    sending_apart = λ client world. refl;
    arrivals_apart = λ other id world.
        ap (λ (servers : List ServerEntry). record (goal_arrived other id world) { servers = servers })
        (changed_in_turn (is_server_at server) (is_server_at other) _ _ (λ entry. refl) (λ entry. refl)
        (λ entry. ap (λ (held : List HeldGoal). record entry { held = held })
        (changed_in_turn (is_for goal) (is_for id) change (λ held. record held { arrival = next_arrival world }) (λ held. refl) (is_for_same id) (arrival_apart (next_arrival world)) entry.held)) world.servers);
    goals_apart = λ other by world same.
        ap (λ (servers : List ServerEntry). record world { servers = servers })
        (changed_in_turn (is_server_at server) (is_server_at other) _ _ (λ entry. refl) (λ entry. refl) (goals_in_turn by same) world.servers);
    order_same = λ world. refl;
    topics_same = λ world. refl;
    queues_same = λ world. refl;
    clients_same = λ world. refl;
    action_clients_same = λ world. refl;
    goals_same = λ other world.
        read_unchanged (λ entry. records_of entry.held) [] (is_server_at server) (is_server_at other) _ (λ entry. refl) (λ entry. records_left goal change goal_same entry.held) world.servers;
    senders_same = λ other id world.
        sender_found id (find (is_server_at other) (held_changed world).servers)
        ∙ read_unchanged (sender_in id) None (is_server_at server) (is_server_at other) _ (λ entry. refl)
        (λ entry. read_unchanged (λ held. held.client) None (is_for goal) (is_for id) change (is_for_same id) client_same entry.held) world.servers
        ∙ sym (sender_found id (find (is_server_at other) world.servers));
  }

task_apart : (server : EntityNo) (goal : GoalId) (task : TaskState) → StandsApart (λ world. with_task server goal task world)
task_apart server goal task = held_apart server goal (standing task) (λ held. refl) (λ goal held. refl) (λ held. refl) (λ number held. refl)

pub variables_apart : (group : GroupNo) (variables : Variables) → StandsApart (λ world. with_variables group variables world)
variables_apart group variables = record {
  lines_apart = λ lines world. refl;
  queued_apart = λ entity new world. refl;
  calls_apart = λ client world. refl;
  sending_apart = λ client world. refl;
  arrivals_apart = λ server id world. refl;
  goals_apart = λ server change world same. refl;
  order_same = λ world. refl;
  topics_same = λ world. refl;
  queues_same = λ world. refl;
  clients_same = λ world. refl;
  action_clients_same = λ world. refl;
  goals_same = λ server world. refl;
  senders_same = λ server id world. refl;
}

nothing_apart : StandsApart (λ world. world)
nothing_apart = record {
  lines_apart = λ lines world. refl;
  queued_apart = λ entity new world. refl;
  calls_apart = λ client world. refl;
  sending_apart = λ client world. refl;
  arrivals_apart = λ server id world. refl;
  goals_apart = λ server change world same. refl;
  order_same = λ world. refl;
  topics_same = λ world. refl;
  queues_same = λ world. refl;
  clients_same = λ world. refl;
  action_clients_same = λ world. refl;
  goals_same = λ server world. refl;
  senders_same = λ server id world. refl;
}

variables_for_apart : (one : Ready) (variables : Variables) → StandsApart (λ world. with_variables_for one variables world)
variables_for_apart one variables = by one.exclusive
  where
    by : (b : Bool) → StandsApart (λ world. if b then with_variables one.group variables world else world)
    by true = variables_apart one.group variables
    by false = nothing_apart

polled_apart : (server : EntityNo) (why : Cause) (task : Option TaskState) → StandsApart (λ world. with_polled server why task world)
polled_apart server cause.Due task = nothing_apart
polled_apart server (cause.Took taken) task = nothing_apart
polled_apart server (cause.Woke id value canceling) None = nothing_apart
polled_apart server (cause.Woke id value canceling) (Some task) = task_apart server id task

-- one change behind another
both_apart : {first next : WorldState → WorldState} → StandsApart first → StandsApart next → StandsApart (λ world. next (first world))
both_apart {first} {next} a b = record {
  lines_apart = λ lines world. ap next (a.lines_apart lines world) ∙ b.lines_apart lines (first world);
  queued_apart = λ entity new world. ap next (a.queued_apart entity new world) ∙ b.queued_apart entity new (first world);
  calls_apart = λ client world. ap next (a.calls_apart client world) ∙ b.calls_apart client (first world);
  sending_apart = λ client world. ap next (a.sending_apart client world) ∙ b.sending_apart client (first world);
  arrivals_apart = λ server id world. ap next (a.arrivals_apart server id world) ∙ b.arrivals_apart server id (first world);
  goals_apart = λ server change world same. ap next (a.goals_apart server change world same) ∙ b.goals_apart server change (first world) same;
  order_same = λ world. b.order_same (first world) ∙ a.order_same world;
  topics_same = λ world. b.topics_same (first world) ∙ a.topics_same world;
  queues_same = λ world. b.queues_same (first world) ∙ a.queues_same world;
  clients_same = λ world. b.clients_same (first world) ∙ a.clients_same world;
  action_clients_same = λ world. b.action_clients_same (first world) ∙ a.action_clients_same world;
  goals_same = λ server world. b.goals_same server (first world) ∙ a.goals_same server world;
  senders_same = λ server id world. b.senders_same server id (first world) ∙ a.senders_same server id world;
}

pub home_apart : {S : Type 0} (one : Ready) (outcome : AfterCallback S) → StandsApart (λ world. brought_home one outcome world)
home_apart one outcome = both_apart (variables_for_apart one outcome.variables) (polled_apart one.entity one.cause outcome.task)

-- a callback may run apart from the world
pub runs_apart : (one : Ready) (world : WorldState) → run one world ≡ commit one (effects_of (apart one world)) (brought_home one (apart one world) world)
runs_apart one world =
    let outcome : AfterCallback (List Effect) = apart one world in
    ap (λ (after : AfterCallback WorldState). after_callback one after)
    (callback_later (give one) (add_line (run_line one) world) one (work_for one.entity one.cause world) (variables_for one world))
    ∙ ap (λ (after : WorldState). close_callback one outcome.close after)
    (effects_apart (home_apart one outcome) one outcome.given (add_line (run_line one) world)
    ∙ ap (λ (after : WorldState). give_all one outcome.given after) (line_apart (home_apart one outcome) (run_line one) world))
