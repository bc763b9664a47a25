-- Through rounds, asks for results stand at the server of the action client that made them, and it alone notes that client.
use Rattle.std.proofs.Common.{◌≡◌, ℕ, suc, ◌+◌, ℤ, pos, Bool, true, false, not, List, [], ◌∷◌, map, Option, None, Some, refl, sym, subst, ◌∙◌}
use Rattle.std.specs.List.{AllByRecursion, filter}
use Rattle.std.proofs.lemmas.Bool.{eqb-true}
use Rattle.exec_goal.specs.Cancel.{Decided, after_answer, is_moved, table_after}
use Rattle.exec_goal.specs.State.{status_of}
use Rattle.exec_goal.specs.Table.{GoalRecord, Asked, told, later, unknown, has_id, after_event, after_end, asked_by, asked_for, is_expired, new_goal}
use Rattle.exec_msg.specs.Numbers.{EntityNo, GoalId, Moment}
use Rattle.exec_plan.specs.Feeding.{fed_in}
use Rattle.exec_plan.specs.Graph.{entities_where, is_server, wait_set}
use Rattle.exec_plan.specs.Plan.{PlanData}
use Rattle.exec_msg.specs.Lists.{change_first}
use Rattle.exec_msg.specs.Timer.{is_due}
use Rattle.exec_msg.specs.declared.goal.Event.{Event}
use Rattle.exec_msg.specs.declared.goal.Event.TheVariants as event
use Rattle.exec_msg.specs.declared.goal.GoalStatus.{GoalStatus}
use Rattle.exec_msg.specs.declared.goal.GoalStatus.TheVariants as status
use Rattle.exec_msg.specs.declared.line.Line.TheVariants as line
use Rattle.exec_laws.proofs.Addresses.{Holds, action_client_knows, held_after, held_first, held_taken}
use Rattle.exec_rules.proofs.Identifiers.{Makes, changing, tasking, accepting, goal_arriving}
use Rattle.exec_rules.proofs.Keeping.{Moves, anywhere, feed_keeps, fold_keeps, ids_answered, ids_changed, publish_kept, push_kept}
use Rattle.exec_rules.proofs.Pairs.{all_append, all_filter, all_flat, all_flat_where, all_map}
use Rattle.exec_rules.proofs.ReadyLists.{all_listed}
use Rattle.exec_rules.proofs.Running.{KeptByRounds, is_ask, run_told}
use Rattle.exec_rules.proofs.Shapes.{shape_kept}
use Rattle.exec_rules.specs.Close.{answer_ask, goal_at, tell, tell_end, with_ended}
use Rattle.exec_rules.specs.Item.{taker_of}
use Rattle.exec_rules.specs.Lines.{is_answer}
use Rattle.exec_rules.specs.Ready.{due_ready, item_ready, poll_ready, queue_ready, ready_list, take_inputs}
use Rattle.exec_rules.specs.Run.{run}
use Rattle.exec_rules.specs.Shape.{shape_of}
use Rattle.exec_rules.specs.Transcript.{entity_at, first_world, new_server, server_expired, server_of, takes_from_queue, at_snapshot, last_world, run_all, round, rounds}
use Rattle.exec_rules.specs.World.{WorldState, Queue, ServerEntry, TimerEntry, add_line, goals_at, is_server_at, push, next_arrival, records_of}
use Rattle.exec_rules.specs.declared.item.Item.{Item}
use Rattle.exec_rules.specs.declared.item.Item.TheVariants as item
use Rattle.exec_rules.specs.declared.ready.Cause.{Cause}
use Rattle.exec_rules.specs.declared.ready.Cause.TheVariants as cause
use Rattle.exec_rules.specs.declared.ready.Ready.{Ready}
use Rattle.exec_rules.proofs.Records.{records_filtered}

module _ (plan : PlanData) where
  -- a server is the one that an action client asks
  abbrev pub IsItsServer : EntityNo → EntityNo → Type 0
  IsItsServer server client = server_of (entity_at plan.graph client).is ≡ server

  -- an ask stands at its client's server
  abbrev pub IsAtItsServer : EntityNo → Item → Type 0
  IsAtItsServer entity (item.Ask goal client) = IsItsServer entity client
  IsAtItsServer entity _ = Unit {0}

  -- an ask that a callback took
  abbrev IsTakenThere : EntityNo → Cause → Type 0
  IsTakenThere entity (cause.Took taken) = IsAtItsServer entity taken
  IsTakenThere entity _ = Unit {0}

  abbrev pub AreItsClients : EntityNo → GoalRecord → Type 0
  AreItsClients server goal = AllByRecursion (IsItsServer server) goal.askers

  abbrev pub NotesItsClients : ServerEntry → Type 0
  NotesItsClients entry = AllByRecursion (AreItsClients entry.handler.entity) (records_of entry.held)

  -- of a world
  pub record AreOwned (world : WorldState) : Type 0 where
    pub shape : shape_of world ≡ shape_of (first_world plan)
    pub asks : AllByRecursion (Holds IsAtItsServer) world.queues
    pub notes : AllByRecursion NotesItsClients world.servers

  shapes : KeptByRounds (λ world. shape_of world ≡ shape_of (first_world plan))
  shapes = shape_kept (shape_of (first_world plan))

  -- ---- goals

  changed_notes : (server : EntityNo) (id : GoalId) (change : GoalRecord → GoalRecord) → ((goal : GoalRecord) → AreItsClients server goal → AreItsClients server (change goal)) → (goals : List GoalRecord) → AllByRecursion (AreItsClients server) goals → AllByRecursion (AreItsClients server) (change_first (has_id id) change goals)
  changed_notes server id change still [] p = tt
  changed_notes server id change still (goal ∷ goals) p = by (has_id id goal) refl (changed_notes server id change still goals p.1)
    where
      by : (b : Bool) → has_id id goal ≡ b → AllByRecursion (AreItsClients server) (change_first (has_id id) change goals) → AllByRecursion (AreItsClients server) (change_first (has_id id) change (goal ∷ goals))
      by true e rest = rw e (still goal p.0, p.1)
      by false e rest = rw e (p.0, rest)

  answered_notes : (server : EntityNo) (decisions : List Decided) (goals : List GoalRecord) → AllByRecursion (AreItsClients server) goals → AllByRecursion (AreItsClients server) (table_after decisions goals)
  answered_notes server decisions [] p = tt
  answered_notes server decisions (goal ∷ goals) p = (by (is_moved decisions goal) refl, answered_notes server decisions goals p.1)
    where
      by : (b : Bool) → is_moved decisions goal ≡ b → AreItsClients server (after_answer decisions goal)
      by true e = rw e p.0
      by false e = rw e p.0

  served : {change : ServerEntry → ServerEntry} {goals : List GoalRecord → List GoalRecord} → Makes change goals → (server : EntityNo) → ((some : List GoalRecord) → AllByRecursion (AreItsClients server) some → AllByRecursion (AreItsClients server) (goals some)) →
      (servers : List ServerEntry) → AllByRecursion NotesItsClients servers → AllByRecursion NotesItsClients (change_first (is_server_at server) change servers)
  served m server still [] p = tt
  served {change} {goals} m server still (entry ∷ servers) p = by (is_server_at server entry) refl (served m server still servers p.1)
    where
      by : (b : Bool) → is_server_at server entry ≡ b → AllByRecursion NotesItsClients (change_first (is_server_at server) change servers) → AllByRecursion NotesItsClients (change_first (is_server_at server) change (entry ∷ servers))
      by true e rest =
          let here : entry.handler.entity ≡ server = eqb-true entry.handler.entity server e in
          let before : AllByRecursion (AreItsClients server) (records_of entry.held) = subst (λ (n : EntityNo). AllByRecursion (AreItsClients n) (records_of entry.held)) here p.0 in
          let after : AllByRecursion (AreItsClients server) (records_of (change entry).held) = subst (λ (some : List GoalRecord). AllByRecursion (AreItsClients server) some) (sym (m.makes entry)) (still (records_of entry.held) before) in
          rw e (subst (λ (n : EntityNo). AllByRecursion (AreItsClients n) (records_of (change entry).held)) (sym (m.stays entry ∙ here)) after, p.1)
      by false e rest = rw e (p.0, rest)

  expired_notes : (moment : Moment) (servers : List ServerEntry) → AllByRecursion NotesItsClients servers → AllByRecursion NotesItsClients (map (server_expired moment) servers)
  expired_notes moment [] p = tt
  expired_notes moment (entry ∷ servers) p =
      let left = λ (goal : GoalRecord). not (is_expired moment entry.timeout goal) in (
        subst (λ (goals : List GoalRecord). AllByRecursion (AreItsClients entry.handler.entity) goals) (sym (records_filtered left entry.held)) (all_filter (AreItsClients entry.handler.entity) left (records_of entry.held) p.0),
        expired_notes moment servers p.1,
      )

  -- ---- what is sent

  own_sent : (entity : EntityNo) (new : Item) (world : WorldState) → IsAtItsServer entity new → AreOwned world → AreOwned (push entity new world)
  own_sent entity new world its p = record { shape = push_kept shapes.basic entity new world p.shape; asks = held_after IsAtItsServer entity (next_arrival world) new world.queues its p.asks; notes = p.notes }

  no_ask : (entity : EntityNo) (new : Item) → is_answer (taker_of new) ≡ false → IsAtItsServer entity new
  no_ask entity (item.Message value) e = tt
  no_ask entity (item.Request from number value) e = tt
  no_ask entity (item.Reply number value) e = tt
  no_ask entity (item.Goal goal from value) e = tt
  no_ask entity (item.Cancel request from) e = tt
  no_ask entity (item.Ask goal from) e = absurd cc
  no_ask entity (item.Response goal accepted) e = tt
  no_ask entity (item.Code returned count) e = tt
  no_ask entity (item.Feedback goal value) e = tt
  no_ask entity (item.Result goal status value) e = tt

  no_ask_back : (entity : EntityNo) (new : Item) → is_ask (taker_of new) ≡ false → IsAtItsServer entity new
  no_ask_back entity (item.Message value) e = tt
  no_ask_back entity (item.Request from number value) e = tt
  no_ask_back entity (item.Reply number value) e = tt
  no_ask_back entity (item.Goal goal from value) e = tt
  no_ask_back entity (item.Cancel request from) e = tt
  no_ask_back entity (item.Ask goal from) e = absurd cc
  no_ask_back entity (item.Response goal accepted) e = tt
  no_ask_back entity (item.Code returned count) e = tt
  no_ask_back entity (item.Feedback goal value) e = tt
  no_ask_back entity (item.Result goal status value) e = tt

  moves : Moves anywhere AreOwned
  moves = record {
    lines_kept = λ lines world quiet p. record { shape = p.shape; asks = p.asks; notes = p.notes };
    pushes_kept = λ entity new world well free message request result p. own_sent entity new world (no_ask entity new free) p;
    publications_kept = λ topic value world p. publish_kept {P = AreOwned} (λ entity one before q. own_sent entity (item.Message one) before tt q) topic value _ (record { shape = p.shape; asks = p.asks; notes = p.notes });
    calls_kept = λ number from value world found p.
        own_sent from.service (item.Request from.entity (from.calls + 1) value) _ tt (record { shape = shapes.basic.calls_kept from.entity world p.shape; asks = p.asks; notes = p.notes });
    action_clients_known = λ number from world found p. refl;
    execution_kept = λ server goal world found p. record {
      shape = shapes.basic.goals_kept server _ world (ids_changed goal.id (after_event event.Execute) (λ one. refl)) p.shape;
      asks = p.asks;
      notes = served (changing (change_first (has_id goal.id) (after_event event.Execute)) (ids_changed goal.id (after_event event.Execute) (λ one. refl))) server (λ some q. changed_notes server goal.id (after_event event.Execute) (λ one r. r) some q) world.servers p.notes;
    };
    answer_kept = λ server decisions returned count world p. record {
      shape = shapes.basic.goals_kept server _ world (ids_answered decisions) p.shape;
      asks = p.asks;
      notes = served (changing (table_after decisions) (ids_answered decisions)) server (λ some q. answered_notes server decisions some q) world.servers p.notes;
    };
    tasks_kept = λ server goal task world p. record { shape = shapes.basic.tasks_kept server goal task world p.shape; asks = p.asks; notes = served (tasking goal task) server (λ some q. q) world.servers p.notes };
    arrivals_kept = λ server goal world p. record { shape = shapes.basic.arrivals_kept server goal world p.shape; asks = p.asks; notes = served (goal_arriving goal (next_arrival world)) server (λ some q. q) world.servers p.notes };
    sending_kept = λ from world p. record { shape = shapes.basic.sending_kept from world p.shape; asks = p.asks; notes = p.notes };
    variables_kept = λ group variables world p. record { shape = shapes.basic.variables_kept group variables world p.shape; asks = p.asks; notes = p.notes };
  }

  -- ---- callbacks

  own_told : (server : EntityNo) (goal : GoalId) (status : GoalStatus) (value : ℤ) (from : EntityNo) (world : WorldState) → AreOwned world → AreOwned (tell server goal status value from world)
  own_told server goal status value from world p = own_sent from (item.Result goal status value) _ tt (record { shape = p.shape; asks = p.asks; notes = p.notes })

  own_answered : (server : EntityNo) (goal : GoalId) (from : EntityNo) (asked : Asked) (world : WorldState) → IsItsServer server from → AreOwned world → AreOwned (answer_ask server goal from asked world)
  own_answered server goal from (told status value) world its p = own_told server goal status value from world p
  own_answered server goal from unknown world its p = own_told server goal status.Unknown (pos 0) from world p
  own_answered server goal from later world its p = record {
    shape = shapes.basic.goals_kept server _ world (ids_changed goal (asked_by from) (λ one. refl)) p.shape;
    asks = p.asks;
    notes = served (changing (change_first (has_id goal) (asked_by from)) (ids_changed goal (asked_by from) (λ one. refl))) server (λ some q. changed_notes server goal (asked_by from) (λ one r. all_append (IsItsServer server) one.askers (from ∷ []) r (its, tt)) some q) world.servers p.notes;
  }

  own_end : (server : EntityNo) (goal : Option GoalRecord) (world : WorldState) → AreOwned world → AreOwned (tell_end server goal world)
  own_end server None world p = p
  own_end server (Some goal) world p =
      fold_keeps AreOwned (λ before from. tell server goal.id (status_of goal.state) goal.result from before) (λ before from q. own_told server goal.id (status_of goal.state) goal.result from before q) goal.askers _
      (record { shape = p.shape; asks = p.asks; notes = p.notes })

  own_ended : (server : EntityNo) (goal : GoalId) (by : Event) (value : ℤ) (moment : Moment) (world : WorldState) → AreOwned world → AreOwned (with_ended server goal by value moment world)
  own_ended server goal by value moment world p = record {
    shape = shapes.basic.goals_kept server _ world (ids_changed goal (after_end by value moment) (λ one. refl)) p.shape;
    asks = p.asks;
    notes = served (changing (change_first (has_id goal) (after_end by value moment)) (ids_changed goal (after_end by value moment) (λ one. refl))) server (λ some q. changed_notes server goal (after_end by value moment) (λ one r. r) some q) world.servers p.notes;
  }

  run_owned : (one : Ready) (world : WorldState) → IsTakenThere one.entity one.cause → AreOwned world → AreOwned (run one world)
  run_owned one world its p =
      run_told {P = AreOwned} {Q = AreOwned} moves one (λ before none q. q)
      (λ request how before same room q. record {
        shape = shapes.accepts_kept one.entity one.moment how request before room q.shape;
        asks = q.asks;
        notes = served (accepting (next_arrival before) one.moment how request) one.entity (λ some r. all_append (AreItsClients one.entity) some (new_goal request.id request.value one.moment how ∷ []) r (tt, tt)) before.servers q.notes;
      })
      (λ goal value canceling by result reached before same leads q. own_end one.entity (goal_at one.entity goal (with_ended one.entity goal by result one.moment before)) _ (own_ended one.entity goal by result one.moment before q))
      (λ goal from before same q. own_answered one.entity goal from (asked_for goal (goals_at one.entity before)) before (subst (λ (why : Cause). IsTakenThere one.entity why) same its) q)
      (λ from goal accepted before same found q.
      own_sent from.server (item.Ask goal from.entity) _ (eqb-true _ from.server (action_client_knows plan before q.shape one.entity from found)) (record { shape = q.shape; asks = q.asks; notes = q.notes }))
      (λ entity new before a other q. own_sent entity new before (no_ask_back entity new other) q)
      world (record { shape = p.shape; asks = p.asks; notes = p.notes })

  all_run : (list : List Ready) (world : WorldState) → AllByRecursion (λ one. IsTakenThere one.entity one.cause) list → AreOwned world → AreOwned (run_all list world)
  all_run [] world its p = p
  all_run (one ∷ list) world its p = all_run list (run one world) its.1 (run_owned one world its.0 p)

  -- ---- rounds

  abbrev TakesThere : Ready → Type 0
  TakesThere one = IsTakenThere one.entity one.cause

  list_there : (moment : Moment) (world : WorldState) → AllByRecursion (Holds IsAtItsServer) world.queues → AllByRecursion TakesThere (ready_list moment world)
  list_there moment world p =
      all_listed TakesThere (λ position one q. q) moment world
      (all_flat TakesThere (due_ready moment) due world.timers)
      (all_flat_where (Holds IsAtItsServer) TakesThere (queue_ready moment world) taken world.queues p)
      (all_flat TakesThere (poll_ready moment) (λ entry. all_map TakesThere _ (λ goal. tt) _) world.servers)
    where
      due : (entry : TimerEntry) → AllByRecursion TakesThere (due_ready moment entry)
      due entry = by (is_due entry.timer moment) refl
        where
          by : (b : Bool) → is_due entry.timer moment ≡ b → AllByRecursion TakesThere (due_ready moment entry)
          by true e = rw e (tt, tt)
          by false e = rw e tt

      taken : (queue : Queue) → Holds IsAtItsServer queue → AllByRecursion TakesThere (queue_ready moment world queue)
      taken queue q = by queue.items q
        where
          by : (items : List Item) → AllByRecursion (IsAtItsServer queue.handler.entity) items → AllByRecursion TakesThere (item_ready moment queue.handler (goals_at queue.handler.entity world) items)
          by [] r = tt
          by (first ∷ items) r = (r.0, tt)

  snapshot_owned : (number : ℕ) (moment : Moment) (world : WorldState) → AreOwned world → AreOwned (at_snapshot plan number moment world)
  snapshot_owned number moment world p =
      feed_keeps moves (publish_kept {P = AreOwned} (λ entity value before q. own_sent entity (item.Message value) before tt q)) (fed_in number plan.feed) _
      (record { shape = shapes.expiry_kept moment (add_line (line.Round number moment) world) p.shape; asks = p.asks; notes = expired_notes moment world.servers p.notes })

  rounds_owned : (number : ℕ) (moments : List Moment) (world : WorldState) → AreOwned world → AreOwned (rounds plan number moments world)
  rounds_owned number [] world p = p
  rounds_owned number (moment ∷ moments) world p =
      let before : WorldState = at_snapshot plan number moment world in
      let q : AreOwned before = snapshot_owned number moment world p in
      rounds_owned (suc number) moments (round plan number moment world)
      (all_run (ready_list moment before) (take_inputs moment before) (list_there moment before q.asks)
      (record { shape = shapes.snapshot_kept moment before q.shape; asks = held_taken IsAtItsServer before.queues q.asks; notes = q.notes }))

  first_notes : (numbers : List EntityNo) → AllByRecursion NotesItsClients (map (new_server plan.graph) numbers)
  first_notes [] = tt
  first_notes (number ∷ numbers) = (tt, first_notes numbers)

  first_owned : AreOwned (first_world plan)
  first_owned = record { shape = refl; asks = held_first IsAtItsServer plan.order plan.graph (filter (λ waitable. takes_from_queue waitable.kind) (wait_set plan.graph)); notes = first_notes (entities_where is_server plan.graph) }

-- at a plan's end
pub all_owned : (plan : PlanData) → AreOwned plan (last_world plan)
all_owned plan = let p = rounds_owned plan 1 plan.moments (first_world plan) (first_owned plan) in record { shape = p.shape; asks = p.asks; notes = p.notes }
