-- Through rounds, the statuses of each goal are lawful.
use Rattle.std.proofs.Common.{◌≡◌, ◌+◌, ◌⊎◌, inl, inr, ℕ, ℤ, zero, suc, ◌||◌, Bool, true, false, ◌==◌, List, [], ◌∷◌, ◌++◌, map, length, Option, None, Some, refl, sym, ap, subst, ◌∙◌}
use Rattle.std.specs.List.{AllByRecursion, IsDistinct, filter, find, flat_map, list_any}
use Rattle.std.proofs.lemmas.Bool.{eqb-true}
use Rattle.std.proofs.lemmas.List.{append-nil}
use Rattle.std.proofs.lemmas.Grind.{flat_map-append}
use Rattle.exec_goal.specs.Calls.{end_state}
use Rattle.exec_goal.specs.Cancel.{Decided, moved, table_after}
use Rattle.exec_goal.specs.State.{Transition, after, status_of}
use Rattle.exec_goal.specs.Table.{GoalRecord, has_id, holds_id, after_event, after_end, expired, new_goal}
use Rattle.exec_goal.specs.declared.state.State.{State}
use Rattle.exec_msg.specs.Numbers.{EntityNo, GoalId, Moment}
use Rattle.exec_plan.specs.Feeding.{fed_in}
use Rattle.exec_plan.specs.Graph.{wait_set, entities_where, is_server}
use Rattle.exec_plan.specs.Plan.{PlanData}
use Rattle.exec_msg.specs.Lists.{change_first}
use Rattle.exec_msg.specs.declared.goal.Acceptance.{Acceptance}
use Rattle.exec_msg.specs.declared.goal.Event.{Event}
use Rattle.exec_msg.specs.declared.goal.Event.TheVariants as event
use Rattle.exec_msg.specs.declared.goal.GoalStatus.{GoalStatus}
use Rattle.exec_msg.specs.declared.goal.ReturnCode.{ReturnCode}
use Rattle.exec_msg.specs.declared.line.Line.{Line}
use Rattle.exec_msg.specs.declared.line.Line.TheVariants as line
use Rattle.exec_rules.proofs.Identifiers.{Distinct, Makes, changing, tasking, accepting, goals_apart, goals_here, expired_goals, first_goals, room_without, goal_arriving}
use Rattle.exec_rules.proofs.Keeping.{ids_changed, Moves, Tells, publish_kept, canceled, state_said, feed_keeps, anywhere, ids_answered}
use Rattle.exec_rules.proofs.ReadyLists.{IsListed, list_listed}
use Rattle.exec_rules.proofs.Running.{ended, ends_told, asks_told, run_keeps, snapshot_keeps, round_keeps}
use Rattle.exec_rules.proofs.OfKinds.{AreOfTheirKinds, kinds_kept, kinds_first}
use Rattle.exec_rules.proofs.Shapes.{shape_kept, part_changed, part_mapped}
use Rattle.exec_laws.proofs.Statuses.{state_left}
use Rattle.exec_laws.proofs.Views.{Fits, fits_left, fits_quiet, fits_executed, ended_found, fits_ended, fits_accepted, fits_answered, fits_expired, said_of_other_server, accepted_elsewhere, apart_said}
use Rattle.exec_rules.proofs.Wiring.{servers_of, is_listed, wired}
use Rattle.exec_rules.specs.Close.{GoalRequest, accepted_lines, moved_lines, accept, with_ended, goal_at}
use Rattle.exec_rules.specs.Give.{oldest_accepted, execute_goal}
use Rattle.exec_laws.specs.Goals.{AreLawful}
use Rattle.exec_rules.specs.Shape.{shape_of}
use Rattle.exec_rules.specs.Lines.{statuses_of}
use Rattle.exec_rules.specs.Ready.{kind_of, ready_list, run_line, take_inputs}
use Rattle.exec_rules.specs.Run.{run}
use Rattle.exec_rules.specs.Transcript.{takes_from_queue, first_world, server_expired, expire_lines, expire, at_snapshot, run_all, round, rounds, pending_by, closing_lines, lines_of}
use Rattle.exec_rules.specs.World.{WorldState, drop_line, lost_by, queued, push, ServerEntry, ClientEntry, is_server_at, add_line, add_lines, goals_at, change_goals, has_room_for, with_call, goals_in, next_arrival, records_of}
use Rattle.exec_rules.specs.declared.item.Item.{Item}
use Rattle.exec_rules.specs.declared.item.Item.TheVariants as item
use Rattle.exec_rules.specs.declared.ready.Cause.{Cause}
use Rattle.exec_rules.specs.declared.ready.Ready.{Ready}

-- ---- a world

module _ (server : EntityNo) (id : GoalId) (listed : List EntityNo) where
  -- the statuses that a world's lines say of a goal fit the state that its server holds_id; and these are the servers
  abbrev View : WorldState → Type 0
  View world = Fits server id world.lines (goals_at server world) × (servers_of world ≡ listed)

  view_lines : (lines : List Line) (world : WorldState) → statuses_of server id lines ≡ [] → View world → View (add_lines lines world)
  view_lines lines world quiet v = (fits_quiet server id world.lines (goals_at server world) v.0 lines (goals_at server world) quiet refl v.0.distinct, v.1)

  -- a server that is changed: of the goal's own server it is said what its goals are then
  changed : {change : ServerEntry → ServerEntry} {goals : List GoalRecord → List GoalRecord} → Makes change goals → (other : EntityNo) (lines : List Line) (world : WorldState) →
      (other ≡ server → Fits server id lines (goals (goals_at server world))) → (other == server ≡ false → Fits server id lines (goals_at server world)) → (other ≡ server → (list_any (is_server_at server) world.servers ≡ true) ⊎ (goals [] ≡ [])) → servers_of world ≡ listed →
      Fits server id lines (goals_in server (change_first (is_server_at other) change world.servers)) × (map (λ entry. entry.handler.entity) (change_first (is_server_at other) change world.servers) ≡ listed)
  changed {change} {goals} m other lines world here apart there same = (by (other == server) refl, part_changed (λ entry. entry.handler.entity) (is_server_at other) change m.stays world.servers ∙ same)
    where
      by : (b : Bool) → other == server ≡ b → Fits server id lines (goals_in server (change_first (is_server_at other) change world.servers))
      by true e =
          let is : other ≡ server = eqb-true other server e in
          subst (λ (n : EntityNo). Fits server id lines (goals_in server (change_first (is_server_at n) change world.servers))) (sym is)
          (subst (λ (some : List GoalRecord). Fits server id lines some) (sym (goals_here m server world.servers (there is))) (here is))
      by false e = subst (λ (some : List GoalRecord). Fits server id lines some) (sym (goals_apart m server other world.servers e)) (apart e)

  -- lines of another server
  elsewhere : (lines : List Line) (world : WorldState) → statuses_of server id lines ≡ [] → View world → Fits server id (world.lines ++ lines) (goals_at server world)
  elsewhere lines world quiet v = (view_lines lines world quiet v).0

  held_view : (other : EntityNo) (goal : GoalId) (change : GoalRecord → GoalRecord) (world : WorldState) → ((one : GoalRecord) → (change one).id ≡ one.id) → ((one : GoalRecord) → (change one).state ≡ one.state) → View world → View (change_goals other (change_first (has_id goal) change) world)
  held_view other goal change world same unmoved v =
      changed (changing (change_first (has_id goal) change) (ids_changed goal change same)) other world.lines world
      (λ is. fits_left server id world.lines (goals_at server world) v.0 (change_first (has_id goal) change (goals_at server world)) (state_left change same id goal unmoved (goals_at server world))
      (subst (λ (some : List GoalId). Distinct some) (sym (ids_changed goal change same (goals_at server world))) v.0.distinct))
      (λ differs. v.0) (λ is. inr refl) v.1

  execution_view : (other : EntityNo) (goal : GoalRecord) (world : WorldState) → oldest_accepted other world ≡ Some goal → View world → View (execute_goal other (Some goal) world)
  execution_view other goal world found v =
      let said : EntityNo → List Line = λ n. line.State n goal.id (status_of (after_event event.Execute goal).state) ∷ [] in
      changed (changing (change_first (has_id goal.id) (after_event event.Execute)) (ids_changed goal.id (after_event event.Execute) (λ one. refl))) other (world.lines ++ said other) world
      (λ is. subst (λ (n : EntityNo). Fits server id (world.lines ++ said n) (change_first (has_id goal.id) (after_event event.Execute) (goals_at server world))) (sym is)
      (fits_executed server id world.lines (goals_at server world) v.0 goal (ap (λ (n : EntityNo). oldest_accepted n world) (sym is) ∙ found)))
      (λ differs. elsewhere (said other) world (said_of_other_server server id other goal.id (status_of (after_event event.Execute goal).state) differs) v) (λ is. inr refl) v.1

  answer_view : (other : EntityNo) (decisions : List Decided) (returned : ReturnCode) (count : ℕ) (world : WorldState) → View world → View (canceled other decisions returned count world)
  answer_view other decisions returned count world v =
      let said : EntityNo → List Line = λ n. moved_lines n (moved decisions (goals_at n world)) ++ line.Code n returned count ∷ [] in
      changed (changing (table_after decisions) (ids_answered decisions)) other (world.lines ++ said other) world
      (λ is. subst (λ (n : EntityNo). Fits server id (world.lines ++ said n) (table_after decisions (goals_at server world))) (sym is) (fits_answered server id world.lines (goals_at server world) v.0 decisions returned count))
      (λ differs. elsewhere (said other) world
      (flat_map-append _ (moved_lines other (moved decisions (goals_at other world))) (line.Code other returned count ∷ [])
      ∙ append-nil (statuses_of server id (moved_lines other (moved decisions (goals_at other world))))
      ∙ apart_said server id other (moved decisions (goals_at other world)) differs) v) (λ is. inr refl) v.1

  drops_quiet : (entity : EntityNo) (items : List Item) → statuses_of server id (map (drop_line entity) items) ≡ []
  drops_quiet entity [] = refl
  drops_quiet entity (first ∷ items) = drops_quiet entity items

  -- so each basic change keeps the view
  push_view : (entity : EntityNo) (new : Item) (world : WorldState) → View world → View (push entity new world)
  push_view entity new world v = view_lines (map (drop_line entity) (lost_by entity new world)) (queued entity new world) (drops_quiet entity (lost_by entity new world)) v

  view_moves : Moves anywhere View
  view_moves = record {
    lines_kept = λ lines world quiet v. view_lines lines world (quiet.0 server id) v;
    pushes_kept = λ entity new world well free message request result v. push_view entity new world v;
    publications_kept = λ topic value world v. publish_kept {P = View} (λ entity sent before q. push_view entity (item.Message sent) before q) topic value (add_line (line.Pub topic value) world) (view_lines (line.Pub topic value ∷ []) world refl v);
    calls_kept = λ number client value world found v. push_view client.service (item.Request client.entity (client.calls + 1) value) (add_line (line.Call client.entity (client.calls + 1) value) (with_call client.entity world)) (view_lines (line.Call client.entity (client.calls + 1) value ∷ []) (with_call client.entity world) refl v);
    action_clients_known = λ number client world found v. refl;
    execution_kept = execution_view;
    answer_kept = answer_view;
    tasks_kept = λ other goal task world v. changed (tasking goal task) other world.lines world (λ is. v.0) (λ differs. v.0) (λ is. inr refl) v.1;
    arrivals_kept = λ other goal world v. changed (goal_arriving goal (next_arrival world)) other world.lines world (λ is. v.0) (λ differs. v.0) (λ is. inr refl) v.1;
    sending_kept = λ client world v. v;
    variables_kept = λ group variables world v. v;
  }

  view_tells : Tells View
  view_tells = record { results_kept = λ other goal status value client world v. push_view client (item.Result goal status value) (add_line (line.Result other goal status value) world) (view_lines (line.Result other goal status value ∷ []) world refl v); notes_kept = held_view }

  -- ---- acceptances and ends

  any_listed : (servers : List ServerEntry) → list_any (is_server_at server) servers ≡ is_listed (map (λ entry. entry.handler.entity) servers) server
  any_listed [] = refl
  any_listed (entry ∷ servers) = ap (λ (b : Bool). (entry.handler.entity == server) || b) (any_listed servers)

  accept_view : (other : EntityNo) (moment : Moment) (how : Acceptance) (request : GoalRequest) (world : WorldState) → is_listed listed other ≡ true → has_room_for request.id (goals_at other world) ≡ true → View world → View (accept other moment how request world)
  accept_view other moment how request world there room v =
      changed (accepting (next_arrival world) moment how request) other (world.lines ++ accepted_lines other request.id how) world
      (λ is. subst (λ (n : EntityNo). Fits server id (world.lines ++ accepted_lines n request.id how) (goals_at server world ++ new_goal request.id request.value moment how ∷ [])) (sym is)
      (fits_accepted server id world.lines (goals_at server world) v.0 request moment how
      (subst (λ (n : EntityNo). holds_id request.id (goals_at n world) ≡ false) is (room_without request.id (goals_at other world) room))))
      (λ differs. elsewhere (accepted_lines other request.id how) world (accepted_elsewhere server id other request.id how differs) v)
      (λ is. inl (any_listed world.servers ∙ ap (λ (some : List EntityNo). is_listed some server) v.1 ∙ ap (λ (n : EntityNo). is_listed listed n) (sym is) ∙ there)) v.1

  -- the law of a goal's transitions
  abbrev Leads : Type 0
  Leads = (before : State) (by : Event) (reached : State) → after before by ≡ Some reached → Transition before by reached

  end_view : Leads → (other : EntityNo) (goal : GoalId) (by : Event) (value : ℤ) (moment : Moment) (reached : State) (world : WorldState) → end_state goal by (goals_at other world) ≡ Some reached → View world → View (ended other goal by value moment world)
  end_view moves other goal by value moment reached world leads v =
      where_found (goal_at other goal (with_ended other goal by value moment world)) (ap (λ (some : List GoalRecord). find (has_id goal) some) (sym (goals_here (changing ending (ids_changed goal (after_end by value moment) (λ one. refl))) other world.servers (inr refl))))
    where
      ending : List GoalRecord → List GoalRecord
      ending goals = change_first (has_id goal) (after_end by value moment) goals

      where_found : (found : Option GoalRecord) → find (has_id goal) (ending (goals_at other world)) ≡ found → View (state_said other found (with_ended other goal by value moment world))
      where_found None none =
          changed (changing ending (ids_changed goal (after_end by value moment) (λ one. refl))) other world.lines world
          (λ is. absurd (ended_found (goals_at other world) goal by value moment reached leads none))
          (λ differs. v.0) (λ is. inr refl) v.1
      where_found (Some one) found =
          let said : EntityNo → List Line = λ n. line.State n one.id (status_of one.state) ∷ [] in
          changed (changing ending (ids_changed goal (after_end by value moment) (λ one. refl))) other (world.lines ++ said other) world
          (λ is. subst (λ (n : EntityNo). Fits server id (world.lines ++ said n) (ending (goals_at server world))) (sym is)
          (fits_ended server id world.lines (goals_at server world) v.0 moves goal by value moment reached one
          (subst (λ (n : EntityNo). end_state goal by (goals_at n world) ≡ Some reached) is leads)
          (subst (λ (n : EntityNo). find (has_id goal) (ending (goals_at n world)) ≡ Some one) is found)))
          (λ differs. elsewhere (said other) world (said_of_other_server server id other one.id (status_of one.state) differs) v) (λ is. inr refl) v.1

  -- ---- expiry

  expired_quiet : (entity : EntityNo) (goals : List GoalRecord) → statuses_of server id (map (λ goal. line.Expire entity goal.id) goals) ≡ []
  expired_quiet entity [] = refl
  expired_quiet entity (goal ∷ goals) = expired_quiet entity goals

  expiry_quiet : (moment : Moment) (servers : List ServerEntry) → statuses_of server id (flat_map (expire_lines moment) servers) ≡ []
  expiry_quiet moment [] = refl
  expiry_quiet moment (entry ∷ servers) =
      flat_map-append _ (expire_lines moment entry) (flat_map (expire_lines moment) servers)
      ∙ ap (λ (some : List GoalStatus). some ++ statuses_of server id (flat_map (expire_lines moment) servers)) (expired_quiet entry.handler.entity (expired moment entry.timeout (records_of entry.held)))
      ∙ expiry_quiet moment servers

  expire_view : (moment : Moment) (world : WorldState) → View world → View (expire moment world)
  expire_view moment world v =
      let said : List Line = flat_map (expire_lines moment) world.servers in
      let left = expired_goals moment server world.servers in (
        subst (λ (some : List GoalRecord). Fits server id (world.lines ++ said) some) (sym left.1)
            (fits_expired server id (world.lines ++ said) (goals_at server world) (elsewhere said world (expiry_quiet moment world.servers) v) moment left.0),
        part_mapped (λ entry. entry.handler.entity) (server_expired moment) (λ entry. refl) world.servers ∙ v.1,
      )

-- ---- rounds

module _ (moves : (before : State) (by : Event) (reached : State) → after before by ≡ Some reached → Transition before by reached) (plan : PlanData) (server : EntityNo) (id : GoalId) where
  abbrev PlanView : WorldState → Type 0
  PlanView = View server id (entities_where is_server plan.graph)

  run_view : (one : Ready) (world : WorldState) → IsListed plan.graph one → PlanView world → PlanView (run one world)
  run_view one world is_there v =
      let moves_view = view_moves server id (entities_where is_server plan.graph) in
      let tells_view = view_tells server id (entities_where is_server plan.graph) in
      run_keeps moves_view one (λ before none q. q)
      (λ request how before same room q. accept_view server id (entities_where is_server plan.graph) one.entity one.moment how request before (is_there (ap (λ (why : Cause). kind_of why) same)) room q)
      (ends_told moves_view tells_view one (λ goal sent canceling by value reached before same leads q. end_view server id (entities_where is_server plan.graph) moves one.entity goal by value one.moment reached before leads q))
      (asks_told moves_view tells_view one (λ before q. q))
      (λ entity new before answers q. push_view server id (entities_where is_server plan.graph) entity new before q) world
      (view_lines server id (entities_where is_server plan.graph) (run_line one ∷ []) world refl v)

  run_all_view : (list : List Ready) (world : WorldState) → AllByRecursion (IsListed plan.graph) list → PlanView world → PlanView (run_all list world)
  run_all_view [] world p v = v
  run_all_view (one ∷ list) world p v = run_all_view list (run one world) p.1 (run_view one world p.0 v)

  snapshot_view : (number : ℕ) (moment : Moment) (world : WorldState) → PlanView world → PlanView (at_snapshot plan number moment world)
  snapshot_view number moment world v =
      feed_keeps (view_moves server id (entities_where is_server plan.graph))
      (publish_kept {P = PlanView} (λ entity value before q. push_view server id (entities_where is_server plan.graph) entity (item.Message value) before q)) (fed_in number plan.feed) _
      (expire_view server id (entities_where is_server plan.graph) moment (add_line (line.Round number moment) world) (view_lines server id (entities_where is_server plan.graph) (line.Round number moment ∷ []) world refl v))

  -- a world of a run, between rounds
  record IsOfRun (world : WorldState) : Type 0 where
    kinds : AreOfTheirKinds world
    shape : shape_of world ≡ shape_of (first_world plan)
    view : PlanView world

  round_view : (number : ℕ) (moment : Moment) (world : WorldState) → IsOfRun world → IsOfRun (round plan number moment world)
  round_view number moment world w =
      let before : WorldState = at_snapshot plan number moment world in
      record {
        kinds = round_keeps kinds_kept plan number moment world w.kinds;
        shape = round_keeps (shape_kept (shape_of (first_world plan))) plan number moment world w.shape;
        view = run_all_view (ready_list moment before) (take_inputs moment before)
            (list_listed plan.graph moment before (wired plan before (snapshot_keeps (shape_kept (shape_of (first_world plan))) plan number moment world w.shape)) (snapshot_keeps kinds_kept plan number moment world w.kinds))
            (snapshot_view number moment world w.view);
      }

  rounds_view : (number : ℕ) (moments : List Moment) (world : WorldState) → IsOfRun world → IsOfRun (rounds plan number moments world)
  rounds_view number [] world w = w
  rounds_view number (moment ∷ moments) world w = rounds_view (suc number) moments (round plan number moment world) (round_view number moment world w)

  first_view : IsOfRun (first_world plan)
  unfolding IsDistinct
  first_view = record {
    kinds = kinds_first plan.order plan.graph (filter (λ waitable. takes_from_queue waitable.kind) (wait_set plan.graph));
    shape = refl;
    view = (
      subst (λ (some : List GoalRecord). Fits server id [] some) (sym (first_goals plan.graph server (entities_where is_server plan.graph))) (record { told = (tt, tt); distinct = tt }),
      (wired plan (first_world plan) refl).listed,
    );
  }

  -- ---- the end

  pending_quiet : (client : EntityNo) (count : ℕ) → statuses_of server id (pending_by client count) ≡ []
  pending_quiet client zero = refl
  pending_quiet client (suc more) = refl

  clients_quiet : (clients : List ClientEntry) → statuses_of server id (flat_map (λ entry. pending_by entry.entity (length entry.pending)) clients) ≡ []
  clients_quiet [] = refl
  clients_quiet (entry ∷ clients) =
      flat_map-append _ (pending_by entry.entity (length entry.pending)) (flat_map (λ one. pending_by one.entity (length one.pending)) clients)
      ∙ ap (λ (some : List GoalStatus). some ++ statuses_of server id (flat_map (λ one. pending_by one.entity (length one.pending)) clients)) (pending_quiet entry.entity (length entry.pending))
      ∙ clients_quiet clients

  closing_quiet : (number : ℕ) (world : WorldState) → statuses_of server id (closing_lines number world) ≡ []
  closing_quiet number world =
      flat_map-append _ (flat_map (λ one. pending_by one.entity (length one.pending)) world.clients) (line.End number ∷ [])
      ∙ append-nil (statuses_of server id (flat_map (λ one. pending_by one.entity (length one.pending)) world.clients))
      ∙ clients_quiet world.clients

  pub statuses_lawful : AreLawful None (statuses_of server id (lines_of plan))
  statuses_lawful =
      let last : WorldState = rounds plan 1 plan.moments (first_world plan) in
      (view_lines server id (entities_where is_server plan.graph) (closing_lines (length plan.moments) last) last (closing_quiet (length plan.moments) last) (rounds_view 1 plan.moments (first_world plan) first_view).view).0.told.0
