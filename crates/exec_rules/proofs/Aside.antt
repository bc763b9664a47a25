-- Changes that come to the same before and behind all that is committed.
use Rattle.std.proofs.Common.{◌≡◌, ℕ, ℤ, pos, Bool, true, false, is_some, ◌&&◌, ◌||◌, if◌then◌else◌, List, [], ◌∷◌, ◌++◌, length, Option, None, Some, refl, sym, ap, ◌∙◌, true≢false}
use Rattle.std.specs.Prelude.{⊤}
use Rattle.std.specs.List.{find, fold, list_any}
use Rattle.std.specs.Option.{option_map, option_map_or}
use Rattle.exec_goal.specs.Calls.{end_state}
use Rattle.exec_goal.specs.Cancel.{CancelRequest, Decided, code_of, moved, table_after}
use Rattle.exec_goal.specs.State.{status_of}
use Rattle.exec_goal.specs.Table.{Asked, GoalRecord, after_end, asked_by, asked_for, has_id, is_accepting, later, told, unknown}
use Rattle.exec_goal.specs.declared.state.State.{State}
use Rattle.exec_msg.specs.Goal.{acceptance_of}
use Rattle.exec_msg.specs.Numbers.{EntityNo, GoalId, Moment}
use Rattle.exec_msg.specs.Lists.{change_first}
use Rattle.exec_plan.specs.declared.order.Order.{Order}
use Rattle.exec_msg.specs.declared.goal.Acceptance.{Acceptance}
use Rattle.exec_msg.specs.declared.goal.Decision.{Decision}
use Rattle.exec_plan.specs.declared.order.Order.TheVariants as order
use Rattle.exec_msg.specs.declared.goal.Decision.TheVariants as decision
use Rattle.exec_msg.specs.declared.goal.Event.{Event}
use Rattle.exec_msg.specs.declared.goal.GoalStatus.{GoalStatus}
use Rattle.exec_msg.specs.declared.goal.GoalStatus.TheVariants as status
use Rattle.exec_msg.specs.declared.goal.ReturnCode.{ReturnCode}
use Rattle.exec_msg.specs.declared.line.Line.{Line}
use Rattle.exec_msg.specs.declared.line.Line.TheVariants as line
use Rattle.exec_script.specs.declared.effects.Close.{Close}
use Rattle.exec_script.specs.declared.effects.Close.TheVariants as close
use Rattle.exec_script.specs.declared.effects.Effects.{Effects}
use Rattle.exec_rules.proofs.Apart.{StandsApart, effects_apart, held_apart, line_apart, push_any_apart, push_apart}
use Rattle.exec_rules.proofs.Keeping.{Kept, ids_answered, ids_changed}
use Rattle.exec_rules.proofs.Records.{any_put}
use Rattle.exec_rules.proofs.Running.{KeptByAcceptance, commit_keeps, given_keeps}
use Rattle.exec_rules.proofs.Pairs.{any_before}
use Rattle.exec_rules.specs.Close.{GoalRequest, accept, accept_where, answer_ask, answer_cancel, answer_goal, ask, ask_where, cancel, close_callback, close_cause, close_item, close_poll, decide, decision_of_close, decisions_of_close, end, end_in, goal_at, held_goal, moved_lines, pend, reply_of_close, reply_to, respond, server_accepting, tell, tell_askers, tell_end, with_ended}
use Rattle.exec_rules.specs.Give.{give_all}
use Rattle.exec_rules.specs.Ready.{run_line}
use Rattle.exec_rules.specs.Run.{commit}
use Rattle.exec_script.specs.Script.{Variables}
use Rattle.exec_rules.specs.World.{ActionClientEntry, GoalWork, HeldGoal, ServerEntry, WorldState, action_client_at, add_line, add_lines, change_goals, change_server, goals_at, has_room_for, is_for, records_of, is_server_at, next_arrival, push, push_any, with_work, work_at, doing, with_held, work_in}
use Rattle.exec_rules.specs.declared.item.Item.{Item}
use Rattle.exec_rules.specs.declared.item.Item.TheVariants as item
use Rattle.exec_rules.specs.declared.ready.Cause.{Cause}
use Rattle.exec_rules.specs.declared.ready.Cause.TheVariants as cause
use Rattle.exec_rules.specs.declared.ready.Ready.{Ready}

-- ---- closings

-- a change that comes to the same before effects and closings and behind them, in worlds of a property that these keep
pub record StandsAside (P : WorldState → Type 0) (home : WorldState → WorldState) : Type 0 where
  pub aside : StandsApart home
  pub basic : Kept P
  pub accepts : KeptByAcceptance P
  pub acceptance_apart : (server : EntityNo) (moment : Moment) (how : Acceptance) (request : GoalRequest) (world : WorldState) → P world → home (accept server moment how request world) ≡ accept server moment how request (home world)

module _ {P : WorldState → Type 0} {home : WorldState → WorldState} (s : StandsAside P home) where
  tell_apart : (server : EntityNo) (id : GoalId) (value : GoalStatus) (result : ℤ) (client : EntityNo) (world : WorldState) → home (tell server id value result client world) ≡ tell server id value result client (home world)
  tell_apart server id value result client world =
      push_apart s.aside client (item.Result id value result) (add_line (line.Result server id value result) world)
      ∙ ap (λ (after : WorldState). push client (item.Result id value result) after) (line_apart s.aside (line.Result server id value result) world)

  tells_apart : (server : EntityNo) (goal : GoalRecord) (askers : List EntityNo) (world : WorldState) → home (fold (λ before client. tell server goal.id (status_of goal.state) goal.result client before) world askers) ≡ fold (λ before client. tell server goal.id (status_of goal.state) goal.result client before) (home world) askers
  tells_apart server goal [] world = refl
  tells_apart server goal (asker ∷ askers) world =
      tells_apart server goal askers (tell server goal.id (status_of goal.state) goal.result asker world)
      ∙ ap (λ (after : WorldState). fold (λ before client. tell server goal.id (status_of goal.state) goal.result client before) after askers) (tell_apart server goal.id (status_of goal.state) goal.result asker world)

  tell_end_apart : (server : EntityNo) (goal : Option GoalRecord) (world : WorldState) → home (tell_end server goal world) ≡ tell_end server goal (home world)
  tell_end_apart server None world = refl
  tell_end_apart server (Some goal) world =
      tells_apart server goal goal.askers (add_line (line.State server goal.id (status_of goal.state)) world)
      ∙ ap (λ (after : WorldState). tell_askers server goal after) (line_apart s.aside (line.State server goal.id (status_of goal.state)) world)

  end_in_apart : (reached : Option State) (server : EntityNo) (id : GoalId) (by : Event) (value : ℤ) (moment : Moment) (world : WorldState) → home (end_in reached server id by value moment world) ≡ end_in reached server id by value moment (home world)
  end_in_apart None server id by value moment world = refl
  end_in_apart (Some reached) server id by value moment world =
      let ended : WorldState = with_ended server id by value moment world in
      let same : home ended ≡ with_ended server id by value moment (home world) = s.aside.goals_apart server (change_first (has_id id) (after_end by value moment)) world (ids_changed id (after_end by value moment) (λ one. refl)) in
      tell_end_apart server (goal_at server id ended) ended
      ∙ ap (λ (goals : List GoalRecord). tell_end server (find (has_id id) goals) (home ended)) (sym (s.aside.goals_same server ended))
      ∙ ap (λ (after : WorldState). tell_end server (goal_at server id after) after) same

  end_apart : (server : EntityNo) (id : GoalId) (by : Event) (value : ℤ) (moment : Moment) (world : WorldState) → home (end server id by value moment world) ≡ end server id by value moment (home world)
  end_apart server id by value moment world =
      end_in_apart (end_state id by (goals_at server world)) server id by value moment world
      ∙ ap (λ (goals : List GoalRecord). end_in (end_state id by goals) server id by value moment (home world)) (sym (s.aside.goals_same server world))

  pend_apart : (under : Order) (server : EntityNo) (id : GoalId) (world : WorldState) → home (pend under server id world) ≡ pend under server id (home world)
  pend_apart order.Kind server id world = refl
  pend_apart order.Arrival server id world = s.aside.arrivals_apart server id world

  close_poll_apart : (server : EntityNo) (id : GoalId) (moment : Moment) (closing : Close) (world : WorldState) → home (close_poll server id moment closing world) ≡ close_poll server id moment closing (home world)
  close_poll_apart server id moment close.Nothing world = refl
  close_poll_apart server id moment (close.Reply value) world = refl
  close_poll_apart server id moment (close.Decide decision) world = refl
  close_poll_apart server id moment (close.DecideCancel decision) world = refl
  close_poll_apart server id moment (close.Decisions decisions) world = refl
  close_poll_apart server id moment close.Pending world =
      pend_apart world.order server id world
      ∙ ap (λ (under : Order). pend under server id (home world)) (sym (s.aside.order_same world))
  close_poll_apart server id moment (close.Ended by value) world = end_apart server id by value moment world

  accept_where_apart : (wanted : Option Acceptance) (server : EntityNo) (moment : Moment) (request : GoalRequest) (world : WorldState) → P world → home (accept_where wanted server moment request world) ≡ accept_where wanted server moment request (home world)
  accept_where_apart None server moment request world p = refl
  accept_where_apart (Some how) server moment request world p = s.acceptance_apart server moment how request world p

  decide_apart : (server : EntityNo) (moment : Moment) (decision : Decision) (request : GoalRequest) (world : WorldState) → P world → home (decide server moment decision request world) ≡ decide server moment decision request (home world)
  decide_apart server moment decision request world p =
      let said : WorldState = add_line (line.Decide server request.id decision) world in
      push_any_apart s.aside request.client (item.Response request.id (is_accepting decision)) (accept_where (acceptance_of decision) server moment request said)
      ∙ ap (λ (after : WorldState). push_any request.client (item.Response request.id (is_accepting decision)) after)
      (accept_where_apart (acceptance_of decision) server moment request said (s.basic.lines_kept (line.Decide server request.id decision ∷ []) world p)
      ∙ ap (λ (after : WorldState). accept_where (acceptance_of decision) server moment request after) (line_apart s.aside (line.Decide server request.id decision) world))

  answer_goal_apart : (server : EntityNo) (moment : Moment) (made : Decision) (request : GoalRequest) (world : WorldState) → P world → home (answer_goal server moment made request world) ≡ answer_goal server moment made request (home world)
  answer_goal_apart server moment made request world p =
      decide_apart server moment (if has_room_for request.id (goals_at server world) then made else decision.Reject) request world p
      ∙ ap (λ (goals : List GoalRecord). decide server moment (if has_room_for request.id goals then made else decision.Reject) request (home world)) (sym (s.aside.goals_same server world))

  answer_cancel_apart : (server : EntityNo) (client : Option EntityNo) (returned : ReturnCode) (goals : List GoalRecord) (world : WorldState) → home (answer_cancel server client returned goals world) ≡ answer_cancel server client returned goals (home world)
  answer_cancel_apart server client returned goals world =
      let lines : List Line = moved_lines server goals ++ line.Code server returned (length goals) ∷ [] in
      push_any_apart s.aside client (item.Code returned (length goals)) (add_lines lines world)
      ∙ ap (λ (after : WorldState). push_any client (item.Code returned (length goals)) after) (s.aside.lines_apart lines world)

  cancel_apart : (server : EntityNo) (request : CancelRequest) (client : Option EntityNo) (decisions : List Decided) (world : WorldState) → home (cancel server request client decisions world) ≡ cancel server request client decisions (home world)
  cancel_apart server request client decisions world =
      answer_cancel_apart server client (code_of request decisions (goals_at server world)) (moved decisions (goals_at server world)) (change_goals server (table_after decisions) world)
      ∙ ap (λ (after : WorldState). answer_cancel server client (code_of request decisions (goals_at server world)) (moved decisions (goals_at server world)) after) (s.aside.goals_apart server (table_after decisions) world (ids_answered decisions))
      ∙ ap (λ (goals : List GoalRecord). answer_cancel server client (code_of request decisions goals) (moved decisions goals) (change_goals server (table_after decisions) (home world))) (sym (s.aside.goals_same server world))

  answer_ask_apart : (server : EntityNo) (id : GoalId) (client : EntityNo) (asked : Asked) (world : WorldState) → home (answer_ask server id client asked world) ≡ answer_ask server id client asked (home world)
  answer_ask_apart server id client (told value result) world = tell_apart server id value result client world
  answer_ask_apart server id client unknown world = tell_apart server id status.Unknown (pos 0) client world
  answer_ask_apart server id client later world = s.aside.goals_apart server (change_first (has_id id) (asked_by client)) world (ids_changed id (asked_by client) (λ one. refl))

  ask_apart : (server : EntityNo) (id : GoalId) (client : EntityNo) (world : WorldState) → home (ask server id client world) ≡ ask server id client (home world)
  ask_apart server id client world =
      answer_ask_apart server id client (asked_for id (goals_at server world)) world
      ∙ ap (λ (goals : List GoalRecord). answer_ask server id client (asked_for id goals) (home world)) (sym (s.aside.goals_same server world))

  ask_where_apart : (b : Bool) (client : ActionClientEntry) (id : GoalId) (world : WorldState) → home (ask_where b client id world) ≡ ask_where b client id (home world)
  ask_where_apart true client id world =
      push_apart s.aside client.server (item.Ask id client.entity) (add_line (line.Ask client.entity id) world)
      ∙ ap (λ (after : WorldState). push client.server (item.Ask id client.entity) after) (line_apart s.aside (line.Ask client.entity id) world)
  ask_where_apart false client id world = refl

  respond_apart : (client : Option ActionClientEntry) (id : GoalId) (accepted : Bool) (world : WorldState) → home (respond client id accepted world) ≡ respond client id accepted (home world)
  respond_apart None id accepted world = refl
  respond_apart (Some client) id accepted world = ask_where_apart (accepted && client.asks) client id world

  reply_apart : (service client : EntityNo) (number : ℕ) (value : ℤ) (world : WorldState) → home (reply_to service client number value world) ≡ reply_to service client number value (home world)
  reply_apart service client number value world =
      push_apart s.aside client (item.Reply number value) (add_line (line.Reply service value) world)
      ∙ ap (λ (after : WorldState). push client (item.Reply number value) after) (line_apart s.aside (line.Reply service value) world)

  close_item_apart : (entity : EntityNo) (moment : Moment) (taken : Item) (closing : Close) (world : WorldState) → P world → home (close_item entity moment taken closing world) ≡ close_item entity moment taken closing (home world)
  close_item_apart entity moment (item.Message value) closing world p = refl
  close_item_apart entity moment (item.Request client number value) closing world p = reply_apart entity client number (reply_of_close closing) world
  close_item_apart entity moment (item.Reply number value) closing world p = refl
  close_item_apart entity moment (item.Goal id client value) closing world p = answer_goal_apart entity moment (decision_of_close closing) (record { id = id; client = client; value = value }) world p
  close_item_apart entity moment (item.Cancel request client) closing world p = cancel_apart entity request client (decisions_of_close closing) world
  close_item_apart entity moment (item.Ask id client) closing world p = ask_apart entity id client world
  close_item_apart entity moment (item.Response id accepted) closing world p =
      respond_apart (action_client_at entity world) id accepted world
      ∙ ap (λ (clients : List ActionClientEntry). respond (action_client_at entity (record world { action_clients = clients })) id accepted (home world)) (sym (s.aside.action_clients_same world))
  close_item_apart entity moment (item.Code returned count) closing world p = refl
  close_item_apart entity moment (item.Feedback id value) closing world p = refl
  close_item_apart entity moment (item.Result id value result) closing world p = refl

  close_apart : (entity : EntityNo) (moment : Moment) (why : Cause) (closing : Close) (world : WorldState) → P world → home (close_cause entity moment why closing world) ≡ close_cause entity moment why closing (home world)
  close_apart entity moment cause.Due closing world p = refl
  close_apart entity moment (cause.Took taken) closing world p = close_item_apart entity moment taken closing world p
  close_apart entity moment (cause.Woke id value canceling) closing world p = close_poll_apart entity id moment closing world

  pub commit_apart : (one : Ready) (effects : Effects) (world : WorldState) → P world → home (commit one effects world) ≡ commit one effects (home world)
  commit_apart one effects world p =
      let said : WorldState = add_line (run_line one) world in
      close_apart one.entity one.moment one.cause effects.close (give_all one effects.list said)
      (given_keeps s.basic s.accepts one effects.list said (s.basic.lines_kept (run_line one ∷ []) world p))
      ∙ ap (λ (after : WorldState). close_callback one effects.close after)
      (effects_apart s.aside one effects.list said ∙ ap (λ (after : WorldState). give_all one effects.list after) (line_apart s.aside (run_line one) world))

-- ---- goals that are held

-- whether a server keeps something for a goal
abbrev keeps : GoalId → ServerEntry → Bool
keeps id entry = list_any (is_for id) entry.held

-- a server is there that does
abbrev IsHeld : EntityNo → GoalId → WorldState → Type 0
IsHeld server id world = option_map_or (keeps id) (find (is_server_at server) world.servers) false ≡ true

-- what is true of the first element that passes a test stays so, where a change keeps that and the test
pub read_kept : {A : Type 0} (part : A → Bool) (test other : A → Bool) (change : A → A) → ((x : A) → other (change x) ≡ other x) → ((x : A) → part x ≡ true → part (change x) ≡ true) → (xs : List A) → option_map_or part (find other xs) false ≡ true → option_map_or part (find other (change_first test change xs)) false ≡ true
read_kept part test other change left same [] p = p
read_kept part test other change left same (x ∷ xs) p = by (test x) (other x) refl refl p (read_kept part test other change left same xs)
  where
    by : (b c : Bool) → test x ≡ b → other x ≡ c → option_map_or part (find other (x ∷ xs)) false ≡ true → (option_map_or part (find other xs) false ≡ true → option_map_or part (find other (change_first test change xs)) false ≡ true) →
        option_map_or part (find other (change_first test change (x ∷ xs))) false ≡ true
    by true true e f p rest = let here : part x ≡ true = rw f at p in rw (e, left x ∙ f) (same x here)
    by true false e f p rest = let behind : option_map_or part (find other xs) false ≡ true = rw f at p in rw (e, left x ∙ f) behind
    by false true e f p rest = let here : part x ≡ true = rw f at p in rw (e, f) here
    by false false e f p rest = let behind : option_map_or part (find other xs) false ≡ true = rw f at p in rw (e, f) (rest behind)

any_changed : {A : Type 0} (test other : A → Bool) (change : A → A) → ((x : A) → other (change x) ≡ other x) → (xs : List A) → list_any other (change_first test change xs) ≡ list_any other xs
any_changed test other change left [] = refl
any_changed test other change left (x ∷ xs) = by (test x) refl (any_changed test other change left xs)
  where
    by : (b : Bool) → test x ≡ b → list_any other (change_first test change xs) ≡ list_any other xs → list_any other (change_first test change (x ∷ xs)) ≡ list_any other (x ∷ xs)
    by true e rest = rw (e, left x) refl
    by false e rest = rw e (ap (λ (b : Bool). other x || b) rest)

changed_front : {A : Type 0} (test : A → Bool) (change : A → A) (xs ys : List A) → list_any test xs ≡ true → change_first test change (xs ++ ys) ≡ change_first test change xs ++ ys
changed_front test change [] ys p = absurd (true≢false (sym p))
changed_front {A} test change (x ∷ xs) ys p = by (test x) refl (changed_front test change xs ys)
  where
    by : (b : Bool) → test x ≡ b → (list_any test xs ≡ true → change_first test change (xs ++ ys) ≡ change_first test change xs ++ ys) → change_first test change ((x ∷ xs) ++ ys) ≡ change_first test change (x ∷ xs) ++ ys
    by true e rest = rw e refl
    by false e rest = let behind : list_any test xs ≡ true = rw e at p in rw e (ap (λ (others : List A). x ∷ others) (rest behind))

module _ (server : EntityNo) (id : GoalId) where
  pub held_kept : Kept (IsHeld server id)
  held_kept = record {
    lines_kept = λ lines world p. p;
    queues_kept = λ entity new world p. p;
    goals_kept = λ other change world same p.
        read_kept (keeps id) (is_server_at other) (is_server_at server) _ (λ entry. refl) (λ entry q. any_put id (change (records_of entry.held)) entry.held (same (records_of entry.held)) ∙ q) world.servers p;
    arrivals_kept = λ other goal world p.
        read_kept (keeps id) (is_server_at other) (is_server_at server) _ (λ entry. refl) (λ entry q. any_changed (is_for goal) (is_for id) _ (λ held. refl) entry.held ∙ q) world.servers p;
    tasks_kept = λ other goal task world p.
        read_kept (keeps id) (is_server_at other) (is_server_at server) _ (λ entry. refl) (λ entry q. any_changed (is_for goal) (is_for id) _ (λ held. refl) entry.held ∙ q) world.servers p;
    calls_kept = λ client world p. p;
    sending_kept = λ client world p. p;
    variables_kept = λ group variables world p. p;
  }

  held_accepts : KeptByAcceptance (IsHeld server id)
  held_accepts other moment how request world room p =
      read_kept (keeps id) (is_server_at other) (is_server_at server) (server_accepting (next_arrival world) moment how request) (λ entry. refl)
      (λ entry q. any_before (is_for id) entry.held (held_goal (next_arrival world) moment how entry.handler.script request ∷ []) q) world.servers p

  module _ (change : HeldGoal → HeldGoal) (goal_same : (held : HeldGoal) → (change held).goal ≡ held.goal) (record_apart : (goal : GoalRecord) (held : HeldGoal) → change (record held { goal = goal }) ≡ record (change held) { goal = goal }) (client_same : (held : HeldGoal) → (change held).client ≡ held.client) (arrival_apart : (number : ℕ) (held : HeldGoal) → change (record held { arrival = number }) ≡ record (change held) { arrival = number }) where
    abbrev changed : ServerEntry → ServerEntry
    changed entry = record entry { held = change_first (is_for id) change entry.held }

    -- an acceptance, and a change of what is kept for a goal that is held
    accepted_in_turn : (other : EntityNo) (number : ℕ) (moment : Moment) (how : Acceptance) (request : GoalRequest) (servers : List ServerEntry) → option_map_or (keeps id) (find (is_server_at server) servers) false ≡ true →
        change_first (is_server_at server) changed (change_first (is_server_at other) (server_accepting number moment how request) servers) ≡ change_first (is_server_at other) (server_accepting number moment how request) (change_first (is_server_at server) changed servers)
    accepted_in_turn other number moment how request [] p = refl
    accepted_in_turn other number moment how request (entry ∷ servers) p = by (is_server_at server entry) (is_server_at other entry) refl refl p (accepted_in_turn other number moment how request servers)
      where
        by : (b c : Bool) → is_server_at server entry ≡ b → is_server_at other entry ≡ c → option_map_or (keeps id) (find (is_server_at server) (entry ∷ servers)) false ≡ true →
            (option_map_or (keeps id) (find (is_server_at server) servers) false ≡ true → change_first (is_server_at server) changed (change_first (is_server_at other) (server_accepting number moment how request) servers) ≡ change_first (is_server_at other) (server_accepting number moment how request) (change_first (is_server_at server) changed servers)) →
            change_first (is_server_at server) changed (change_first (is_server_at other) (server_accepting number moment how request) (entry ∷ servers)) ≡ change_first (is_server_at other) (server_accepting number moment how request) (change_first (is_server_at server) changed (entry ∷ servers))
        by true true e f p rest =
            let here : keeps id entry ≡ true = rw e at p in
            rw (e, f, e) (ap (λ (held : List HeldGoal). record entry { held = held } ∷ servers) (changed_front (is_for id) change entry.held (held_goal number moment how entry.handler.script request ∷ []) here))
        by true false e f p rest = rw (e, f, e) refl
        by false true e f p rest = rw (e, f, e) refl
        by false false e f p rest =
            let behind : option_map_or (keeps id) (find (is_server_at server) servers) false ≡ true = rw e at p in
            rw (e, f, e) (ap (λ (others : List ServerEntry). entry ∷ others) (rest behind))

    pub held_aside : StandsAside (IsHeld server id) (λ world. change_server server changed world)
    held_aside = record {
      aside = held_apart server id change goal_same record_apart client_same arrival_apart;
      basic = held_kept;
      accepts = held_accepts;
      acceptance_apart = λ other moment how request world p.
          ap (λ (servers : List ServerEntry). record (accept other moment how request world) { servers = servers }) (accepted_in_turn other (next_arrival world) moment how request world.servers p);
    }

-- anywhere
abbrev Anywhere : WorldState → Type 0
Anywhere world = ⊤

pub anywhere_kept : Kept Anywhere
anywhere_kept = record {
  lines_kept = λ lines world p. p;
  queues_kept = λ entity new world p. p;
  goals_kept = λ server change world same p. p;
  tasks_kept = λ server id task world p. p;
  arrivals_kept = λ server id world p. p;
  calls_kept = λ client world p. p;
  sending_kept = λ client world p. p;
  variables_kept = λ group variables world p. p;
}

-- all variables are set
set_aside : (variables : List Variables) → StandsAside Anywhere (λ world. record world { variables = variables })
set_aside variables = record {
  aside = record {
    lines_apart = λ lines world. refl;
    queued_apart = λ entity new world. refl;
    calls_apart = λ client world. refl;
    sending_apart = λ client world. refl;
    arrivals_apart = λ server id world. refl;
    goals_apart = λ server change world same. refl;
    order_same = λ world. refl;
    topics_same = λ world. refl;
    queues_same = λ world. refl;
    clients_same = λ world. refl;
    action_clients_same = λ world. refl;
    goals_same = λ server world. refl;
    senders_same = λ server id world. refl;
  };
  basic = anywhere_kept;
  accepts = λ server moment how request world room p. p;
  acceptance_apart = λ server moment how request world p. refl;
}

-- what is committed leaves variables
pub variables_left : (one : Ready) (effects : Effects) (world : WorldState) → (commit one effects world).variables ≡ world.variables
variables_left one effects world = sym (ap (λ (after : WorldState). after.variables) (commit_apart (set_aside world.variables) one effects world tt))

-- ---- works of goals

put_same : (id : GoalId) (work : GoalWork) (held : List HeldGoal) → option_map (λ one. one.work) (find (is_for id) held) ≡ Some work → change_first (is_for id) (doing work) held ≡ held
put_same id work [] is = refl
put_same id work (one ∷ held) is = by (is_for id one) refl is (put_same id work held)
  where
    by : (b : Bool) → is_for id one ≡ b → option_map (λ one. one.work) (find (is_for id) (one ∷ held)) ≡ Some work → (option_map (λ one. one.work) (find (is_for id) held) ≡ Some work → change_first (is_for id) (doing work) held ≡ held) →
        change_first (is_for id) (doing work) (one ∷ held) ≡ one ∷ held
    by true e is rest =
        let here : Some one.work ≡ Some work = rw e at is in
        let same : one.work ≡ work = cc in
        rw e (ap (λ (some : GoalWork). doing some one ∷ held) (sym same))
    by false e is rest = let behind : option_map (λ one. one.work) (find (is_for id) held) ≡ Some work = rw e at is in rw e (ap (λ (others : List HeldGoal). one ∷ others) (rest behind))

put_back : (server : EntityNo) (id : GoalId) (work : GoalWork) (servers : List ServerEntry) → work_in server id servers ≡ Some work → change_first (is_server_at server) (with_held id (doing work)) servers ≡ servers
put_back server id work [] is = refl
put_back server id work (entry ∷ servers) is = by (is_server_at server entry) refl is (put_back server id work servers)
  where
    by : (b : Bool) → is_server_at server entry ≡ b → work_in server id (entry ∷ servers) ≡ Some work → (work_in server id servers ≡ Some work → change_first (is_server_at server) (with_held id (doing work)) servers ≡ servers) →
        change_first (is_server_at server) (with_held id (doing work)) (entry ∷ servers) ≡ entry ∷ servers
    by true e is rest =
        let here : option_map (λ one. one.work) (find (is_for id) entry.held) ≡ Some work = rw e at is in
        rw e (ap (λ (held : List HeldGoal). record entry { held = held } ∷ servers) (put_same id work entry.held here))
    by false e is rest = let behind : work_in server id servers ≡ Some work = rw e at is in rw e (ap (λ (others : List ServerEntry). entry ∷ others) (rest behind))

read_put : (id : GoalId) (work : GoalWork) (held : List HeldGoal) → list_any (is_for id) held ≡ true → option_map (λ one. one.work) (find (is_for id) (change_first (is_for id) (doing work) held)) ≡ Some work
read_put id work [] p = absurd (true≢false (sym p))
read_put id work (one ∷ held) p = by (is_for id one) refl p (read_put id work held)
  where
    by : (b : Bool) → is_for id one ≡ b → list_any (is_for id) (one ∷ held) ≡ true → (list_any (is_for id) held ≡ true → option_map (λ one. one.work) (find (is_for id) (change_first (is_for id) (doing work) held)) ≡ Some work) →
        option_map (λ one. one.work) (find (is_for id) (change_first (is_for id) (doing work) (one ∷ held))) ≡ Some work
    by true e p rest = rw (e, e) refl
    by false e p rest = let behind : list_any (is_for id) held ≡ true = rw e at p in rw (e, e) (rest behind)

work_put : (server : EntityNo) (id : GoalId) (work : GoalWork) (servers : List ServerEntry) → option_map_or (keeps id) (find (is_server_at server) servers) false ≡ true →
    work_in server id (change_first (is_server_at server) (with_held id (doing work)) servers) ≡ Some work
work_put server id work [] p = absurd (true≢false (sym p))
work_put server id work (entry ∷ servers) p = by (is_server_at server entry) refl p (work_put server id work servers)
  where
    by : (b : Bool) → is_server_at server entry ≡ b → option_map_or (keeps id) (find (is_server_at server) (entry ∷ servers)) false ≡ true →
        (option_map_or (keeps id) (find (is_server_at server) servers) false ≡ true → work_in server id (change_first (is_server_at server) (with_held id (doing work)) servers) ≡ Some work) →
        work_in server id (change_first (is_server_at server) (with_held id (doing work)) (entry ∷ servers)) ≡ Some work
    by true e p rest = let here : keeps id entry ≡ true = rw e at p in rw (e, e) (read_put id work entry.held here)
    by false e p rest = let behind : option_map_or (keeps id) (find (is_server_at server) servers) false ≡ true = rw e at p in rw (e, e) (rest behind)

-- a goal whose work is there is held
found_held : (id : GoalId) (work : GoalWork) (held : List HeldGoal) → option_map (λ one. one.work) (find (is_for id) held) ≡ Some work → list_any (is_for id) held ≡ true
found_held id work [] is = absurd (true≢false (sym (ap (λ (some : Option GoalWork). is_some some) is)))
found_held id work (one ∷ held) is = by (is_for id one) refl (found_held id work held)
  where
    by : (b : Bool) → is_for id one ≡ b → (option_map (λ one. one.work) (find (is_for id) held) ≡ Some work → list_any (is_for id) held ≡ true) → list_any (is_for id) (one ∷ held) ≡ true
    by true e rest = rw e refl
    by false e rest = let behind : option_map (λ one. one.work) (find (is_for id) held) ≡ Some work = rw e at is in rw e (rest behind)

-- and the work of one that is held is there
found_work : (id : GoalId) (held : List HeldGoal) → list_any (is_for id) held ≡ true → (work : GoalWork) × (option_map (λ one. one.work) (find (is_for id) held) ≡ Some work)
found_work id [] p = absurd (true≢false (sym p))
found_work id (one ∷ held) p = by (is_for id one) refl p (found_work id held)
  where
    by : (b : Bool) → is_for id one ≡ b → list_any (is_for id) (one ∷ held) ≡ true → (list_any (is_for id) held ≡ true → (work : GoalWork) × (option_map (λ one. one.work) (find (is_for id) held) ≡ Some work)) →
        (work : GoalWork) × (option_map (λ one. one.work) (find (is_for id) (one ∷ held)) ≡ Some work)
    by true e p rest = (one.work, rw e refl)
    by false e p rest =
        let there : list_any (is_for id) held ≡ true = rw e at p in
        let behind = rest there in
        (behind.0, rw e behind.1)

pub held_work : (server : EntityNo) (id : GoalId) (world : WorldState) → IsHeld server id world → (work : GoalWork) × (work_at server id world ≡ Some work)
held_work server id world p = by (find (is_server_at server) world.servers) refl
  where
    by : (found : Option ServerEntry) → find (is_server_at server) world.servers ≡ found → (work : GoalWork) × (work_at server id world ≡ Some work)
    by None e = let none : false ≡ true = rw e at p in absurd (true≢false (sym none))
    by (Some entry) e =
        let there : keeps id entry ≡ true = rw e at p in
        let work = found_work id entry.held there in
        (work.0, rw e work.1)

pub work_held : (server : EntityNo) (id : GoalId) (work : GoalWork) (world : WorldState) → work_at server id world ≡ Some work → IsHeld server id world
work_held server id work world is = by (find (is_server_at server) world.servers) refl
  where
    by : (found : Option ServerEntry) → find (is_server_at server) world.servers ≡ found → option_map_or (keeps id) (find (is_server_at server) world.servers) false ≡ true
    by None e = let none : None ≡ Some work = rw e at is in absurd (true≢false (sym (ap (λ (some : Option GoalWork). is_some some) none)))
    by (Some entry) e = let here : option_map (λ one. one.work) (find (is_for id) entry.held) ≡ Some work = rw e at is in rw e (found_held id work entry.held here)

-- what is committed leaves the work of a goal that is held
pub work_left : (server : EntityNo) (id : GoalId) (work : GoalWork) (one : Ready) (effects : Effects) (world : WorldState) → work_at server id world ≡ Some work → work_at server id (commit one effects world) ≡ Some work
work_left server id work one effects world is =
    let there : IsHeld server id world = work_held server id work world is in
    let same : with_work server id work world ≡ world = ap (λ (servers : List ServerEntry). record world { servers = servers }) (put_back server id work world.servers is) in
    let after : with_work server id work (commit one effects world) ≡ commit one effects world =
    commit_apart (held_aside server id (doing work) (λ held. refl) (λ goal held. refl) (λ held. refl) (λ number held. refl)) one effects world there ∙ ap (λ (before : WorldState). commit one effects before) same in
    sym (ap (λ (state : WorldState). work_at server id state) after)
    ∙ work_put server id work (commit one effects world).servers (commit_keeps (held_kept server id) (held_accepts server id) one effects world there)
