-- Through rounds, an action client's asks for the result of a goal are those that were answered, those that are on their way, and
-- those for which it is noted.
use Rattle.exec_plan.specs.declared.order.Order.{Order}
use Rattle.std.proofs.Common.{◌≡◌, inr, ℕ, zero, suc, ℤ, pos, ◌+◌, ◌≤◌, Bool, true, false, not, ◌&&◌, ◌==◌, if◌then◌else◌, List, [], ◌∷◌, ◌++◌, length, map, Option, None, Some, refl, sym, ap, subst, ◌∙◌, arith, is_some}
use Rattle.exec_plan.specs.declared.order.Order.TheVariants as order
use Rattle.std.specs.List.{AllByRecursion, filter, find, flat_map, fold, list_any}
use Rattle.std.proofs.lemmas.Bool.{eqb-true}
use Rattle.exec_goal.specs.Calls.{end_state}
use Rattle.exec_goal.specs.Cancel.{CancelRequest, Decided, moved, table_after, code_of}
use Rattle.exec_goal.specs.State.{status_of}
use Rattle.exec_goal.specs.Table.{GoalRecord, Asked, told, later, unknown, has_id, after_event, after_end, asked_for, asked_by, new_goal, expired, is_accepting}
use Rattle.exec_goal.specs.declared.state.State.{State}
use Rattle.exec_msg.specs.Goal.{acceptance_of}
use Rattle.exec_msg.specs.Numbers.{EntityNo, GoalId, Moment}
use Rattle.exec_plan.specs.Feeding.{fed_in}
use Rattle.exec_plan.specs.Graph.{Waitable, entities_where, is_server, wait_set}
use Rattle.exec_plan.specs.Plan.{PlanData, Fed, Feed}
use Rattle.exec_plan.specs.declared.plan.FedOf.TheVariants as feeding
use Rattle.exec_msg.specs.Lists.{change_first}
use Rattle.exec_msg.specs.declared.goal.Acceptance.{Acceptance}
use Rattle.exec_msg.specs.declared.goal.Acceptance.TheVariants as acceptance
use Rattle.exec_msg.specs.declared.goal.Decision.{Decision}
use Rattle.exec_msg.specs.declared.goal.Decision.TheVariants as decision
use Rattle.exec_msg.specs.declared.goal.Event.{Event}
use Rattle.exec_msg.specs.declared.goal.Event.TheVariants as event
use Rattle.exec_msg.specs.declared.goal.GoalStatus.{GoalStatus}
use Rattle.exec_msg.specs.declared.goal.GoalStatus.TheVariants as status
use Rattle.exec_msg.specs.declared.goal.ReturnCode.{ReturnCode}
use Rattle.exec_msg.specs.declared.kind.Kind.TheVariants as kind
use Rattle.exec_msg.specs.declared.line.Line.{Line}
use Rattle.exec_msg.specs.declared.line.Line.TheVariants as line
use Rattle.exec_script.specs.declared.effects.Close.{Close}
use Rattle.exec_script.specs.declared.effects.Close.TheVariants as close
use Rattle.exec_script.specs.declared.effects.Effect.{Effect}
use Rattle.exec_script.specs.declared.effects.Effect.TheVariants as effect
use Rattle.exec_task.specs.Task.{TaskState}
use Rattle.exec_laws.proofs.Accounts.{Accounts, HasQueues, IsFair, IsSilent, freely, freely_any, line_fair, more_lines, of_ask, of_result, renoted, same_owed, sent, shapes, weight}
use Rattle.exec_laws.proofs.Addresses.{action_client_knows}
use Rattle.exec_laws.proofs.Asked.{many, many_more, one_line, comes_later}
use Rattle.exec_laws.proofs.Called.{among}
use Rattle.exec_laws.proofs.Channels.{weigh, weighs_nothing}
use Rattle.exec_laws.proofs.Flying.{flying, flying_taken, hand_by, hands, list_hands}
use Rattle.exec_rules.proofs.Identifiers.{changing, tasking, accepting, goals_here, goal_arriving}
use Rattle.exec_rules.proofs.Keeping.{callback_keeps, fold_keeps, ids_answered, ids_changed, publish_kept}
use Rattle.exec_laws.proofs.Noted.{noted_by, notes, notes_executed, notes_answered, notes_accepted, notes_asked, notes_ended, noted_changed, noted_expired}
use Rattle.exec_rules.proofs.Pairs.{all_append, all_flat, all_map}
use Rattle.exec_rules.proofs.Running.{found_test}
use Rattle.exec_laws.proofs.Standing.{has_queue}
use Rattle.exec_laws.proofs.Views.{ended_found}
use Rattle.exec_rules.specs.Callback.{AfterCallback}
use Rattle.exec_rules.specs.Close.{GoalRequest, reply_of_close, decision_of_close, decisions_of_close, accepted_lines, moved_lines, accept_where, answer_goal, cancel, tell, tell_end, answer_ask, ask_where, respond, with_ended, goal_at, end_in, close_item, close_poll, close_cause, pend}
use Rattle.exec_laws.specs.Exchanges.{is_asked, is_result_taken, is_result_lost}
use Rattle.exec_rules.specs.Give.{publish, call_by, send_goal_by, send_cancel, cancel_all_by, cancel_goal_by, oldest_accepted, execute_goal, sender_at, give_feedback, give}
use Rattle.exec_rules.specs.Item.{goal_id}
use Rattle.exec_rules.specs.Lines.{is_loss}
use Rattle.exec_rules.specs.Ready.{ready_list, run_line, line_of, input_of, take_inputs}
use Rattle.exec_rules.specs.Run.{outcome_in, run, unclosed, variables_for, with_polled, with_variables_for, work_for}
use Rattle.exec_rules.specs.Shape.{shape_of}
use Rattle.exec_rules.specs.Transcript.{entity_at, takes_from_queue, first_world, new_queue, new_server, server_of, expire_lines, expire, feed_one, at_snapshot, run_all, round, rounds, pending_by, closing_lines, lines_of, last_world}
use Rattle.exec_script.specs.Script.{Variables}
use Rattle.exec_rules.specs.World.{WorldState, ClientEntry, ActionClientEntry, add_line, is_queue, goals_at, has_room_for, with_call, with_goal_sent, with_variables, change_goals, client_at, action_client_at, next_arrival, records_of}
use Rattle.exec_rules.specs.declared.item.Item.{Item}
use Rattle.exec_rules.specs.declared.item.Item.TheVariants as item
use Rattle.exec_rules.specs.declared.ready.Cause.{Cause}
use Rattle.exec_rules.specs.declared.ready.Cause.TheVariants as cause
use Rattle.exec_rules.specs.declared.ready.Ready.{Ready}
use Rattle.exec_rules.proofs.Records.{ids}

zero_more : (n : ℕ) → 0 + n ≡ n
zero_more n = omega arith

module _ (plan : PlanData) (client : EntityNo) where
  -- ---- effects

  -- goals are changed that nobody waits for anew, with lines
  goals_fair : (owed : GoalId → ℕ) (server : EntityNo) (change : List GoalRecord → List GoalRecord) (world : WorldState) → shape_of (change_goals server change world) ≡ shape_of (first_world plan) →
      ((goals : List GoalRecord) → ids (change goals) ≡ ids goals) → change [] ≡ [] → ((id : GoalId) (goals : List GoalRecord) → notes client id (change goals) ≡ notes client id goals) → IsFair plan client owed world → IsFair plan client owed (change_goals server change world)
  goals_fair owed server change world shape stay none same p = (
    shape,
    renoted plan client owed owed world.queues world.servers _ world.lines
        (λ id. noted_changed client id (changing change stay) (ap (λ (goals : List GoalRecord). notes client id goals) none) server world.servers (owed id) (owed id) (ap (λ (n : ℕ). n + owed id) (same id (goals_at server world)))) p.1,
  )

  call_fair : (owed : GoalId → ℕ) (from : Option ClientEntry) (value : ℤ) (world : WorldState) → IsFair plan client owed world → IsFair plan client owed (call_by from value world)
  call_fair owed None value world p = p
  call_fair owed (Some from) value world p =
      freely plan client owed from.service (item.Request from.entity (from.calls + 1) value) (add_line (line.Call from.entity (from.calls + 1) value) (with_call from.entity world)) (λ id. refl)
      (line_fair plan client owed (line.Call from.entity (from.calls + 1) value) (with_call from.entity world) ((λ id. refl), ((λ id. refl), refl)) ((shapes plan client).basic.calls_kept from.entity world p.0, p.1))

  send_goal_fair : (owed : GoalId → ℕ) (from : Option ActionClientEntry) (value : ℤ) (world : WorldState) → IsFair plan client owed world → IsFair plan client owed (send_goal_by from value world)
  send_goal_fair owed None value world p = p
  send_goal_fair owed (Some from) value world p =
      freely plan client owed from.server (item.Goal (goal_id from.place (from.goals + 1)) (Some from.entity) value) (add_line (line.Goal from.entity (goal_id from.place (from.goals + 1)) value) (with_goal_sent from.entity world)) (λ id. refl)
      (line_fair plan client owed (line.Goal from.entity (goal_id from.place (from.goals + 1)) value) (with_goal_sent from.entity world) ((λ id. refl), ((λ id. refl), refl)) ((shapes plan client).basic.sending_kept from.entity world p.0, p.1))

  send_cancel_fair : (owed : GoalId → ℕ) (from : ActionClientEntry) (request : CancelRequest) (world : WorldState) → IsFair plan client owed world → IsFair plan client owed (send_cancel from request world)
  send_cancel_fair owed from request world p =
      freely plan client owed from.server (item.Cancel request (Some from.entity)) (add_line (line.Cancel from.entity request.id request.stamp) world) (λ id. refl)
      (line_fair plan client owed (line.Cancel from.entity request.id request.stamp) world ((λ id. refl), ((λ id. refl), refl)) p)

  cancel_all_fair : (owed : GoalId → ℕ) (from : Option ActionClientEntry) (stamp : ℕ) (world : WorldState) → IsFair plan client owed world → IsFair plan client owed (cancel_all_by from stamp world)
  cancel_all_fair owed None stamp world p = p
  cancel_all_fair owed (Some from) stamp world p = send_cancel_fair owed from (record { id = 0; stamp = stamp }) world p

  cancel_goal_fair : (owed : GoalId → ℕ) (from : Option ActionClientEntry) (number stamp : ℕ) (world : WorldState) → IsFair plan client owed world → IsFair plan client owed (cancel_goal_by from number stamp world)
  cancel_goal_fair owed None number stamp world p = p
  cancel_goal_fair owed (Some from) number stamp world p = send_cancel_fair owed from (record { id = goal_id from.place number; stamp = stamp }) world p

  execute_fair : (owed : GoalId → ℕ) (server : EntityNo) (goal : Option GoalRecord) (world : WorldState) → IsFair plan client owed world → IsFair plan client owed (execute_goal server goal world)
  execute_fair owed server None world p = p
  execute_fair owed server (Some goal) world p =
      line_fair plan client owed (line.State server goal.id (status_of (after_event event.Execute goal).state)) (change_goals server (change_first (has_id goal.id) (after_event event.Execute)) world) ((λ id. refl), ((λ id. refl), refl))
      (goals_fair owed server (change_first (has_id goal.id) (after_event event.Execute)) world ((shapes plan client).basic.goals_kept server _ world (ids_changed goal.id (after_event event.Execute) (λ one. refl)) p.0) (ids_changed goal.id (after_event event.Execute) (λ one. refl)) refl (λ id goals. notes_executed client id goal.id goals) p)

  feedback_fair : (owed : GoalId → ℕ) (server : EntityNo) (why : Cause) (value : ℤ) (world : WorldState) → IsFair plan client owed world → IsFair plan client owed (give_feedback server why value world)
  feedback_fair owed server cause.Due value world p = p
  feedback_fair owed server (cause.Took taken) value world p = p
  feedback_fair owed server (cause.Woke goal given canceling) value world p =
      freely_any plan client owed (sender_at server goal world) (item.Feedback goal value) (add_line (line.Feedback server goal value) world) (λ to id. refl) (line_fair plan client owed (line.Feedback server goal value) world ((λ id. refl), ((λ id. refl), refl)) p)

  published_fair : (owed : GoalId → ℕ) (topic : EntityNo) (value : ℤ) (world : WorldState) → IsFair plan client owed world → IsFair plan client owed (publish topic value world)
  published_fair owed topic value world p = publish_kept {P = IsFair plan client owed} (λ entity one before q. freely plan client owed entity (item.Message one) before (λ id. refl) q) topic value world p

  give_fair : (owed : GoalId → ℕ) (one : Ready) (given : Effect) (world : WorldState) → IsFair plan client owed world → IsFair plan client owed (give one given world)
  give_fair owed one (effect.Publish topic value) world p = published_fair owed topic value (add_line (line.Pub topic value) world) (line_fair plan client owed (line.Pub topic value) world ((λ id. refl), ((λ id. refl), refl)) p)
  give_fair owed one (effect.Call from value) world p = call_fair owed (client_at from world) value world p
  give_fair owed one (effect.SendGoal from value) world p = send_goal_fair owed (action_client_at from world) value world p
  give_fair owed one (effect.CancelAll from stamp) world p = cancel_all_fair owed (action_client_at from world) stamp world p
  give_fair owed one (effect.CancelGoal from number stamp) world p = cancel_goal_fair owed (action_client_at from world) number stamp world p
  give_fair owed one (effect.Execute server) world p = execute_fair owed server (oldest_accepted server world) world p
  give_fair owed one (effect.Log value) world p = line_fair plan client owed (line.Log one.entity value) world ((λ id. refl), ((λ id. refl), refl)) p
  give_fair owed one (effect.Feedback value) world p = feedback_fair owed one.entity one.cause value world p

  -- ---- what closes a callback

  -- a result that an asker is told
  result_told : (owed : GoalId → ℕ) (server : EntityNo) (goal : GoalId) (status : GoalStatus) (value : ℤ) (asker : EntityNo) (world : WorldState) → IsFair plan client (λ id. weigh ((asker == client) && (goal == id)) 1 + owed id) world → IsFair plan client owed (tell server goal status value asker world)
  result_told owed server goal status value asker world p =
      sent plan client (λ id. weigh ((asker == client) && (goal == id)) 1 + owed id) owed asker (item.Result goal status value) (add_line (line.Result server goal status value) world) (λ id. omega arith)
      (λ queues id. there queues id (asker == client) refl)
      (line_fair plan client (λ id. weigh ((asker == client) && (goal == id)) 1 + owed id) (line.Result server goal status value) world ((λ id. refl), ((λ id. refl), refl)) p)
    where
      there : HasQueues plan client → (id : GoalId) (b : Bool) → asker == client ≡ b → weigh (not (list_any (is_queue asker kind.Result) world.queues)) (0 + weigh ((asker == client) && (goal == id)) 1) ≡ 0
      there queues id true e =
          let has : list_any (is_queue asker kind.Result) world.queues ≡ true = ap (λ (n : EntityNo). list_any (is_queue n kind.Result) world.queues) (eqb-true asker client e) ∙ has_queue client kind.Result world (first_world plan) p.0 ∙ queues.results in
          ap (λ (b : Bool). weigh (not b) (0 + weigh ((asker == client) && (goal == id)) 1)) has
      there queues id false e = ap (λ (b : Bool). weigh (not (list_any (is_queue asker kind.Result) world.queues)) (0 + weigh (b && (goal == id)) 1)) e ∙ weighs_nothing (not (list_any (is_queue asker kind.Result) world.queues))

  all_told : (owed : GoalId → ℕ) (server : EntityNo) (goal : GoalId) (status : GoalStatus) (value : ℤ) (askers : List EntityNo) (world : WorldState) → IsFair plan client (λ id. weigh (goal == id) (among client askers) + owed id) world →
      IsFair plan client owed (fold (λ before asker. tell server goal status value asker before) world askers)
  all_told owed server goal status value [] world p = same_owed plan client (λ id. weigh (goal == id) 0 + owed id) owed world (λ id. ap (λ (n : ℕ). n + owed id) (weighs_nothing (goal == id)) ∙ zero_more (owed id)) p
  all_told owed server goal status value (asker ∷ askers) world p =
      all_told owed server goal status value askers (tell server goal status value asker world)
      (result_told (λ id. weigh (goal == id) (among client askers) + owed id) server goal status value asker world
      (same_owed plan client (λ id. weigh (goal == id) (weigh (asker == client) 1 + among client askers) + owed id) (λ id. weigh ((asker == client) && (goal == id)) 1 + (weigh (goal == id) (among client askers) + owed id)) world
      (λ id. let split = one_more (asker == client) (goal == id) (among client askers) in omega (arith, split)) p))
    where
      one_more : (b c : Bool) (rest : ℕ) → weigh c (weigh b 1 + rest) ≡ weigh (b && c) 1 + weigh c rest
      one_more true true rest = omega arith
      one_more true false rest = omega arith
      one_more false true rest = omega arith
      one_more false false rest = omega arith

  -- an ask is answered, or its client is noted
  ask_answered : (owed : GoalId → ℕ) (server : EntityNo) (goal : GoalId) (asker : EntityNo) (asked : Asked) (world : WorldState) → asked_for goal (goals_at server world) ≡ asked → IsFair plan client (λ id. weigh ((asker == client) && (goal == id)) 1 + owed id) world → IsFair plan client owed (answer_ask server goal asker asked world)
  ask_answered owed server goal asker (told status value) world is p = result_told owed server goal status value asker world p
  ask_answered owed server goal asker unknown world is p = result_told owed server goal status.Unknown (pos 0) asker world p
  ask_answered owed server goal asker later world is p =
      let found = comes_later server goal (find (has_id goal) (goals_at server world)) is in (
        (shapes plan client).basic.goals_kept server _ world (ids_changed goal (asked_by asker) (λ one. refl)) p.0,
        renoted plan client (λ id. weigh ((asker == client) && (goal == id)) 1 + owed id) owed world.queues world.servers _ world.lines
            (λ id. noted_changed client id (changing (change_first (has_id goal) (asked_by asker)) (ids_changed goal (asked_by asker) (λ one. refl))) refl server world.servers (owed id) (weigh ((asker == client) && (goal == id)) 1 + owed id)
            (let more = notes_asked client id goal asker found.0 (goals_at server world) found.1.0 found.1.1 in omega (arith, more))) p.1,
      )

  -- a goal ends: those that are noted are told
  ended : (owed : GoalId → ℕ) (server : EntityNo) (goal : GoalId) (by : Event) (value : ℤ) (moment : Moment) (reached : Option State) (world : WorldState) → end_state goal by (goals_at server world) ≡ reached → IsFair plan client owed world → IsFair plan client owed (end_in reached server goal by value moment world)
  ended owed server goal by value moment None world leads p = p
  ended owed server goal by value moment (Some reached) world leads p = where_found (goal_at server goal over) (ap (λ (goals : List GoalRecord). find (has_id goal) goals) (sym (goals_here (changing ending (ids_changed goal (after_end by value moment) (λ one. refl))) server world.servers (inr refl))))
    where
      ending : List GoalRecord → List GoalRecord
      ending goals = change_first (has_id goal) (after_end by value moment) goals

      over : WorldState
      over = with_ended server goal by value moment world

      where_found : (found : Option GoalRecord) → find (has_id goal) (ending (goals_at server world)) ≡ found → IsFair plan client owed (tell_end server found over)
      where_found None none = absurd (ended_found (goals_at server world) goal by value moment reached leads none)
      where_found (Some one) found =
          let named : one.id ≡ goal = eqb-true one.id goal (found_test (has_id goal) (ending (goals_at server world)) one found) in
          all_told owed server one.id (status_of one.state) one.result one.askers (add_line (line.State server one.id (status_of one.state)) over)
          (line_fair plan client (λ id. weigh (one.id == id) (among client one.askers) + owed id) (line.State server one.id (status_of one.state)) over ((λ id. refl), ((λ id. refl), refl)) (
            (shapes plan client).basic.goals_kept server _ world (ids_changed goal (after_end by value moment) (λ held. refl)) p.0,
            subst (λ (n : GoalId). Accounts plan client (λ id. weigh (n == id) (among client one.askers) + owed id) over.queues over.servers over.lines) (sym named)
                (renoted plan client owed (λ id. weigh (goal == id) (among client one.askers) + owed id) world.queues world.servers over.servers world.lines
                (λ id. let gone = notes_ended client id goal by value moment reached one (goals_at server world) leads found in
                noted_changed client id (changing ending (ids_changed goal (after_end by value moment) (λ one. refl))) refl server world.servers (weigh (goal == id) (among client one.askers) + owed id) (owed id) (omega (arith, gone))) p.1),
          ))

  pend_fair : (owed : GoalId → ℕ) (under : Order) (server : EntityNo) (goal : GoalId) (world : WorldState) → IsFair plan client owed world → IsFair plan client owed (pend under server goal world)
  pend_fair owed order.Kind server goal world p = p
  pend_fair owed order.Arrival server goal world p = (
    (shapes plan client).basic.arrivals_kept server goal world p.0,
    renoted plan client owed owed world.queues world.servers _ world.lines (λ id. noted_changed client id (goal_arriving goal (next_arrival world)) refl server world.servers (owed id) (owed id) refl) p.1,
  )

  poll_fair : (owed : GoalId → ℕ) (server : EntityNo) (goal : GoalId) (moment : Moment) (closing : Close) (world : WorldState) → IsFair plan client owed world → IsFair plan client owed (close_poll server goal moment closing world)
  poll_fair owed server goal moment close.Nothing world p = p
  poll_fair owed server goal moment (close.Reply value) world p = p
  poll_fair owed server goal moment (close.Decide decision) world p = p
  poll_fair owed server goal moment (close.DecideCancel decision) world p = p
  poll_fair owed server goal moment (close.Decisions decisions) world p = p
  poll_fair owed server goal moment close.Pending world p = pend_fair owed world.order server goal world p
  poll_fair owed server goal moment (close.Ended by value) world p = ended owed server goal by value moment (end_state goal by (goals_at server world)) world refl p

  -- a goal is accepted that nobody asked for yet
  accepted_silent : (server goal : ℕ) (how : Acceptance) → AllByRecursion (IsSilent plan client) (accepted_lines server goal how)
  accepted_silent server goal acceptance.Execute = (((λ id. refl), ((λ id. refl), refl)), (((λ id. refl), ((λ id. refl), refl)), tt))
  accepted_silent server goal acceptance.Defer = (((λ id. refl), ((λ id. refl), refl)), tt)

  accept_fair : (owed : GoalId → ℕ) (wanted : Option Acceptance) (server : EntityNo) (moment : Moment) (request : GoalRequest) (world : WorldState) → (is_some wanted ≡ true → has_room_for request.id (goals_at server world) ≡ true) → IsFair plan client owed world → IsFair plan client owed (accept_where wanted server moment request world)
  accept_fair owed None server moment request world room p = p
  accept_fair owed (Some how) server moment request world room p = (
    (shapes plan client).accepts_kept server moment how request world (room refl) p.0,
    more_lines plan client owed world.queues _ world.lines (accepted_lines server request.id how) (accepted_silent server request.id how)
        (renoted plan client owed owed world.queues world.servers _ world.lines
        (λ id. noted_changed client id (accepting (next_arrival world) moment how request) (notes_accepted client id [] (new_goal request.id request.value moment how) refl) server world.servers (owed id) (owed id)
        (ap (λ (n : ℕ). n + owed id) (notes_accepted client id (goals_at server world) (new_goal request.id request.value moment how) refl))) p.1),
  )

  -- a decision that accepts is one for which there is room
  roomy : (b : Bool) (made : Decision) → is_accepting (if b then made else decision.Reject) ≡ true → b ≡ true
  roomy true made e = refl
  roomy false made e = absurd cc

  answer_fair : (owed : GoalId → ℕ) (server : EntityNo) (moment : Moment) (wanted : Decision) (request : GoalRequest) (world : WorldState) → IsFair plan client owed world → IsFair plan client owed (answer_goal server moment wanted request world)
  answer_fair owed server moment wanted request world p =
      let made : Decision = if has_room_for request.id (goals_at server world) then wanted else decision.Reject in
      freely_any plan client owed request.client (item.Response request.id (is_accepting made)) _ (λ to id. refl)
      (accept_fair owed (acceptance_of made) server moment request (add_line (line.Decide server request.id made) world) (roomy (has_room_for request.id (goals_at server world)) wanted)
      (line_fair plan client owed (line.Decide server request.id made) world ((λ id. refl), ((λ id. refl), refl)) p))

  moved_silent : (server : EntityNo) (goals : List GoalRecord) (more : List Line) → AllByRecursion (IsSilent plan client) more → AllByRecursion (IsSilent plan client) (moved_lines server goals ++ more)
  moved_silent server [] more p = p
  moved_silent server (goal ∷ goals) more p = (((λ id. refl), ((λ id. refl), refl)), moved_silent server goals more p)

  cancel_fair : (owed : GoalId → ℕ) (server : EntityNo) (request : CancelRequest) (from : Option EntityNo) (decisions : List Decided) (world : WorldState) → IsFair plan client owed world → IsFair plan client owed (cancel server request from decisions world)
  cancel_fair owed server request from decisions world p =
      let goals : List GoalRecord = moved decisions (goals_at server world) in
      let returned : ReturnCode = code_of request decisions (goals_at server world) in
      let changed : IsFair plan client owed (change_goals server (table_after decisions) world) =
      goals_fair owed server (table_after decisions) world ((shapes plan client).basic.goals_kept server _ world (ids_answered decisions) p.0) (ids_answered decisions) refl (λ id some. notes_answered client id decisions some) p in
      freely_any plan client owed from (item.Code returned (length goals)) _ (λ to id. refl)
      (changed.0, more_lines plan client owed world.queues _ world.lines (moved_lines server goals ++ line.Code server returned (length goals) ∷ []) (moved_silent server goals (line.Code server returned (length goals) ∷ []) (((λ id. refl), ((λ id. refl), refl)), tt)) changed.1)

  -- a client asks
  asked : (owed : GoalId → ℕ) (at : EntityNo) (from : ActionClientEntry) (goal : GoalId) (world : WorldState) → action_client_at at world ≡ Some from → IsFair plan client owed world → IsFair plan client owed (ask_where true from goal world)
  asked owed at from goal world found p =
      sent plan client (λ id. weigh ((from.entity == client) && (goal == id)) 1 + owed id) owed from.server (item.Ask goal from.entity) (add_line (line.Ask from.entity goal) world) (λ id. omega arith)
      (λ queues id. there queues id (from.entity == client) refl) (p.0, counted)
    where
      there : HasQueues plan client → (id : GoalId) (b : Bool) → from.entity == client ≡ b → weigh (not (list_any (is_queue from.server kind.Ask) world.queues)) (weigh ((from.entity == client) && (goal == id)) 1 + 0) ≡ 0
      there queues id true e =
          let its : server_of (entity_at plan.graph client).is ≡ from.server = ap (λ (n : EntityNo). server_of (entity_at plan.graph n).is) (sym (eqb-true from.entity client e)) ∙ eqb-true _ from.server (action_client_knows plan world p.0 at from found) in
          let has : list_any (is_queue from.server kind.Ask) world.queues ≡ true = ap (λ (n : EntityNo). list_any (is_queue n kind.Ask) world.queues) (sym its) ∙ has_queue (server_of (entity_at plan.graph client).is) kind.Ask world (first_world plan) p.0 ∙ queues.asks in
          ap (λ (b : Bool). weigh (not b) (weigh ((from.entity == client) && (goal == id)) 1 + 0)) has
      there queues id false e = ap (λ (b : Bool). weigh (not (list_any (is_queue from.server kind.Ask) world.queues)) (weigh (b && (goal == id)) 1 + 0)) e ∙ weighs_nothing (not (list_any (is_queue from.server kind.Ask) world.queues))

      counted : Accounts plan client (λ id. weigh ((from.entity == client) && (goal == id)) 1 + owed id) world.queues world.servers (world.lines ++ line.Ask from.entity goal ∷ [])
      counted = let a : Accounts plan client owed world.queues world.servers world.lines = p.1 in record {
        lost = a.lost;
        astray = a.astray;
        losses =
            let was = a.losses in
            let b = many_more (is_result_lost client) world.lines (line.Ask from.entity goal ∷ []) in
            let c : many (is_result_lost client) (line.Ask from.entity goal ∷ []) ≡ 0 = refl in
            omega (arith, was, b, c);
        each = λ id.
            let all = a.each id in
            let b = many_more (is_asked client id) world.lines (line.Ask from.entity goal ∷ []) in
            let c = one_line (is_asked client id) (line.Ask from.entity goal) in
            let d = many_more (is_result_taken client id) world.lines (line.Ask from.entity goal ∷ []) in
            let e : many (is_result_taken client id) (line.Ask from.entity goal ∷ []) ≡ 0 = refl in
            omega (arith, all, b, c, d, e);
        sound = λ queues id. let was = a.sound queues id in let b = many_more is_loss world.lines (line.Ask from.entity goal ∷ []) in omega (arith, was, b);
      }

  respond_fair : (owed : GoalId → ℕ) (at : EntityNo) (from : Option ActionClientEntry) (goal : GoalId) (accepted : Bool) (world : WorldState) → action_client_at at world ≡ from → IsFair plan client owed world → IsFair plan client owed (respond from goal accepted world)
  respond_fair owed at None goal accepted world found p = p
  respond_fair owed at (Some from) goal accepted world found p = by (accepted && from.asks)
    where
      by : (b : Bool) → IsFair plan client owed (ask_where b from goal world)
      by true = asked owed at from goal world found p
      by false = p

  item_fair : (rest : GoalId → ℕ) (entity : EntityNo) (moment : Moment) (taken : Item) (closing : Close) (world : WorldState) → IsFair plan client (λ id. of_ask plan client id entity taken + rest id) world → IsFair plan client rest (close_item entity moment taken closing world)
  item_fair rest entity moment (item.Message value) closing world p = same_owed plan client _ rest world (λ id. zero_more (rest id)) p
  item_fair rest entity moment (item.Request from number value) closing world p =
      freely plan client rest from (item.Reply number (reply_of_close closing)) (add_line (line.Reply entity (reply_of_close closing)) world) (λ id. refl) (line_fair plan client rest (line.Reply entity (reply_of_close closing)) world ((λ id. refl), ((λ id. refl), refl)) (same_owed plan client _ rest world (λ id. zero_more (rest id)) p))
  item_fair rest entity moment (item.Reply number value) closing world p = same_owed plan client _ rest world (λ id. zero_more (rest id)) p
  item_fair rest entity moment (item.Goal goal from value) closing world p =
      answer_fair rest entity moment (decision_of_close closing) (record { id = goal; client = from; value = value }) world (same_owed plan client _ rest world (λ id. zero_more (rest id)) p)
  item_fair rest entity moment (item.Cancel request from) closing world p = cancel_fair rest entity request from (decisions_of_close closing) world (same_owed plan client _ rest world (λ id. zero_more (rest id)) p)
  item_fair rest entity moment (item.Ask goal asker) closing world p = ask_answered rest entity goal asker (asked_for goal (goals_at entity world)) world refl p
  item_fair rest entity moment (item.Response goal accepted) closing world p = respond_fair rest entity (action_client_at entity world) goal accepted world refl (same_owed plan client _ rest world (λ id. zero_more (rest id)) p)
  item_fair rest entity moment (item.Code returned count) closing world p = same_owed plan client _ rest world (λ id. zero_more (rest id)) p
  item_fair rest entity moment (item.Feedback goal value) closing world p = same_owed plan client _ rest world (λ id. zero_more (rest id)) p
  item_fair rest entity moment (item.Result goal status value) closing world p = same_owed plan client _ rest world (λ id. zero_more (rest id)) p

  close_fair : (rest : GoalId → ℕ) (entity : EntityNo) (moment : Moment) (why : Cause) (closing : Close) (world : WorldState) → IsFair plan client (λ id. hand_by (of_ask plan client id) entity why + rest id) world → IsFair plan client rest (close_cause entity moment why closing world)
  close_fair rest entity moment cause.Due closing world p = same_owed plan client _ rest world (λ id. zero_more (rest id)) p
  close_fair rest entity moment (cause.Took taken) closing world p = item_fair rest entity moment taken closing world p
  close_fair rest entity moment (cause.Woke goal value canceling) closing world p = poll_fair rest entity goal moment closing world (same_owed plan client _ rest world (λ id. zero_more (rest id)) p)

  -- ---- callbacks

  polled_fair : (owed : GoalId → ℕ) (server : EntityNo) (why : Cause) (task : Option TaskState) (world : WorldState) → IsFair plan client owed world → IsFair plan client owed (with_polled server why task world)
  polled_fair owed server cause.Due task world p = p
  polled_fair owed server (cause.Took taken) task world p = p
  polled_fair owed server (cause.Woke goal value canceling) None world p = p
  polled_fair owed server (cause.Woke goal value canceling) (Some task) world p = (
    (shapes plan client).basic.tasks_kept server goal task world p.0,
    renoted plan client owed owed world.queues world.servers _ world.lines (λ id. noted_changed client id (tasking goal task) refl server world.servers (owed id) (owed id) refl) p.1,
  )

  variables_fair : (owed : GoalId → ℕ) (one : Ready) (variables : Variables) (world : WorldState) → IsFair plan client owed world → IsFair plan client owed (with_variables_for one variables world)
  variables_fair owed one variables world p = by one.exclusive
    where
      by : (b : Bool) → IsFair plan client owed (if b then with_variables one.group variables world else world)
      by true = ((shapes plan client).basic.variables_kept one.group variables world p.0, p.1)
      by false = p

  unclosed_fair : (owed : GoalId → ℕ) (one : Ready) (world : WorldState) → IsFair plan client owed (add_line (run_line one) world) → IsFair plan client owed (unclosed one world)
  unclosed_fair owed one world p =
      let outcome : AfterCallback WorldState = outcome_in one world in
      polled_fair owed one.entity one.cause outcome.task _
      (variables_fair owed one outcome.variables outcome.given
      (callback_keeps (IsFair plan client owed) (give one) (λ effect given q. give_fair owed one effect given q) one (work_for one.entity one.cause world) (variables_for one world) (add_line (run_line one) world) p))

  -- a callback's line says the result that it had in hand
  result_said : (id : GoalId) (one : Ready) (why : Cause) → weigh (is_result_taken client id (line_of one.entity why (input_of one))) 1 ≡ hand_by (of_result plan client id) one.entity why
  result_said id one cause.Due = refl
  result_said id one (cause.Took (item.Message value)) = refl
  result_said id one (cause.Took (item.Request from number value)) = refl
  result_said id one (cause.Took (item.Reply number value)) = refl
  result_said id one (cause.Took (item.Goal goal from value)) = refl
  result_said id one (cause.Took (item.Cancel request from)) = refl
  result_said id one (cause.Took (item.Ask goal from)) = refl
  result_said id one (cause.Took (item.Response goal accepted)) = refl
  result_said id one (cause.Took (item.Code returned count)) = refl
  result_said id one (cause.Took (item.Feedback goal value)) = refl
  result_said id one (cause.Took (item.Result goal status value)) = refl
  result_said id one (cause.Woke goal value canceling) = refl

  hand_split : (id : GoalId) (entity : EntityNo) (why : Cause) → hand_by (weight plan client id) entity why ≡ hand_by (of_ask plan client id) entity why + hand_by (of_result plan client id) entity why
  hand_split id entity cause.Due = refl
  hand_split id entity (cause.Took taken) = refl
  hand_split id entity (cause.Woke goal value canceling) = refl

  begun : (one : Ready) (rest : List Ready) (world : WorldState) → IsFair plan client (λ id. hands (weight plan client id) (one ∷ rest)) world → IsFair plan client (λ id. hand_by (of_ask plan client id) one.entity one.cause + hands (weight plan client id) rest) (add_line (run_line one) world)
  begun one rest world p = let a : Accounts plan client (λ id. hands (weight plan client id) (one ∷ rest)) world.queues world.servers world.lines = p.1 in (
    p.0,
    record {
      lost = a.lost;
      astray = a.astray;
      losses =
          let was = a.losses in
          let b = many_more (is_result_lost client) world.lines (run_line one ∷ []) in
          let c : many (is_result_lost client) (run_line one ∷ []) ≡ 0 = refl in
          omega (arith, was, b, c);
      each = λ id.
          let all = a.each id in
          let b = many_more (is_asked client id) world.lines (run_line one ∷ []) in
          let c : many (is_asked client id) (run_line one ∷ []) ≡ 0 = refl in
          let d = many_more (is_result_taken client id) world.lines (run_line one ∷ []) in
          let e = one_line (is_result_taken client id) (run_line one) in
          let f = result_said id one one.cause in
          let g = hand_split id one.entity one.cause in
          omega (arith, all, b, c, d, e, f, g);
      sound = λ queues id. let was = a.sound queues id in let b = many_more is_loss world.lines (run_line one ∷ []) in omega (arith, was, b);
    },
  )

  run_fair : (one : Ready) (rest : List Ready) (world : WorldState) → IsFair plan client (λ id. hands (weight plan client id) (one ∷ rest)) world → IsFair plan client (λ id. hands (weight plan client id) rest) (run one world)
  run_fair one rest world p =
      close_fair (λ id. hands (weight plan client id) rest) one.entity one.moment one.cause (outcome_in one world).close (unclosed one world)
      (unclosed_fair (λ id. hand_by (of_ask plan client id) one.entity one.cause + hands (weight plan client id) rest) one world (begun one rest world p))

  all_run : (list : List Ready) (world : WorldState) → IsFair plan client (λ id. hands (weight plan client id) list) world → IsFair plan client (λ id. 0) (run_all list world)
  all_run [] world p = p
  all_run (one ∷ list) world p = all_run list (run one world) (run_fair one list world p)

  -- ---- rounds

  expired_fair : (moment : Moment) (world : WorldState) → IsFair plan client (λ id. 0) world → IsFair plan client (λ id. 0) (expire moment world)
  expired_fair moment world p = (
    (shapes plan client).expiry_kept moment world p.0,
    more_lines plan client (λ id. 0) world.queues _ world.lines (flat_map (expire_lines moment) world.servers)
        (all_flat (IsSilent plan client) (expire_lines moment) (λ entry. all_map (IsSilent plan client) _ (λ goal. ((λ id. refl), ((λ id. refl), refl))) (expired moment entry.timeout (records_of entry.held))) world.servers)
        (renoted plan client (λ id. 0) (λ id. 0) world.queues world.servers _ world.lines (λ id. ap (λ (n : ℕ). n + 0) (noted_expired client id moment world.servers)) p.1),
  )

  fed_fair : (one : Fed) (world : WorldState) → IsFair plan client (λ id. 0) world → IsFair plan client (λ id. 0) (feed_one one world)
  fed_fair (feeding.Message topic value) world p = published_fair (λ id. 0) topic value world p
  fed_fair (feeding.Goal server goal value) world p = freely plan client (λ id. 0) server (item.Goal goal None value) world (λ id. refl) p
  fed_fair (feeding.Cancel server goal stamp) world p = freely plan client (λ id. 0) server (item.Cancel (record { id = goal; stamp = stamp }) None) world (λ id. refl) p

  snapshot_fair : (number : ℕ) (moment : Moment) (world : WorldState) → IsFair plan client (λ id. 0) world → IsFair plan client (λ id. 0) (at_snapshot plan number moment world)
  snapshot_fair number moment world p =
      fold_keeps (IsFair plan client (λ id. 0)) (λ before (entry : Feed). feed_one entry.fed before) (λ before entry q. fed_fair entry.fed before q) (fed_in number plan.feed) _
      (expired_fair moment (add_line (line.Round number moment) world) (line_fair plan client (λ id. 0) (line.Round number moment) world ((λ id. refl), ((λ id. refl), refl)) p))

  taken_fair : (moment : Moment) (world : WorldState) → IsFair plan client (λ id. 0) world → IsFair plan client (λ id. hands (weight plan client id) (ready_list moment world)) (take_inputs moment world)
  taken_fair moment world p = let a : Accounts plan client (λ id. 0) world.queues world.servers world.lines = p.1 in (
    (shapes plan client).snapshot_kept moment world p.0,
    record {
      lost = a.lost;
      astray = a.astray;
      losses = a.losses;
      each = λ id.
          let all = a.each id in
          let b = flying_taken (weight plan client id) world.queues in
          let c = list_hands (weight plan client id) moment world in
          omega (arith, all, b, c);
      sound = a.sound;
    },
  )

  rounds_fair : (number : ℕ) (moments : List Moment) (world : WorldState) → IsFair plan client (λ id. 0) world → IsFair plan client (λ id. 0) (rounds plan number moments world)
  rounds_fair number [] world p = p
  rounds_fair number (moment ∷ moments) world p =
      let before : WorldState = at_snapshot plan number moment world in
      rounds_fair (suc number) moments (round plan number moment world) (all_run (ready_list moment before) (take_inputs moment before) (taken_fair moment before (snapshot_fair number moment world p)))

  none_flying : (id : GoalId) (waitables : List Waitable) → flying (weight plan client id) (map (new_queue plan.order plan.graph) waitables) ≡ 0
  none_flying id [] = refl
  none_flying id (waitable ∷ waitables) = let rest = none_flying id waitables in omega (arith, rest)

  none_noted : (id : GoalId) (numbers : List EntityNo) → noted_by client id (map (new_server plan.graph) numbers) ≡ 0
  none_noted id [] = refl
  none_noted id (number ∷ numbers) = let rest = none_noted id numbers in omega (arith, rest)

  first_fair : IsFair plan client (λ id. 0) (first_world plan)
  first_fair = (
    refl,
    record {
      lost = [];
      astray = λ id. 0;
      losses = refl;
      each = λ id.
          let a = none_flying id (filter (λ waitable. takes_from_queue waitable.kind) (wait_set plan.graph)) in
          let b = none_noted id (entities_where is_server plan.graph) in
          omega (arith, a, b);
      sound = λ queues id. omega arith;
    },
  )

pending_silent : (plan : PlanData) (client other count : ℕ) → AllByRecursion (IsSilent plan client) (pending_by other count)
pending_silent plan client other zero = tt
pending_silent plan client other (suc more) = (((λ id. refl), ((λ id. refl), refl)), tt)

-- at a plan's end
pub all_fair : (plan : PlanData) (client : EntityNo) → IsFair plan client (λ id. 0) (last_world plan)
all_fair plan client =
    let last : WorldState = rounds plan 1 plan.moments (first_world plan) in
    let p = rounds_fair plan client 1 plan.moments (first_world plan) (first_fair plan client) in (
      p.0,
      more_lines plan client (λ id. 0) last.queues last.servers last.lines (closing_lines (length plan.moments) last)
          (all_append (IsSilent plan client) (flat_map (λ entry. pending_by entry.entity (length entry.pending)) last.clients) (line.End (length plan.moments) ∷ [])
          (all_flat (IsSilent plan client) (λ entry. pending_by entry.entity (length entry.pending)) (λ entry. pending_silent plan client entry.entity (length entry.pending)) last.clients) (((λ id. refl), ((λ id. refl), refl)), tt)) p.1,
    )

pub results_fair : (client : EntityNo) (id : GoalId) (plan : PlanData) → length (filter (is_result_taken client id) (lines_of plan)) ≤ length (filter (is_asked client id) (lines_of plan))
results_fair client id plan = let all = (all_fair plan client).1.each id in omega (arith, all)
