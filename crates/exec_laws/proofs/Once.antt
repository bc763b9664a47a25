-- Through rounds, an action client asks for the result of a goal once at most: it sends one request for it, which has one answer.
use Rattle.exec_plan.specs.declared.order.Order.TheVariants as order
use Rattle.exec_plan.specs.declared.order.Order.{Order}
use Rattle.std.proofs.Common.{◌≡◌, ℕ, zero, suc, ℤ, pos, ◌+◌, ◌≤◌, nat_le, Bool, true, false, ◌&&◌, ◌==◌, if◌then◌else◌, List, [], ◌∷◌, ◌++◌, length, map, Option, None, Some, refl, sym, ap, ◌∙◌, true≢false, arith}
use Rattle.std.specs.List.{filter, find, flat_map}
use Rattle.std.specs.Option.{option_map}
use Rattle.std.proofs.lemmas.Bool.{eqb-true, eq-eqb, leb-true, leb-false}
use Rattle.exec_goal.specs.Calls.{end_state}
use Rattle.exec_goal.specs.Cancel.{CancelRequest, Decided, moved, code_of}
use Rattle.exec_goal.specs.State.{status_of}
use Rattle.exec_goal.specs.Table.{GoalRecord, Asked, told, later, unknown, after_event, asked_for, expired, is_accepting}
use Rattle.exec_goal.specs.declared.state.State.{State}
use Rattle.exec_msg.specs.Goal.{acceptance_of}
use Rattle.exec_msg.specs.Numbers.{EntityNo, GoalId, Moment}
use Rattle.exec_plan.specs.Feeding.{fed_in}
use Rattle.exec_plan.specs.Graph.{GraphData, Waitable, wait_set}
use Rattle.exec_plan.specs.Plan.{PlanData, Fed, Feed}
use Rattle.exec_plan.specs.declared.plan.FedOf.TheVariants as feeding
use Rattle.exec_msg.specs.Lists.{change_first}
use Rattle.exec_msg.specs.declared.goal.Acceptance.{Acceptance}
use Rattle.exec_msg.specs.declared.goal.Acceptance.TheVariants as acceptance
use Rattle.exec_msg.specs.declared.goal.Decision.{Decision}
use Rattle.exec_msg.specs.declared.goal.Decision.TheVariants as decision
use Rattle.exec_msg.specs.declared.goal.Event.{Event}
use Rattle.exec_msg.specs.declared.goal.Event.TheVariants as event
use Rattle.exec_msg.specs.declared.goal.GoalStatus.{GoalStatus}
use Rattle.exec_msg.specs.declared.goal.GoalStatus.TheVariants as status
use Rattle.exec_msg.specs.declared.goal.ReturnCode.{ReturnCode}
use Rattle.exec_msg.specs.declared.line.Line.{Line}
use Rattle.exec_msg.specs.declared.line.Line.TheVariants as line
use Rattle.exec_script.specs.declared.effects.Close.{Close}
use Rattle.exec_script.specs.declared.effects.Close.TheVariants as close
use Rattle.exec_script.specs.declared.effects.Effect.{Effect}
use Rattle.exec_script.specs.declared.effects.Effect.TheVariants as effect
use Rattle.exec_task.specs.Task.{TaskState}
use Rattle.exec_laws.proofs.Asked.{many, many_more, many_none, one_line, HasNone}
use Rattle.exec_laws.proofs.Channels.{weigh}
use Rattle.exec_laws.proofs.Flying.{flying, flying_after, flying_taken, hand_by, hands, list_hands}
use Rattle.exec_rules.proofs.Keeping.{callback_keeps, fold_keeps, publish_kept}
use Rattle.exec_rules.proofs.Pairs.{all_append, all_flat, all_map}
use Rattle.exec_rules.proofs.Running.{found_test}
use Rattle.exec_rules.specs.Callback.{AfterCallback}
use Rattle.exec_rules.specs.Close.{GoalRequest, reply_of_close, decision_of_close, decisions_of_close, accepted_lines, moved_lines, accept_where, answer_goal, cancel, tell, tell_end, answer_ask, ask_where, respond, with_ended, goal_at, end_in, close_item, close_poll, close_cause, pend}
use Rattle.exec_laws.specs.Exchanges.{is_asked}
use Rattle.exec_rules.specs.Give.{publish, call_by, send_goal_by, send_cancel, cancel_all_by, cancel_goal_by, oldest_accepted, execute_goal, sender_at, give_feedback, give}
use Rattle.exec_rules.specs.Item.{goal_id}
use Rattle.exec_rules.specs.Ready.{ready_list, run_line, take_inputs}
use Rattle.exec_rules.specs.Run.{outcome_in, run, unclosed, variables_for, with_polled, with_variables_for, work_for}
use Rattle.exec_rules.specs.Transcript.{takes_from_queue, first_world, new_queue, expire_lines, expire, feed_one, at_snapshot, run_all, round, rounds, pending_by, closing_lines, lines_of}
use Rattle.exec_script.specs.Script.{Variables}
use Rattle.exec_rules.specs.World.{WorldState, Queue, ClientEntry, ActionClientEntry, add_line, drop_line, lost_by, goals_at, has_room_for, push, push_any, with_call, with_goal_sent, with_variables, client_at, action_client_at, is_action_client_at, next_arrival, records_of}
use Rattle.exec_rules.specs.declared.item.Item.{Item}
use Rattle.exec_rules.specs.declared.item.Item.TheVariants as item
use Rattle.exec_rules.specs.declared.ready.Cause.{Cause}
use Rattle.exec_rules.specs.declared.ready.Cause.TheVariants as cause
use Rattle.exec_rules.specs.declared.ready.Ready.{Ready}

-- the next goal has the next number
next_number : (n x y : ℕ) → y ≡ x + 1 → weigh (nat_le n x) 1 + weigh (y == n) 1 ≤ weigh (nat_le n y) 1
next_number n x y next = by (nat_le n x) (y == n) (nat_le n y) refl refl refl
  where
    by : (b c d : Bool) → nat_le n x ≡ b → y == n ≡ c → nat_le n y ≡ d → weigh (nat_le n x) 1 + weigh (y == n) 1 ≤ weigh (nat_le n y) 1
    by true true d e f g = let least = leb-true n x e in let same = eqb-true y n f in absurd (omega (arith, next, least, same))
    by true false true e f g = rw (e, f, g) (omega arith)
    by true false false e f g = let least = leb-true n x e in let most = leb-false n y g in absurd (omega (arith, next, least, most))
    by false true true e f g = rw (e, f, g) (omega arith)
    by false true false e f g = let same = eqb-true y n f in let most = leb-false n y g in absurd (omega (arith, same, most))
    by false false d e f g = rw (e, f) (omega arith)

module _ (client : EntityNo) (id : GoalId) where
  -- ---- the client's goals

  -- a client's next goal
  abbrev one_more : ActionClientEntry → ActionClientEntry
  one_more entry = record entry { goals = entry.goals + 1 }

  -- how many goals of the identifier the client may have sent
  abbrev most_of : Option ActionClientEntry → ℕ
  most_of None = 0
  most_of (Some entry) = weigh (nat_le id (goal_id entry.place entry.goals)) 1

  sender_changed : (number : EntityNo) (clients : List ActionClientEntry) → find (is_action_client_at client) (change_first (is_action_client_at number) one_more clients) ≡ (if number == client then option_map one_more (find (is_action_client_at client) clients) else find (is_action_client_at client) clients)
  sender_changed number [] = by (number == client)
    where
      by : (b : Bool) → find (is_action_client_at client) [] ≡ (if b then option_map one_more (find (is_action_client_at client) []) else find (is_action_client_at client) [])
      by true = refl
      by false = refl
  sender_changed number (entry ∷ clients) = by (is_action_client_at number entry) (is_action_client_at client entry) (number == client) refl refl refl (sender_changed number clients)
    where
      by : (b c d : Bool) → is_action_client_at number entry ≡ b → is_action_client_at client entry ≡ c → number == client ≡ d →
          find (is_action_client_at client) (change_first (is_action_client_at number) one_more clients) ≡ (if number == client then option_map one_more (find (is_action_client_at client) clients) else find (is_action_client_at client) clients) →
          find (is_action_client_at client) (change_first (is_action_client_at number) one_more (entry ∷ clients)) ≡ (if number == client then option_map one_more (find (is_action_client_at client) (entry ∷ clients)) else find (is_action_client_at client) (entry ∷ clients))
      by true true true e f g rest = rw (e, f, g) refl
      by true true false e f g rest = absurd (true≢false (sym (eq-eqb number client (sym (eqb-true entry.entity number e) ∙ eqb-true entry.entity client f)) ∙ g))
      by true false true e f g rest = absurd (true≢false (sym (eq-eqb entry.entity client (eqb-true entry.entity number e ∙ eqb-true number client g)) ∙ f))
      by true false false e f g rest = rw (e, f, g) refl
      by false true true e f g rest = absurd (true≢false (sym (eq-eqb entry.entity number (eqb-true entry.entity client f ∙ sym (eqb-true number client g))) ∙ e))
      by false true false e f g rest = rw (e, f, g) refl
      by false false d e f g rest = rw (e, f) rest

  -- ---- what is on its way

  -- whether a goal is the client's of the identifier
  abbrev of_sender : GoalId → Option EntityNo → ℕ
  of_sender goal None = 0
  of_sender goal (Some from) = weigh ((from == client) && (goal == id)) 1

  -- a request for the client's goal, or the response to one
  abbrev weight : EntityNo → Item → ℕ
  weight entity (item.Goal goal from value) = of_sender goal from
  weight entity (item.Response goal accepted) = of_sender goal (Some entity)
  weight entity _ = 0

  -- ---- a world

  -- the client's asks, with requests and responses that are on their way, and what is owed, are at most as many as its goals
  abbrev AreFew : ℕ → List Queue → List ActionClientEntry → List Line → Type 0
  AreFew owed queues clients lines = many (is_asked client id) lines + (flying weight queues + owed) ≤ most_of (find (is_action_client_at client) clients)

  abbrev IsOnce : ℕ → WorldState → Type 0
  IsOnce owed world = AreFew owed world.queues world.action_clients world.lines

  lighter : (owed less : ℕ) (world : WorldState) → less ≤ owed → IsOnce owed world → IsOnce less world
  lighter owed less world few p = omega (arith, few, p)

  more_lines : (owed : ℕ) (queues : List Queue) (clients : List ActionClientEntry) (lines more : List Line) → HasNone (is_asked client id) more → AreFew owed queues clients lines → AreFew owed queues clients (lines ++ more)
  more_lines owed queues clients lines more none p =
      let a = many_more (is_asked client id) lines more in
      let b = many_none (is_asked client id) more none in
      omega (arith, a, b, p)

  line_once : (owed : ℕ) (one : Line) (world : WorldState) → is_asked client id one ≡ false → IsOnce owed world → IsOnce owed (add_line one world)
  line_once owed one world none p = more_lines owed world.queues world.action_clients world.lines (one ∷ []) (none, tt) p

  drops_none : (entity : EntityNo) (lost : List Item) → HasNone (is_asked client id) (map (drop_line entity) lost)
  drops_none entity [] = tt
  drops_none entity (first ∷ lost) = (refl, drops_none entity lost)

  -- an item is sent that was owed
  sent : (owed less : ℕ) (entity : EntityNo) (new : Item) (world : WorldState) → weight entity new + less ≤ owed → IsOnce owed world → IsOnce less (push entity new world)
  sent owed less entity new world few p =
      let after = flying_after weight entity (next_arrival world) new world.queues in
      more_lines less (push entity new world).queues world.action_clients world.lines (map (drop_line entity) (lost_by entity new world)) (drops_none entity (lost_by entity new world)) (omega (arith, after, few, p))

  -- what isn't owed
  freely : (owed : ℕ) (entity : EntityNo) (new : Item) (world : WorldState) → weight entity new ≡ 0 → IsOnce owed world → IsOnce owed (push entity new world)
  freely owed entity new world none p = sent owed owed entity new world (omega (arith, none)) p

  freely_any : (owed : ℕ) (entity : Option EntityNo) (new : Item) (world : WorldState) → ((to : EntityNo) → weight to new ≡ 0) → IsOnce owed world → IsOnce owed (push_any entity new world)
  freely_any owed None new world none p = p
  freely_any owed (Some entity) new world none p = freely owed entity new world (none entity) p

  -- ---- effects

  call_once : (owed : ℕ) (from : Option ClientEntry) (value : ℤ) (world : WorldState) → IsOnce owed world → IsOnce owed (call_by from value world)
  call_once owed None value world p = p
  call_once owed (Some from) value world p =
      freely owed from.service (item.Request from.entity (from.calls + 1) value) (add_line (line.Call from.entity (from.calls + 1) value) (with_call from.entity world)) refl
      (line_once owed (line.Call from.entity (from.calls + 1) value) (with_call from.entity world) refl p)

  send_goal_once : (owed : ℕ) (at : EntityNo) (from : Option ActionClientEntry) (value : ℤ) (world : WorldState) → action_client_at at world ≡ from → IsOnce owed world → IsOnce owed (send_goal_by from value world)
  send_goal_once owed at None value world found p = p
  send_goal_once owed at (Some from) value world found p =
      sent (of_sender (goal_id from.place (from.goals + 1)) (Some from.entity) + owed) owed from.server (item.Goal (goal_id from.place (from.goals + 1)) (Some from.entity) value)
      (add_line (line.Goal from.entity (goal_id from.place (from.goals + 1)) value) (with_goal_sent from.entity world)) (omega arith)
      (line_once (of_sender (goal_id from.place (from.goals + 1)) (Some from.entity) + owed) (line.Goal from.entity (goal_id from.place (from.goals + 1)) value) (with_goal_sent from.entity world) refl (counted (from.entity == client) refl))
    where
      named : from.entity ≡ at
      named = eqb-true from.entity at (found_test (is_action_client_at at) world.action_clients from found)

      counted : (b : Bool) → from.entity == client ≡ b → IsOnce (weigh ((from.entity == client) && (goal_id from.place (from.goals + 1) == id)) 1 + owed) (with_goal_sent from.entity world)
      counted true e =
          let its : find (is_action_client_at client) world.action_clients ≡ Some from = ap (λ (n : EntityNo). find (is_action_client_at n) world.action_clients) (sym (eqb-true from.entity client e) ∙ named) ∙ found in
          let after : find (is_action_client_at client) (with_goal_sent from.entity world).action_clients ≡ Some (one_more from) =
          sender_changed from.entity world.action_clients ∙ ap (λ (b : Bool). if b then option_map one_more (find (is_action_client_at client) world.action_clients) else find (is_action_client_at client) world.action_clients) e
          ∙ ap (λ (o : Option ActionClientEntry). option_map one_more o) its in
          let most : most_of (find (is_action_client_at client) (with_goal_sent from.entity world).action_clients) ≡ weigh (nat_le id (goal_id from.place (from.goals + 1))) 1 = ap (λ (o : Option ActionClientEntry). most_of o) after in
          let was : most_of (find (is_action_client_at client) world.action_clients) ≡ weigh (nat_le id (goal_id from.place from.goals)) 1 = ap (λ (o : Option ActionClientEntry). most_of o) its in
          let step = next_number id (goal_id from.place from.goals) (goal_id from.place (from.goals + 1)) (omega arith) in
          let new : weigh ((from.entity == client) && (goal_id from.place (from.goals + 1) == id)) 1 ≡ weigh (goal_id from.place (from.goals + 1) == id) 1 = ap (λ (b : Bool). weigh (b && (goal_id from.place (from.goals + 1) == id)) 1) e in
          omega (arith, most, was, step, new, p)
      counted false e =
          let after : find (is_action_client_at client) (with_goal_sent from.entity world).action_clients ≡ find (is_action_client_at client) world.action_clients =
          sender_changed from.entity world.action_clients ∙ ap (λ (b : Bool). if b then option_map one_more (find (is_action_client_at client) world.action_clients) else find (is_action_client_at client) world.action_clients) e in
          let most = ap (λ (o : Option ActionClientEntry). most_of o) after in
          let new : weigh ((from.entity == client) && (goal_id from.place (from.goals + 1) == id)) 1 ≡ 0 = ap (λ (b : Bool). weigh (b && (goal_id from.place (from.goals + 1) == id)) 1) e in
          omega (arith, most, new, p)

  send_cancel_once : (owed : ℕ) (from : ActionClientEntry) (request : CancelRequest) (world : WorldState) → IsOnce owed world → IsOnce owed (send_cancel from request world)
  send_cancel_once owed from request world p =
      freely owed from.server (item.Cancel request (Some from.entity)) (add_line (line.Cancel from.entity request.id request.stamp) world) refl (line_once owed (line.Cancel from.entity request.id request.stamp) world refl p)

  cancel_all_once : (owed : ℕ) (from : Option ActionClientEntry) (stamp : ℕ) (world : WorldState) → IsOnce owed world → IsOnce owed (cancel_all_by from stamp world)
  cancel_all_once owed None stamp world p = p
  cancel_all_once owed (Some from) stamp world p = send_cancel_once owed from (record { id = 0; stamp = stamp }) world p

  cancel_goal_once : (owed : ℕ) (from : Option ActionClientEntry) (number stamp : ℕ) (world : WorldState) → IsOnce owed world → IsOnce owed (cancel_goal_by from number stamp world)
  cancel_goal_once owed None number stamp world p = p
  cancel_goal_once owed (Some from) number stamp world p = send_cancel_once owed from (record { id = goal_id from.place number; stamp = stamp }) world p

  execute_once : (owed : ℕ) (server : EntityNo) (goal : Option GoalRecord) (world : WorldState) → IsOnce owed world → IsOnce owed (execute_goal server goal world)
  execute_once owed server None world p = p
  execute_once owed server (Some goal) world p = more_lines owed world.queues world.action_clients world.lines (line.State server goal.id (status_of (after_event event.Execute goal).state) ∷ []) (refl, tt) p

  feedback_once : (owed : ℕ) (server : EntityNo) (why : Cause) (value : ℤ) (world : WorldState) → IsOnce owed world → IsOnce owed (give_feedback server why value world)
  feedback_once owed server cause.Due value world p = p
  feedback_once owed server (cause.Took taken) value world p = p
  feedback_once owed server (cause.Woke goal given canceling) value world p =
      freely_any owed (sender_at server goal world) (item.Feedback goal value) (add_line (line.Feedback server goal value) world) (λ to. refl) (line_once owed (line.Feedback server goal value) world refl p)

  published_once : (owed : ℕ) (topic : EntityNo) (value : ℤ) (world : WorldState) → IsOnce owed world → IsOnce owed (publish topic value world)
  published_once owed topic value world p = publish_kept {P = IsOnce owed} (λ entity one before q. freely owed entity (item.Message one) before refl q) topic value world p

  give_once : (owed : ℕ) (one : Ready) (given : Effect) (world : WorldState) → IsOnce owed world → IsOnce owed (give one given world)
  give_once owed one (effect.Publish topic value) world p = published_once owed topic value (add_line (line.Pub topic value) world) (line_once owed (line.Pub topic value) world refl p)
  give_once owed one (effect.Call from value) world p = call_once owed (client_at from world) value world p
  give_once owed one (effect.SendGoal from value) world p = send_goal_once owed from (action_client_at from world) value world refl p
  give_once owed one (effect.CancelAll from stamp) world p = cancel_all_once owed (action_client_at from world) stamp world p
  give_once owed one (effect.CancelGoal from number stamp) world p = cancel_goal_once owed (action_client_at from world) number stamp world p
  give_once owed one (effect.Execute server) world p = execute_once owed server (oldest_accepted server world) world p
  give_once owed one (effect.Log value) world p = line_once owed (line.Log one.entity value) world refl p
  give_once owed one (effect.Feedback value) world p = feedback_once owed one.entity one.cause value world p

  -- ---- what closes a callback

  told_once : (owed : ℕ) (server : EntityNo) (goal : GoalId) (status : GoalStatus) (value : ℤ) (asker : EntityNo) (world : WorldState) → IsOnce owed world → IsOnce owed (tell server goal status value asker world)
  told_once owed server goal status value asker world p = freely owed asker (item.Result goal status value) (add_line (line.Result server goal status value) world) refl (line_once owed (line.Result server goal status value) world refl p)

  end_once : (owed : ℕ) (server : EntityNo) (goal : Option GoalRecord) (world : WorldState) → IsOnce owed world → IsOnce owed (tell_end server goal world)
  end_once owed server None world p = p
  end_once owed server (Some goal) world p =
      fold_keeps (IsOnce owed) (λ before asker. tell server goal.id (status_of goal.state) goal.result asker before) (λ before asker q. told_once owed server goal.id (status_of goal.state) goal.result asker before q) goal.askers _
      (line_once owed (line.State server goal.id (status_of goal.state)) world refl p)

  ended_once : (owed : ℕ) (server : EntityNo) (goal : GoalId) (by : Event) (value : ℤ) (moment : Moment) (reached : Option State) (world : WorldState) → IsOnce owed world → IsOnce owed (end_in reached server goal by value moment world)
  ended_once owed server goal by value moment None world p = p
  ended_once owed server goal by value moment (Some reached) world p = end_once owed server (goal_at server goal (with_ended server goal by value moment world)) (with_ended server goal by value moment world) p

  pend_once : (owed : ℕ) (under : Order) (server : EntityNo) (goal : GoalId) (world : WorldState) → IsOnce owed world → IsOnce owed (pend under server goal world)
  pend_once owed order.Kind server goal world p = p
  pend_once owed order.Arrival server goal world p = p

  poll_once : (owed : ℕ) (server : EntityNo) (goal : GoalId) (moment : Moment) (closing : Close) (world : WorldState) → IsOnce owed world → IsOnce owed (close_poll server goal moment closing world)
  poll_once owed server goal moment close.Nothing world p = p
  poll_once owed server goal moment (close.Reply value) world p = p
  poll_once owed server goal moment (close.Decide decision) world p = p
  poll_once owed server goal moment (close.DecideCancel decision) world p = p
  poll_once owed server goal moment (close.Decisions decisions) world p = p
  poll_once owed server goal moment close.Pending world p = pend_once owed world.order server goal world p
  poll_once owed server goal moment (close.Ended by value) world p = ended_once owed server goal by value moment (end_state goal by (goals_at server world)) world p

  answer_ask_once : (owed : ℕ) (server : EntityNo) (goal : GoalId) (asker : EntityNo) (asked : Asked) (world : WorldState) → IsOnce owed world → IsOnce owed (answer_ask server goal asker asked world)
  answer_ask_once owed server goal asker (told status value) world p = told_once owed server goal status value asker world p
  answer_ask_once owed server goal asker unknown world p = told_once owed server goal status.Unknown (pos 0) asker world p
  answer_ask_once owed server goal asker later world p = p

  accepted_none : (server goal : ℕ) (how : Acceptance) → HasNone (is_asked client id) (accepted_lines server goal how)
  accepted_none server goal acceptance.Execute = (refl, (refl, tt))
  accepted_none server goal acceptance.Defer = (refl, tt)

  accept_once : (owed : ℕ) (wanted : Option Acceptance) (server : EntityNo) (moment : Moment) (request : GoalRequest) (world : WorldState) → IsOnce owed world → IsOnce owed (accept_where wanted server moment request world)
  accept_once owed None server moment request world p = p
  accept_once owed (Some how) server moment request world p = more_lines owed world.queues world.action_clients world.lines (accepted_lines server request.id how) (accepted_none server request.id how) p

  response_once : (rest : ℕ) (from : Option EntityNo) (goal : GoalId) (accepted : Bool) (world : WorldState) → IsOnce (of_sender goal from + rest) world → IsOnce rest (push_any from (item.Response goal accepted) world)
  response_once rest None goal accepted world p = lighter _ rest world (omega arith) p
  response_once rest (Some from) goal accepted world p = sent (of_sender goal (Some from) + rest) rest from (item.Response goal accepted) world (omega arith) p

  answer_once : (rest : ℕ) (server : EntityNo) (moment : Moment) (wanted : Decision) (request : GoalRequest) (world : WorldState) → IsOnce (of_sender request.id request.client + rest) world → IsOnce rest (answer_goal server moment wanted request world)
  answer_once rest server moment wanted request world p =
      let made : Decision = if has_room_for request.id (goals_at server world) then wanted else decision.Reject in
      response_once rest request.client request.id (is_accepting made) _
      (accept_once (of_sender request.id request.client + rest) (acceptance_of made) server moment request (add_line (line.Decide server request.id made) world)
      (line_once (of_sender request.id request.client + rest) (line.Decide server request.id made) world refl p))

  moved_none : (server : EntityNo) (goals : List GoalRecord) (more : List Line) → HasNone (is_asked client id) more → HasNone (is_asked client id) (moved_lines server goals ++ more)
  moved_none server [] more p = p
  moved_none server (goal ∷ goals) more p = (refl, moved_none server goals more p)

  cancel_once : (owed : ℕ) (server : EntityNo) (request : CancelRequest) (from : Option EntityNo) (decisions : List Decided) (world : WorldState) → IsOnce owed world → IsOnce owed (cancel server request from decisions world)
  cancel_once owed server request from decisions world p =
      let goals : List GoalRecord = moved decisions (goals_at server world) in
      let returned : ReturnCode = code_of request decisions (goals_at server world) in
      freely_any owed from (item.Code returned (length goals)) _ (λ to. refl)
      (more_lines owed world.queues world.action_clients world.lines (moved_lines server goals ++ line.Code server returned (length goals) ∷ []) (moved_none server goals (line.Code server returned (length goals) ∷ []) (refl, tt)) p)

  -- a response is an ask at most
  respond_once : (rest : ℕ) (at : EntityNo) (from : Option ActionClientEntry) (goal : GoalId) (accepted : Bool) (world : WorldState) → action_client_at at world ≡ from → IsOnce (of_sender goal (Some at) + rest) world → IsOnce rest (respond from goal accepted world)
  respond_once rest at None goal accepted world found p = lighter _ rest world (omega arith) p
  respond_once rest at (Some from) goal accepted world found p = by (accepted && from.asks)
    where
      by : (b : Bool) → IsOnce rest (ask_where b from goal world)
      by true =
          freely rest from.server (item.Ask goal from.entity) (add_line (line.Ask from.entity goal) world) refl
          (let named : of_sender goal (Some from.entity) ≡ of_sender goal (Some at) = ap (λ (n : EntityNo). of_sender goal (Some n)) (eqb-true from.entity at (found_test (is_action_client_at at) world.action_clients from found)) in
          let a = many_more (is_asked client id) world.lines (line.Ask from.entity goal ∷ []) in
          let b = one_line (is_asked client id) (line.Ask from.entity goal) in
          omega (arith, named, a, b, p))
      by false = lighter _ rest world (omega arith) p

  item_once : (rest : ℕ) (entity : EntityNo) (moment : Moment) (taken : Item) (closing : Close) (world : WorldState) → IsOnce (weight entity taken + rest) world → IsOnce rest (close_item entity moment taken closing world)
  item_once rest entity moment (item.Message value) closing world p = lighter _ rest world (omega arith) p
  item_once rest entity moment (item.Request from number value) closing world p =
      freely rest from (item.Reply number (reply_of_close closing)) (add_line (line.Reply entity (reply_of_close closing)) world) refl (line_once rest (line.Reply entity (reply_of_close closing)) world refl (lighter _ rest world (omega arith) p))
  item_once rest entity moment (item.Reply number value) closing world p = lighter _ rest world (omega arith) p
  item_once rest entity moment (item.Goal goal from value) closing world p = answer_once rest entity moment (decision_of_close closing) (record { id = goal; client = from; value = value }) world p
  item_once rest entity moment (item.Cancel request from) closing world p = cancel_once rest entity request from (decisions_of_close closing) world (lighter _ rest world (omega arith) p)
  item_once rest entity moment (item.Ask goal asker) closing world p = answer_ask_once rest entity goal asker (asked_for goal (goals_at entity world)) world (lighter _ rest world (omega arith) p)
  item_once rest entity moment (item.Response goal accepted) closing world p = respond_once rest entity (action_client_at entity world) goal accepted world refl p
  item_once rest entity moment (item.Code returned count) closing world p = lighter _ rest world (omega arith) p
  item_once rest entity moment (item.Feedback goal value) closing world p = lighter _ rest world (omega arith) p
  item_once rest entity moment (item.Result goal status value) closing world p = lighter _ rest world (omega arith) p

  close_once : (rest : ℕ) (entity : EntityNo) (moment : Moment) (why : Cause) (closing : Close) (world : WorldState) → IsOnce (hand_by weight entity why + rest) world → IsOnce rest (close_cause entity moment why closing world)
  close_once rest entity moment cause.Due closing world p = lighter _ rest world (omega arith) p
  close_once rest entity moment (cause.Took taken) closing world p = item_once rest entity moment taken closing world p
  close_once rest entity moment (cause.Woke goal value canceling) closing world p = poll_once rest entity goal moment closing world (lighter _ rest world (omega arith) p)

  -- ---- callbacks

  polled_once : (owed : ℕ) (server : EntityNo) (why : Cause) (task : Option TaskState) (world : WorldState) → IsOnce owed world → IsOnce owed (with_polled server why task world)
  polled_once owed server cause.Due task world p = p
  polled_once owed server (cause.Took taken) task world p = p
  polled_once owed server (cause.Woke goal value canceling) None world p = p
  polled_once owed server (cause.Woke goal value canceling) (Some task) world p = p

  variables_once : (owed : ℕ) (one : Ready) (variables : Variables) (world : WorldState) → IsOnce owed world → IsOnce owed (with_variables_for one variables world)
  variables_once owed one variables world p = by one.exclusive
    where
      by : (b : Bool) → IsOnce owed (if b then with_variables one.group variables world else world)
      by true = p
      by false = p

  run_once : (one : Ready) (rest : List Ready) (world : WorldState) → IsOnce (hands weight (one ∷ rest)) world → IsOnce (hands weight rest) (run one world)
  run_once one rest world p =
      let owed : ℕ = hand_by weight one.entity one.cause + hands weight rest in
      let outcome : AfterCallback WorldState = outcome_in one world in
      close_once (hands weight rest) one.entity one.moment one.cause outcome.close (unclosed one world)
      (polled_once owed one.entity one.cause outcome.task _
      (variables_once owed one outcome.variables outcome.given
      (callback_keeps (IsOnce owed) (give one) (λ effect given q. give_once owed one effect given q) one (work_for one.entity one.cause world) (variables_for one world) (add_line (run_line one) world)
      (line_once owed (run_line one) world refl p))))

  all_run : (list : List Ready) (world : WorldState) → IsOnce (hands weight list) world → IsOnce 0 (run_all list world)
  all_run [] world p = p
  all_run (one ∷ list) world p = all_run list (run one world) (run_once one list world p)

  -- ---- rounds

  expired_once : (moment : Moment) (world : WorldState) → IsOnce 0 world → IsOnce 0 (expire moment world)
  expired_once moment world p =
      more_lines 0 world.queues world.action_clients world.lines (flat_map (expire_lines moment) world.servers)
      (all_flat (λ one. is_asked client id one ≡ false) (expire_lines moment) (λ entry. all_map (λ one. is_asked client id one ≡ false) _ (λ goal. refl) (expired moment entry.timeout (records_of entry.held))) world.servers) p

  fed_once : (one : Fed) (world : WorldState) → IsOnce 0 world → IsOnce 0 (feed_one one world)
  fed_once (feeding.Message topic value) world p = published_once 0 topic value world p
  fed_once (feeding.Goal server goal value) world p = freely 0 server (item.Goal goal None value) world refl p
  fed_once (feeding.Cancel server goal stamp) world p = freely 0 server (item.Cancel (record { id = goal; stamp = stamp }) None) world refl p

  snapshot_once : (plan : PlanData) (number : ℕ) (moment : Moment) (world : WorldState) → IsOnce 0 world → IsOnce 0 (at_snapshot plan number moment world)
  snapshot_once plan number moment world p =
      fold_keeps (IsOnce 0) (λ before (entry : Feed). feed_one entry.fed before) (λ before entry q. fed_once entry.fed before q) (fed_in number plan.feed) _
      (expired_once moment (add_line (line.Round number moment) world) (line_once 0 (line.Round number moment) world refl p))

  taken_once : (moment : Moment) (world : WorldState) → IsOnce 0 world → IsOnce (hands weight (ready_list moment world)) (take_inputs moment world)
  taken_once moment world p =
      let a = flying_taken weight world.queues in
      let b = list_hands weight moment world in
      omega (arith, a, b, p)

  rounds_once : (plan : PlanData) (number : ℕ) (moments : List Moment) (world : WorldState) → IsOnce 0 world → IsOnce 0 (rounds plan number moments world)
  rounds_once plan number [] world p = p
  rounds_once plan number (moment ∷ moments) world p =
      let before : WorldState = at_snapshot plan number moment world in
      rounds_once plan (suc number) moments (round plan number moment world) (all_run (ready_list moment before) (take_inputs moment before) (taken_once moment before (snapshot_once plan number moment world p)))

  none_flying : (under : Order) (graph : GraphData) (waitables : List Waitable) → flying weight (map (new_queue under graph) waitables) ≡ 0
  none_flying under graph [] = refl
  none_flying under graph (waitable ∷ waitables) = let rest = none_flying under graph waitables in omega (arith, rest)

  first_once : (plan : PlanData) → IsOnce 0 (first_world plan)
  first_once plan = let none = none_flying plan.order plan.graph (filter (λ waitable. takes_from_queue waitable.kind) (wait_set plan.graph)) in omega (arith, none)

  pending_none : (other count : ℕ) → HasNone (is_asked client id) (pending_by other count)
  pending_none other zero = tt
  pending_none other (suc more) = (refl, tt)

  one_at_most : (entry : Option ActionClientEntry) → most_of entry ≤ 1
  one_at_most None = omega arith
  one_at_most (Some entry) = by (nat_le id (goal_id entry.place entry.goals))
    where
      by : (b : Bool) → weigh b 1 ≤ 1
      by true = omega arith
      by false = omega arith

  pub asked_once : (plan : PlanData) → length (filter (is_asked client id) (lines_of plan)) ≤ 1
  asked_once plan =
      let last : WorldState = rounds plan 1 plan.moments (first_world plan) in
      let closed : AreFew 0 last.queues last.action_clients (lines_of plan) =
      more_lines 0 last.queues last.action_clients last.lines (closing_lines (length plan.moments) last)
      (all_append (λ one. is_asked client id one ≡ false) (flat_map (λ entry. pending_by entry.entity (length entry.pending)) last.clients) (line.End (length plan.moments) ∷ [])
      (all_flat (λ one. is_asked client id one ≡ false) (λ entry. pending_by entry.entity (length entry.pending)) (λ entry. pending_none entry.entity (length entry.pending)) last.clients) (refl, tt))
      (rounds_once plan 1 plan.moments (first_world plan) (first_once plan)) in
      let few = one_at_most (find (is_action_client_at client) last.action_clients) in
      omega (arith, closed, few)
