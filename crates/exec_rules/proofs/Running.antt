-- What every basic change of a world keeps, a callback that runs keeps, and so do rounds.
use Rattle.std.proofs.Common.{◌≡◌, ℕ, suc, ℤ, Bool, true, false, if◌then◌else◌, ◌&&◌, is_some, List, [], ◌∷◌, length, Option, None, Some, refl, sym, ap, subst, ◌∙◌, true≢false}
use Rattle.std.specs.List.{find}
use Rattle.std.specs.Option.{unwrap_or}
use Rattle.std.proofs.lemmas.Bool.{eqb-true}
use Rattle.exec_goal.specs.Cancel.{CancelRequest, Decided, moved, code_of}
use Rattle.exec_msg.specs.declared.goal.ReturnCode.{ReturnCode}
use Rattle.exec_goal.specs.Calls.{end_state}
use Rattle.exec_goal.specs.declared.state.State.{State}
use Rattle.exec_goal.specs.Table.{asked_for, is_accepting, after_end}
use Rattle.exec_msg.specs.Goal.{acceptance_of}
use Rattle.exec_msg.specs.Numbers.{EntityNo, GoalId, Moment}
use Rattle.exec_plan.specs.Feeding.{fed_in}
use Rattle.exec_plan.specs.Plan.{PlanData}
use Rattle.exec_plan.specs.declared.order.Order.{Order}
use Rattle.exec_msg.specs.declared.goal.Acceptance.{Acceptance}
use Rattle.exec_msg.specs.declared.goal.Decision.{Decision}
use Rattle.exec_plan.specs.declared.order.Order.TheVariants as order
use Rattle.exec_msg.specs.declared.goal.Decision.TheVariants as decision
use Rattle.exec_msg.specs.declared.goal.Event.{Event}
use Rattle.exec_msg.specs.declared.kind.Kind.{Kind}
use Rattle.exec_msg.specs.declared.kind.Kind.TheVariants as kind
use Rattle.exec_msg.specs.declared.line.Line.TheVariants as line
use Rattle.exec_script.specs.declared.effects.Close.{Close}
use Rattle.exec_script.specs.declared.effects.Close.TheVariants as close
use Rattle.exec_script.specs.declared.effects.Effect.{Effect}
use Rattle.exec_script.specs.declared.effects.Effects.{Effects}
use Rattle.exec_task.specs.Task.{TaskState}
use Rattle.exec_rules.proofs.Keeping.{Routes, Kept, Moves, Tells, push_kept, publish_kept, moves_kept, tells_kept, ids_changed, state_said, fold_keeps, callback_keeps, give_keeps, answer_ask_keeps, tell_end_keeps, feed_keeps}
use Rattle.exec_rules.specs.Callback.{AfterCallback}
use Rattle.exec_rules.specs.Close.{GoalRequest, reply_of_close, decision_of_close, decisions_of_close, accept, accept_where, decide, with_ended, goal_at, end_in, ask, close_item, close_cause, close_poll, pend, cancel, ask_where, respond}
use Rattle.exec_rules.specs.Give.{give, give_all}
use Rattle.exec_rules.specs.Item.{taker_of}
use Rattle.exec_rules.specs.Run.{unclosed}
use Rattle.exec_rules.specs.Ready.{run_line, ready_list, take_inputs}
use Rattle.exec_rules.specs.Run.{work_for, with_polled, variables_for, with_variables_for, run, commit, outcome_in}
use Rattle.exec_rules.specs.Transcript.{expire, at_snapshot, run_all, round, rounds}
use Rattle.exec_script.specs.Script.{Variables}
use Rattle.exec_rules.specs.World.{WorldState, GoalWork, add_line, goals_at, has_room_for, with_variables, action_client_at, ActionClientEntry, push, push_any, is_action_client_at}
use Rattle.exec_rules.specs.declared.item.Item.{Item}
use Rattle.exec_rules.specs.declared.item.Item.TheVariants as item
use Rattle.exec_rules.specs.declared.ready.Cause.{Cause}
use Rattle.exec_rules.specs.declared.ready.Cause.TheVariants as cause
use Rattle.exec_rules.specs.declared.ready.Ready.{Ready}

-- what an acceptance makes of a property: it happens only where the callback took a goal request, and its server has room
-- for the goal
abbrev pub Accepts : Ready → (WorldState → Type 0) → Type 0
Accepts one P =
    (request : GoalRequest) (how : Acceptance) (world : WorldState) →
    one.cause ≡ cause.Took (item.Goal request.id request.client request.value) → has_room_for request.id (goals_at one.entity world) ≡ true → P world → P (accept one.entity one.moment how request world)

-- the world in which a goal ended by an event, with the line of its state
abbrev pub ended : EntityNo → GoalId → Event → ℤ → Moment → WorldState → WorldState
ended server id by value moment world = state_said server (goal_at server id (with_ended server id by value moment world)) (with_ended server id by value moment world)

-- what the end of a goal makes of a property: it happens only where the callback polled the goal, and the event leads to a
-- terminal state
abbrev pub Ends : Ready → (WorldState → Type 0) → Type 0
Ends one P =
    (id : GoalId) (goal : ℤ) (canceling : Bool) (by : Event) (value : ℤ) (reached : State) (world : WorldState) → one.cause ≡ cause.Woke id goal canceling →
    end_state id by (goals_at one.entity world) ≡ Some reached → P world → P (end_in (Some reached) one.entity id by value one.moment world)

-- the same before those that asked are told
abbrev pub Reaches : Ready → (WorldState → Type 0) → Type 0
Reaches one P =
    (id : GoalId) (goal : ℤ) (canceling : Bool) (by : Event) (value : ℤ) (reached : State) (world : WorldState) → one.cause ≡ cause.Woke id goal canceling →
    end_state id by (goals_at one.entity world) ≡ Some reached → P world → P (ended one.entity id by value one.moment world)

-- whether a callback takes an ask for a result
abbrev pub takes_ask : Cause → Bool
takes_ask (cause.Took (item.Ask id client)) = true
takes_ask _ = false

-- what such a callback makes of a property, behind which nothing else happens
abbrev pub Asks : Ready → (WorldState → Type 0) → (WorldState → Type 0) → Type 0
Asks one P Q = (id : GoalId) (client : EntityNo) (world : WorldState) → one.cause ≡ cause.Took (item.Ask id client) → P world → Q (ask one.entity id client world)

-- where results keep a property, both follow
pub ends_told : {routes : Routes} {P : WorldState → Type 0} → Moves routes P → Tells P → (one : Ready) → Reaches one P → Ends one P
ends_told k t one reaches id goal canceling by value reached world same leads p =
    tell_end_keeps k t one.entity (goal_at one.entity id (with_ended one.entity id by value one.moment world)) _ (reaches id goal canceling by value reached world same leads p)

pub asks_told : {routes : Routes} {P Q : WorldState → Type 0} → Moves routes P → Tells P → (one : Ready) → ((world : WorldState) → P world → Q world) → Asks one P Q
asks_told k t one weaken id client world same p = weaken _ (answer_ask_keeps k t one.entity id client (asked_for id (goals_at one.entity world)) world p)

-- what is found passes the test
pub found_test : {A : Type 0} (test : A → Bool) (all : List A) (one : A) → find test all ≡ Some one → test one ≡ true
found_test {A} test [] one found = absurd (true≢false (sym (ap (λ (o : Option A). is_some o) found)))
found_test {A} test (first ∷ all) one found = by (test first) refl (found_test test all one)
  where
    by : (b : Bool) → test first ≡ b → (find test all ≡ Some one → test one ≡ true) → test one ≡ true
    by true e rest =
        let here : Some first ≡ Some one = rw e at found in
        subst (λ (x : A). test x ≡ true) (ap (λ (o : Option A). unwrap_or o first) here) e
    by false e rest = let there : find test all ≡ Some one = rw e at found in rest there

-- what a callback sends that answers what it took: a reply, a response, a code, or an ask for the result of a goal
abbrev pub Answers : Routes → Ready → EntityNo → Item → Type 0
Answers routes one entity (item.Reply number value) = (given : ℤ) × (one.cause ≡ cause.Took (item.Request entity number given))
Answers routes one entity (item.Response id accepted) = (value : ℤ) × (one.cause ≡ cause.Took (item.Goal id (Some entity) value))
Answers routes one entity (item.Code returned moved) = (request : CancelRequest) × (one.cause ≡ cause.Took (item.Cancel request (Some entity)))
Answers routes one entity (item.Ask id client) = (accepted : Bool) × ((one.cause ≡ cause.Took (item.Response id accepted)) × (routes.server one.entity entity ≡ true))
Answers routes one entity _ = ⊥

-- what such an answer makes of a property, behind which nothing else happens
abbrev pub Sends : Routes → Ready → (WorldState → Type 0) → (WorldState → Type 0) → Type 0
Sends routes one P Q = (entity : EntityNo) (new : Item) (world : WorldState) → Answers routes one entity new → P world → Q (push entity new world)

-- a callback that runs, before it is closed
module _ {routes : Routes} {P : WorldState → Type 0} (k : Moves routes P) (one : Ready) where
  with_polled_keeps : (server : EntityNo) (why : Cause) (task : Option TaskState) (world : WorldState) → P world → P (with_polled server why task world)
  with_polled_keeps server cause.Due task world p = p
  with_polled_keeps server (cause.Took taken) task world p = p
  with_polled_keeps server (cause.Woke id value canceling) None world p = p
  with_polled_keeps server (cause.Woke id value canceling) (Some task) world p = k.tasks_kept server id task world p

  with_variables_for_keeps : (variables : Variables) (world : WorldState) → P world → P (with_variables_for one variables world)
  with_variables_for_keeps variables world p = by one.exclusive
    where
      by : (b : Bool) → P (if b then with_variables one.group variables world else world)
      by true = k.variables_kept one.group variables world p
      by false = p

  pub unclosed_keeps : (world : WorldState) → P (add_line (run_line one) world) → P (unclosed one world)
  unclosed_keeps world p =
      let work : Option GoalWork = work_for one.entity one.cause world in
      let before : WorldState = add_line (run_line one) world in
      let outcome : AfterCallback WorldState = outcome_in one world in
      with_polled_keeps one.entity one.cause outcome.task _
      (with_variables_for_keeps outcome.variables outcome.given
      (callback_keeps P (give one) (λ effect given q. give_keeps k one effect given q) one work (variables_for one world) before p))

-- whether callbacks of a kind take asks
abbrev pub is_ask : Kind → Bool
is_ask kind.Ask = true
is_ask _ = false

-- the same of an answer that is no ask
abbrev pub SendsBack : Routes → Ready → (WorldState → Type 0) → (WorldState → Type 0) → Type 0
SendsBack routes one P Q = (entity : EntityNo) (new : Item) (world : WorldState) → Answers routes one entity new → is_ask (taker_of new) ≡ false → P world → Q (push entity new world)

-- what an action client makes of a property whose goal was accepted and that asks for its result, behind which nothing else
-- happens
abbrev pub Responds : Ready → (WorldState → Type 0) → (WorldState → Type 0) → Type 0
Responds one P Q =
    (client : ActionClientEntry) (id : GoalId) (accepted : Bool) (world : WorldState) → one.cause ≡ cause.Took (item.Response id accepted) → action_client_at one.entity world ≡ Some client → P world → Q (ask_where true client id world)

pub responds_sent : {routes : Routes} (P Q : WorldState → Type 0) → Moves routes P → (one : Ready) → Sends routes one P Q → Responds one P Q
responds_sent {routes = routes} P Q k one sends client id accepted world same found p =
    sends client.server (item.Ask id client.entity) (add_line (line.Ask client.entity id) world)
    (accepted, (same, subst (λ (n : EntityNo). routes.server n client.server ≡ true) (eqb-true client.entity one.entity (found_test (is_action_client_at one.entity) world.action_clients client found)) (k.action_clients_known one.entity client world found p)))
    (k.lines_kept (line.Ask client.entity id ∷ []) world ((λ at goal. refl), (refl, refl)) p)

module _ {routes : Routes} {P Q : WorldState → Type 0} (k : Moves routes P) (one : Ready) (unchanged : (world : WorldState) → takes_ask one.cause ≡ false → P world → Q world) (accepts : Accepts one P) (ending : Ends one P) (asks : Asks one P Q) (responds : Responds one P Q) (sends : SendsBack routes one P Q) where
  -- a callback that takes no ask leaves the property
  weaken : (why : Cause) (world : WorldState) → one.cause ≡ why → takes_ask why ≡ false → P world → Q world
  weaken why world same none p = unchanged world (ap (λ (c : Cause). takes_ask c) same ∙ none) p

  accept_keeps : (wanted : Option Acceptance) (request : GoalRequest) (world : WorldState) → one.cause ≡ cause.Took (item.Goal request.id request.client request.value) → (is_some wanted ≡ true → has_room_for request.id (goals_at one.entity world) ≡ true) → P world → P (accept_where wanted one.entity one.moment request world)
  accept_keeps None request world same room p = p
  accept_keeps (Some how) request world same room p = accepts request how world same (room refl) p

  -- a decision that accepts is one for which there is room
  roomy : (b : Bool) (made : Decision) → is_accepting (if b then made else decision.Reject) ≡ true → b ≡ true
  roomy true made e = refl
  roomy false made e = absurd (true≢false (sym e))

  response_sent : (client : Option EntityNo) (id : GoalId) (value : ℤ) (accepted : Bool) (world : WorldState) → one.cause ≡ cause.Took (item.Goal id client value) → P world → Q (push_any client (item.Response id accepted) world)
  response_sent None id value accepted world same p = weaken _ world same refl p
  response_sent (Some client) id value accepted world same p = sends client (item.Response id accepted) world (value, same) refl p

  decide_keeps : (request : GoalRequest) (decision : Decision) (world : WorldState) → one.cause ≡ cause.Took (item.Goal request.id request.client request.value) → (is_accepting decision ≡ true → has_room_for request.id (goals_at one.entity world) ≡ true) → P world → Q (decide one.entity one.moment decision request world)
  decide_keeps request decision world same room p =
      response_sent request.client request.id request.value (is_accepting decision) _ same
      (accept_keeps (acceptance_of decision) request _ same room (k.lines_kept (line.Decide one.entity request.id decision ∷ []) _ ((λ at goal. refl), (refl, refl)) p))

  code_sent : (client : Option EntityNo) (request : CancelRequest) (returned : ReturnCode) (count : ℕ) (world : WorldState) → one.cause ≡ cause.Took (item.Cancel request client) → P world → Q (push_any client (item.Code returned count) world)
  code_sent None request returned count world same p = weaken _ world same refl p
  code_sent (Some client) request returned count world same p = sends client (item.Code returned count) world (request, same) refl p

  cancel_keeps : (request : CancelRequest) (client : Option EntityNo) (decisions : List Decided) (world : WorldState) → one.cause ≡ cause.Took (item.Cancel request client) → P world → Q (cancel one.entity request client decisions world)
  cancel_keeps request client decisions world same p =
      code_sent client request (code_of request decisions (goals_at one.entity world)) (length (moved decisions (goals_at one.entity world))) _ same
      (k.answer_kept one.entity decisions (code_of request decisions (goals_at one.entity world)) (length (moved decisions (goals_at one.entity world))) world p)

  ask_keeps : (b : Bool) (client : ActionClientEntry) (id : GoalId) (accepted : Bool) (world : WorldState) → one.cause ≡ cause.Took (item.Response id accepted) → action_client_at one.entity world ≡ Some client → P world → Q (ask_where b client id world)
  ask_keeps false client id accepted world same found p = weaken _ world same refl p
  ask_keeps true client id accepted world same found p = responds client id accepted world same found p

  respond_keeps : (client : Option ActionClientEntry) (id : GoalId) (accepted : Bool) (world : WorldState) → one.cause ≡ cause.Took (item.Response id accepted) → action_client_at one.entity world ≡ client → P world → Q (respond client id accepted world)
  respond_keeps None id accepted world same found p = weaken _ world same refl p
  respond_keeps (Some client) id accepted world same found p = ask_keeps (accepted && client.asks) client id accepted world same found p

  took_keeps : (taken : Item) (closing : Close) (world : WorldState) → one.cause ≡ cause.Took taken → P world → Q (close_item one.entity one.moment taken closing world)
  took_keeps (item.Message value) closing world same p = weaken _ world same refl p
  took_keeps (item.Request client number value) closing world same p =
      sends client (item.Reply number (reply_of_close closing)) _ (value, same) refl (k.lines_kept (line.Reply one.entity (reply_of_close closing) ∷ []) _ ((λ at goal. refl), (refl, refl)) p)
  took_keeps (item.Reply number value) closing world same p = weaken _ world same refl p
  took_keeps (item.Goal id client value) closing world same p =
      decide_keeps (record { id = id; client = client; value = value }) (if has_room_for id (goals_at one.entity world) then decision_of_close closing else decision.Reject) world same
      (roomy (has_room_for id (goals_at one.entity world)) (decision_of_close closing)) p
  took_keeps (item.Cancel request client) closing world same p = cancel_keeps request client (decisions_of_close closing) world same p
  took_keeps (item.Ask id client) closing world same p = asks id client world same p
  took_keeps (item.Response id accepted) closing world same p = respond_keeps (action_client_at one.entity world) id accepted world same refl p
  took_keeps (item.Code returned moved) closing world same p = weaken _ world same refl p
  took_keeps (item.Feedback id value) closing world same p = weaken _ world same refl p
  took_keeps (item.Result id status value) closing world same p = weaken _ world same refl p

  end_keeps : (id : GoalId) (goal : ℤ) (canceling : Bool) (by : Event) (value : ℤ) (reached : Option State) (world : WorldState) → one.cause ≡ cause.Woke id goal canceling → end_state id by (goals_at one.entity world) ≡ reached → P world → P (end_in reached one.entity id by value one.moment world)
  end_keeps id goal canceling by value None world same leads p = p
  end_keeps id goal canceling by value (Some reached) world same leads p = ending id goal canceling by value reached world same leads p

  pend_keeps : (under : Order) (id : GoalId) (world : WorldState) → P world → P (pend under one.entity id world)
  pend_keeps order.Kind id world p = p
  pend_keeps order.Arrival id world p = k.arrivals_kept one.entity id world p

  poll_keeps : (id : GoalId) (goal : ℤ) (canceling : Bool) (closing : Close) (world : WorldState) → one.cause ≡ cause.Woke id goal canceling → P world → P (close_poll one.entity id one.moment closing world)
  poll_keeps id goal canceling close.Nothing world same p = p
  poll_keeps id goal canceling (close.Reply reply) world same p = p
  poll_keeps id goal canceling (close.Decide decision) world same p = p
  poll_keeps id goal canceling (close.DecideCancel decision) world same p = p
  poll_keeps id goal canceling (close.Decisions decisions) world same p = p
  poll_keeps id goal canceling close.Pending world same p = pend_keeps world.order id world p
  poll_keeps id goal canceling (close.Ended by value) world same p = end_keeps id goal canceling by value (end_state id by (goals_at one.entity world)) world same refl p

  pub closing_keeps : (why : Cause) (closing : Close) (world : WorldState) → one.cause ≡ why → P world → Q (close_cause one.entity one.moment why closing world)
  closing_keeps cause.Due closing world same p = weaken _ world same refl p
  closing_keeps (cause.Took taken) closing world same p = took_keeps taken closing world same p
  closing_keeps (cause.Woke id value canceling) closing world same p = weaken _ _ same refl (poll_keeps id value canceling closing world same p)

  -- a callback that runs
  pub run_told : (world : WorldState) → P (add_line (run_line one) world) → Q (run one world)
  run_told world p = closing_keeps one.cause (outcome_in one world).close _ refl (unclosed_keeps k one world p)

-- the same where the line of an ask and the ask that is sent are two changes
pub run_keeps : {routes : Routes} {P Q : WorldState → Type 0} → Moves routes P → (one : Ready) → ((world : WorldState) → takes_ask one.cause ≡ false → P world → Q world) → Accepts one P → Ends one P → Asks one P Q → Sends routes one P Q →
    (world : WorldState) → P (add_line (run_line one) world) → Q (run one world)
run_keeps {P = P} {Q = Q} k one unchanged accepts ending asks sends world p = run_told k one unchanged accepts ending asks (responds_sent P Q k one sends) (λ entity new before a other q. sends entity new before a q) world p

said_kept : {P : WorldState → Type 0} → Kept P → (server : EntityNo) (goal : _) (world : WorldState) → P world → P (state_said server goal world)
said_kept k server None world p = p
said_kept k server (Some goal) world p = k.lines_kept _ _ p

-- what every change keeps under which identifiers stay, the end of a goal keeps
pub end_kept : {P : WorldState → Type 0} → Kept P → (server : EntityNo) (id : GoalId) (by : Event) (value : ℤ) (moment : Moment) (world : WorldState) → P world → P (ended server id by value moment world)
end_kept k server id by value moment world p =
    said_kept k server _ _ (k.goals_kept server _ world (ids_changed id (after_end by value moment) (λ one. refl)) p)

-- what an acceptance makes of a property, whichever goal it is that is accepted
abbrev pub KeptByAcceptance : (WorldState → Type 0) → Type 0
KeptByAcceptance P = (server : EntityNo) (moment : Moment) (how : Acceptance) (request : GoalRequest) (world : WorldState) → has_room_for request.id (goals_at server world) ≡ true → P world → P (accept server moment how request world)

module _ {P : WorldState → Type 0} (basic : Kept P) (accepts : KeptByAcceptance P) where
  -- effects, one after another
  pub given_keeps : (one : Ready) (effects : List Effect) (world : WorldState) → P world → P (give_all one effects world)
  given_keeps one effects world p = fold_keeps P (λ before effect. give one effect before) (λ before effect q. give_keeps (moves_kept basic) one effect before q) effects world p

  -- what a callback did apart from the world is given to it
  pub commit_keeps : (one : Ready) (effects : Effects) (world : WorldState) → P world → P (commit one effects world)
  commit_keeps one effects world p =
      closing_keeps (moves_kept basic) one (λ before none q. q)
      (λ request how before same room q. accepts one.entity one.moment how request before room q)
      (ends_told (moves_kept basic) (tells_kept basic) one (λ id goal canceling by value reached before same leads q. end_kept basic one.entity id by value one.moment before q))
      (asks_told (moves_kept basic) (tells_kept basic) one (λ before q. q))
      (responds_sent P P (moves_kept basic) one (λ entity new before answers q. push_kept basic entity new before q))
      (λ entity new before answers other q. push_kept basic entity new before q) one.cause effects.close _ refl
      (given_keeps one effects.list _ (basic.lines_kept (run_line one ∷ []) world p))

-- each part of a round keeps a property, an acceptance too
pub record KeptByRounds (P : WorldState → Type 0) : Type 0 where
  pub basic : Kept P
  pub accepts_kept : KeptByAcceptance P
  pub expiry_kept : (moment : Moment) (world : WorldState) → P world → P (expire moment world)
  pub snapshot_kept : (moment : Moment) (world : WorldState) → P world → P (take_inputs moment world)

module _ {P : WorldState → Type 0} (k : KeptByRounds P) where
  pub one_keeps : (one : Ready) (world : WorldState) → P world → P (run one world)
  one_keeps one world p =
      run_keeps (moves_kept k.basic) one (λ before none q. q)
      (λ request how before same room q. k.accepts_kept one.entity one.moment how request before room q)
      (ends_told (moves_kept k.basic) (tells_kept k.basic) one (λ id goal canceling by value reached before same leads q. end_kept k.basic one.entity id by value one.moment before q))
      (asks_told (moves_kept k.basic) (tells_kept k.basic) one (λ before q. q))
      (λ entity new before answers q. push_kept k.basic entity new before q) world (k.basic.lines_kept (run_line one ∷ []) world p)

  pub run_all_keeps : (list : List Ready) (world : WorldState) → P world → P (run_all list world)
  run_all_keeps list world p = fold_keeps P (λ before one. run one before) (λ before one q. one_keeps one before q) list world p

  -- what comes before the snapshot
  pub snapshot_keeps : (plan : PlanData) (number : ℕ) (moment : Moment) (world : WorldState) → P (add_line (line.Round number moment) world) → P (at_snapshot plan number moment world)
  snapshot_keeps plan number moment world p = feed_keeps (moves_kept k.basic) (publish_kept {P = P} (λ entity value before q. push_kept k.basic entity (item.Message value) before q)) (fed_in number plan.feed) _ (k.expiry_kept moment _ p)

  -- a round
  pub round_keeps : (plan : PlanData) (number : ℕ) (moment : Moment) (world : WorldState) → P (add_line (line.Round number moment) world) → P (round plan number moment world)
  round_keeps plan number moment world p =
      let before : WorldState = at_snapshot plan number moment world in
      run_all_keeps (ready_list moment before) (take_inputs moment before) (k.snapshot_kept moment before (snapshot_keeps plan number moment world p))

  -- rounds
  pub rounds_keep : (plan : PlanData) (number : ℕ) (moments : List Moment) (world : WorldState) → P world → P (rounds plan number moments world)
  rounds_keep plan number [] world p = p
  rounds_keep plan number (moment ∷ moments) world p = rounds_keep plan (suc number) moments _ (round_keeps plan number moment world (k.basic.lines_kept _ _ p))
