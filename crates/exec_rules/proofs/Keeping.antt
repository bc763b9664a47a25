-- What every basic change of a world keeps, effects and closings keep.
use Rattle.std.proofs.Common.{◌≡◌, ℕ, zero, suc, ℤ, Bool, true, false, ◌+◌, List, [], ◌∷◌, ◌++◌, length, map, drop, Option, None, Some, refl, ap, ◌∙◌}
use Rattle.std.specs.List.{fold, list_all, list_any}
use Rattle.exec_goal.specs.Cancel.{CancelRequest, Decided, moved, after_answer, table_after, is_moved}
use Rattle.exec_goal.specs.State.{status_of}
use Rattle.exec_goal.specs.Table.{GoalRecord, Asked, told, later, unknown, has_id, after_event, asked_by}
use Rattle.exec_goal.specs.declared.info.GoalInfo.{GoalInfo}
use Rattle.exec_msg.specs.Numbers.{EntityNo, GoalId}
use Rattle.exec_script.specs.Instruction.{Script}
use Rattle.exec_plan.specs.Plan.{Fed, Feed}
use Rattle.exec_plan.specs.declared.plan.FedOf.TheVariants as feeding
use Rattle.exec_msg.specs.Lists.{change_first}
use Rattle.exec_msg.specs.declared.goal.Event.TheVariants as event
use Rattle.exec_msg.specs.declared.goal.ReturnCode.{ReturnCode}
use Rattle.exec_msg.specs.declared.goal.GoalStatus.{GoalStatus}
use Rattle.exec_msg.specs.declared.kind.Kind.{Kind}
use Rattle.exec_msg.specs.declared.kind.Kind.TheVariants as kind
use Rattle.exec_msg.specs.declared.line.Line.{Line}
use Rattle.exec_msg.specs.declared.line.Line.TheVariants as line
use Rattle.exec_script.specs.Script.{ScriptState, CallInput, step_of, skipped_by, after_step, follow, resumed, Variables}
use Rattle.exec_script.specs.Zeros.{zeros}
use Rattle.exec_script.specs.declared.effects.Effect.{Effect}
use Rattle.exec_script.specs.declared.effects.Effect.TheVariants as effect
use Rattle.exec_script.specs.declared.instr.Instr.{Instr}
use Rattle.exec_script.specs.declared.place.Role.{Role}
use Rattle.exec_script.specs.declared.place.Role.TheVariants as role
use Rattle.exec_script.specs.declared.step.Step.{Step}
use Rattle.exec_script.specs.declared.step.Step.TheVariants as step
use Rattle.exec_script.specs.declared.step.Stop.TheVariants as stop
use Rattle.exec_task.specs.Task.{TaskState, polled_where, is_awake, poll_input}
use Rattle.exec_task.specs.declared.wait.Turn.{Turn}
use Rattle.exec_rules.proofs.Records.{ids}
use Rattle.exec_rules.specs.Callback.{CancelHandling, handle_cancel, call_in, take_item, poll, poll_where, act, callback, instructions_of, candidate_input}
use Rattle.exec_rules.specs.Close.{tell, tell_end, moved_lines, answer_ask, goal_arrived}
use Rattle.exec_rules.specs.Give.{publish, call_by, send_goal_by, send_cancel, cancel_all_by, cancel_goal_by, oldest_accepted, execute_goal, sender_at, give_feedback, give}
use Rattle.exec_rules.specs.Item.{goal_id, taker_of}
use Rattle.exec_rules.specs.Lines.{statuses_of, is_answer, is_loss}
use Rattle.exec_rules.specs.Ready.{turn_at, input_of}
use Rattle.exec_rules.specs.Transcript.{feed_one, feed}
use Rattle.exec_rules.specs.World.{WorldState, GoalWork, ClientEntry, ActionClientEntry, add_line, add_lines, drop_line, lost_by, queued, push, push_any, subscribers_at, goals_at, change_goals, with_task, client_at, with_call, action_client_at, with_goal_sent, with_variables}
use Rattle.exec_rules.specs.declared.item.Item.{Item}
use Rattle.exec_rules.specs.declared.item.Item.TheVariants as item
use Rattle.exec_rules.specs.declared.ready.Cause.{Cause}
use Rattle.exec_rules.specs.declared.ready.Cause.TheVariants as cause
use Rattle.exec_rules.specs.declared.ready.Ready.{Ready}

-- each basic change but an acceptance keeps a property: lines, an item that is queued, goals that are changed under their
-- identifiers, where a task stands, a goal that arrives anew, a call, a goal that is sent, and variables
pub record Kept (P : WorldState → Type 0) : Type 0 where
  pub lines_kept : (lines : List Line) (world : WorldState) → P world → P (add_lines lines world)
  pub queues_kept : (entity : EntityNo) (new : Item) (world : WorldState) → P world → P (queued entity new world)
  pub goals_kept : (server : EntityNo) (change : List GoalRecord → List GoalRecord) (world : WorldState) → ((goals : List GoalRecord) → ids (change goals) ≡ ids goals) → P world → P (change_goals server change world)
  pub tasks_kept : (server : EntityNo) (id : GoalId) (task : TaskState) (world : WorldState) → P world → P (with_task server id task world)
  pub arrivals_kept : (server : EntityNo) (id : GoalId) (world : WorldState) → P world → P (goal_arrived server id world)
  pub calls_kept : (client : EntityNo) (world : WorldState) → P world → P (with_call client world)
  pub sending_kept : (client : EntityNo) (world : WorldState) → P world → P (with_goal_sent client world)
  pub variables_kept : (group : ℕ) (variables : Variables) (world : WorldState) → P world → P (with_variables group variables world)

-- whether a line neither begins a round or a callback, nor says a publication, a call, what was displaced, or a result
abbrev pub is_plain : Line → Bool
is_plain (line.Round number moment) = false
is_plain (line.Run entity of first aux id) = false
is_plain (line.Pub topic value) = false
is_plain (line.Call client number value) = false
is_plain (line.Drop entity of value) = false
is_plain (line.Result server id status value) = false
is_plain _ = true

-- lines that say no goal's status, and of no answer that it was displaced, and that are plain
abbrev pub IsQuiet : List Line → Type 0
IsQuiet lines = ((server : EntityNo) (id : GoalId) → statuses_of server id lines ≡ []) × ((list_any is_loss lines ≡ false) × (list_all is_plain lines ≡ true))

-- whether callbacks of a kind take messages, requests, or results
abbrev pub is_message : Kind → Bool
is_message kind.Message = true
is_message _ = false

abbrev pub is_request : Kind → Bool
is_request kind.Request = true
is_request _ = false

abbrev pub is_result : Kind → Bool
is_result kind.Result = true
is_result _ = false

-- where clients send their requests: whether a client is one of a service, and whether an action client is one of a server
pub record Routes : Type 0 where
  pub service : EntityNo → EntityNo → Bool
  pub server : EntityNo → EntityNo → Bool

-- wherever
abbrev pub anywhere : Routes
anywhere = record { service = λ client entity. true; server = λ client entity. true }

-- whether an item may be sent to an entity
abbrev pub is_sent_well : Routes → EntityNo → Item → Bool
is_sent_well routes entity (item.Request client number value) = routes.service client entity
is_sent_well routes entity (item.Goal id (Some client) value) = routes.server client entity
is_sent_well routes entity (item.Cancel request (Some client)) = routes.server client entity
is_sent_well routes entity _ = true

-- the line of a goal's state, if there is a goal
abbrev pub state_said : EntityNo → Option GoalRecord → WorldState → WorldState
state_said server None world = world
state_said server (Some goal) world = add_line (line.State server goal.id (status_of goal.state)) world

-- the world after a cancel request moved goals by what was decided, with the lines that say so
abbrev pub canceled : EntityNo → List Decided → ReturnCode → ℕ → WorldState → WorldState
canceled server decisions returned count world =
    add_lines (moved_lines server (moved decisions (goals_at server world)) ++ line.Code server returned count ∷ []) (change_goals server (table_after decisions) world)

-- each basic change but an acceptance, an end, a result and an answer keeps a property: lines that are quiet, an item that
-- may be sent there, is no message, request or result and answers nothing, a publication, a call, the execution of a goal,
-- the goals that a cancel request moves, where a task stands, a goal that arrives anew, a goal that is sent, and variables; and
-- action clients are known to send where they may
pub record Moves (routes : Routes) (P : WorldState → Type 0) : Type 0 where
  pub lines_kept : (lines : List Line) (world : WorldState) → IsQuiet lines → P world → P (add_lines lines world)
  pub pushes_kept : (entity : EntityNo) (new : Item) (world : WorldState) → is_sent_well routes entity new ≡ true → is_answer (taker_of new) ≡ false → is_message (taker_of new) ≡ false → is_request (taker_of new) ≡ false → is_result (taker_of new) ≡ false → P world → P (push entity new world)
  pub publications_kept : (topic : EntityNo) (value : ℤ) (world : WorldState) → P world → P (publish topic value (add_line (line.Pub topic value) world))
  pub calls_kept : (number : EntityNo) (client : ClientEntry) (value : ℤ) (world : WorldState) → client_at number world ≡ Some client → P world → P (call_by (Some client) value world)
  pub action_clients_known : (number : EntityNo) (client : ActionClientEntry) (world : WorldState) → action_client_at number world ≡ Some client → P world → routes.server client.entity client.server ≡ true
  pub execution_kept : (server : EntityNo) (goal : GoalRecord) (world : WorldState) → oldest_accepted server world ≡ Some goal → P world → P (execute_goal server (Some goal) world)
  pub answer_kept : (server : EntityNo) (decisions : List Decided) (returned : ReturnCode) (count : ℕ) (world : WorldState) → P world → P (canceled server decisions returned count world)
  pub tasks_kept : (server : EntityNo) (id : GoalId) (task : TaskState) (world : WorldState) → P world → P (with_task server id task world)
  pub arrivals_kept : (server : EntityNo) (id : GoalId) (world : WorldState) → P world → P (goal_arrived server id world)
  pub sending_kept : (client : EntityNo) (world : WorldState) → P world → P (with_goal_sent client world)
  pub variables_kept : (group : ℕ) (variables : Variables) (world : WorldState) → P world → P (with_variables group variables world)

-- and so do a result that is told, and goals that keep identifiers and states
pub record Tells (P : WorldState → Type 0) : Type 0 where
  pub results_kept : (server : EntityNo) (id : GoalId) (status : GoalStatus) (value : ℤ) (client : EntityNo) (world : WorldState) → P world → P (tell server id status value client world)
  pub notes_kept : (server : EntityNo) (id : GoalId) (change : GoalRecord → GoalRecord) (world : WorldState) → ((goal : GoalRecord) → (change goal).id ≡ goal.id) → ((goal : GoalRecord) → (change goal).state ≡ goal.state) → P world → P (change_goals server (change_first (has_id id) change) world)

-- what each step of a fold keeps, the fold keeps
pub fold_keeps : {S A : Type 0} (P : S → Type 0) (f : S → A → S) → ((state : S) (one : A) → P state → P (f state one)) → (all : List A) (state : S) → P state → P (fold f state all)
fold_keeps P f keeps [] state p = p
fold_keeps P f keeps (one ∷ all) state p = fold_keeps P f keeps all (f state one) (keeps state one p)

-- ---- callbacks

step_keeps : {S : Type 0} (P : S → Type 0) (put : Effect → S → S) → ((one : Effect) (given : S) → P given → P (put one given)) → (place : ℕ) (does : Step) (state : ScriptState S) → P state.given → P (after_step put place does state).given
step_keeps P put keeps place (step.Store destination value) state p = p
step_keeps P put keeps place (step.Skip count) state p = p
step_keeps P put keeps place (step.Give one) state p = keeps one state.given p
step_keeps P put keeps place (step.Answer value) state p = p
step_keeps P put keeps place (step.Wait ticks) state p = p
step_keeps P put keeps place step.Yield state p = p
step_keeps P put keeps place (step.Ended by value) state p = p

-- what each effect keeps, a script keeps
follow_keeps : {S : Type 0} (P : S → Type 0) (put : Effect → S → S) → ((one : Effect) (given : S) → P given → P (put one given)) → (input : CallInput) (script : List Instr) (place over : ℕ) (state : ScriptState S) → P state.given → P (follow put input script place over state).given
follow_keeps P put keeps input [] place over state p = p
follow_keeps P put keeps input (instruction ∷ rest) place (suc over) state p = follow_keeps P put keeps input rest (suc place) over state p
follow_keeps P put keeps input (instruction ∷ rest) place zero state p =
    follow_keeps P put keeps input rest (suc place) (skipped_by (step_of instruction state.registers state.variables input) (length rest))
    (after_step put (suc place) (step_of instruction state.registers state.variables input) state)
    (step_keeps P put keeps (suc place) (step_of instruction state.registers state.variables input) state p)

resumed_keeps : {S : Type 0} (P : S → Type 0) (put : Effect → S → S) → ((one : Effect) (given : S) → P given → P (put one given)) → (script : List Instr) (place : ℕ) (registers variables : List ℤ) (answer : Option ℤ) (input : CallInput) (given : S) → P given → P (resumed put script place registers variables answer input given).given
resumed_keeps P put keeps script place registers variables answer input given p =
    follow_keeps P put keeps input (drop place script) place 0 (record { registers = registers; variables = variables; reply_or_decision = answer; given = given; stop = stop.End }) p

module _ {S : Type 0} (P : S → Type 0) (put : Effect → S → S) (keeps : (one : Effect) (given : S) → P given → P (put one given)) where
  handled_keeps : (one : Ready) (candidates : List GoalInfo) (handling : CancelHandling S) → P handling.given → P (fold (handle_cancel put one) handling candidates).given
  handled_keeps one candidates handling p =
      fold_keeps (λ (state : CancelHandling S). P state.given) (handle_cancel put one)
      (λ state candidate q. resumed_keeps P put keeps (instructions_of one.script) 0 zeros state.variables None (candidate_input one.moment candidate) state.given q)
      candidates handling p

  in_role_keeps : (role : Role) (one : Ready) (variables : Variables) (given : S) → P given → P (call_in role put one variables given).given
  in_role_keeps role one variables given p = resumed_keeps P put keeps (instructions_of one.script) 0 zeros variables None (input_of one) given p

  take_keeps : (taken : Item) (one : Ready) (variables : Variables) (given : S) → P given → P (take_item taken put one variables given).given
  take_keeps (item.Message value) one variables given p = in_role_keeps role.Callback one variables given p
  take_keeps (item.Request client number value) one variables given p = in_role_keeps role.Service one variables given p
  take_keeps (item.Reply number value) one variables given p = in_role_keeps role.Callback one variables given p
  take_keeps (item.Goal id client value) one variables given p = in_role_keeps role.GoalHandler one variables given p
  take_keeps (item.Cancel request client) one variables given p = handled_keeps one one.candidates (record { variables = variables; given = given; decisions = [] }) p
  take_keeps (item.Ask id client) one variables given p = in_role_keeps role.Callback one variables given p
  take_keeps (item.Response id accepted) one variables given p = in_role_keeps role.Callback one variables given p
  take_keeps (item.Code returned moved) one variables given p = in_role_keeps role.Callback one variables given p
  take_keeps (item.Feedback id value) one variables given p = in_role_keeps role.Callback one variables given p
  take_keeps (item.Result id status value) one variables given p = in_role_keeps role.Callback one variables given p

  polled_keeps : (b : Bool) (script : Script) (value : ℤ) (turn : Turn) (task : TaskState) (variables : Variables) (given : S) → P given → P (polled_where b put script value turn task variables given).given
  polled_keeps true script value turn task variables given p = resumed_keeps P put keeps script task.place task.registers variables None (poll_input value turn) given p
  polled_keeps false script value turn task variables given p = p

  poll_where_keeps : (b : Bool) (turn : Turn) (work : GoalWork) (variables : Variables) (given : S) → P given → P (poll_where b put turn work variables given).given
  poll_where_keeps true turn work variables given p = polled_keeps (is_awake work.task turn) work.script work.value turn work.task variables given p
  poll_where_keeps false turn work variables given p = p

  poll_keeps : (turn : Turn) (work : Option GoalWork) (variables : Variables) (given : S) → P given → P (poll put turn work variables given).given
  poll_keeps turn None variables given p = p
  poll_keeps turn (Some work) variables given p = poll_where_keeps (is_awake work.task turn) turn work variables given p

  act_keeps : (why : Cause) (one : Ready) (work : Option GoalWork) (variables : Variables) (given : S) → P given → P (act why put one work variables given).given
  act_keeps cause.Due one work variables given p = in_role_keeps role.Callback one variables given p
  act_keeps (cause.Took taken) one work variables given p = take_keeps taken one variables given p
  act_keeps (cause.Woke id value canceling) one work variables given p = poll_keeps (turn_at one.moment canceling) work variables given p

  -- what each effect keeps, a callback keeps
  pub callback_keeps : (one : Ready) (work : Option GoalWork) (variables : Variables) (given : S) → P given → P (callback put one work variables given).given
  callback_keeps one work variables given p = act_keeps one.cause one work variables given p

-- ---- goals under their identifiers

pub ids_changed : (id : GoalId) (change : GoalRecord → GoalRecord) → ((goal : GoalRecord) → (change goal).id ≡ goal.id) → (goals : List GoalRecord) → ids (change_first (has_id id) change goals) ≡ ids goals
ids_changed id change same [] = refl
ids_changed id change same (goal ∷ goals) = by (has_id id goal) refl (ids_changed id change same goals)
  where
    by : (b : Bool) → has_id id goal ≡ b → ids (change_first (has_id id) change goals) ≡ ids goals → ids (change_first (has_id id) change (goal ∷ goals)) ≡ ids (goal ∷ goals)
    by true e rest = rw e (ap (λ (first : GoalId). first ∷ ids goals) (same goal))
    by false e rest = rw e (ap (λ (others : List GoalId). goal.id ∷ others) rest)

answered_id : (decisions : List Decided) (goal : GoalRecord) → (after_answer decisions goal).id ≡ goal.id
answered_id decisions goal = by (is_moved decisions goal) refl
  where
    by : (b : Bool) → is_moved decisions goal ≡ b → (after_answer decisions goal).id ≡ goal.id
    by true e = rw e refl
    by false e = rw e refl

pub ids_answered : (decisions : List Decided) (goals : List GoalRecord) → ids (table_after decisions goals) ≡ ids goals
ids_answered decisions [] = refl
ids_answered decisions (goal ∷ goals) =
    ap (λ (first : GoalId). first ∷ ids (table_after decisions goals)) (answered_id decisions goal)
    ∙ ap (λ (others : List GoalId). goal.id ∷ others) (ids_answered decisions goals)

-- ---- effects and what closes a callback

pub push_kept : {P : WorldState → Type 0} → Kept P → (entity : EntityNo) (new : Item) (world : WorldState) → P world → P (push entity new world)
push_kept k entity new world p = k.lines_kept (map (drop_line entity) (lost_by entity new world)) (queued entity new world) (k.queues_kept entity new world p)

-- what each message that is sent keeps, messages to a topic keep
pub publish_kept : {P : WorldState → Type 0} → ((entity : EntityNo) (value : ℤ) (world : WorldState) → P world → P (push entity (item.Message value) world)) → (topic : EntityNo) (value : ℤ) (world : WorldState) → P world → P (publish topic value world)
publish_kept {P = P} sent topic value world p =
    fold_keeps P (λ before subscriber. push subscriber (item.Message value) before) (λ before subscriber q. sent subscriber value before q) (subscribers_at topic world) world p

pub moves_kept : {P : WorldState → Type 0} → Kept P → Moves anywhere P
moves_kept {P} k = record {
  lines_kept = λ lines world quiet p. k.lines_kept lines world p;
  pushes_kept = λ entity new world well free message request result p. push_kept k entity new world p;
  publications_kept = λ topic value world p. publish_kept {P = P} (λ entity sent before q. push_kept k entity (item.Message sent) before q) topic value _ (k.lines_kept (line.Pub topic value ∷ []) world p);
  calls_kept = λ number client value world found p.
      push_kept k client.service (item.Request client.entity (client.calls + 1) value) (add_line (line.Call client.entity (client.calls + 1) value) (with_call client.entity world))
      (k.lines_kept (line.Call client.entity (client.calls + 1) value ∷ []) (with_call client.entity world) (k.calls_kept client.entity world p));
  action_clients_known = λ number client world found p. refl;
  execution_kept = λ server goal world found p. k.lines_kept _ _ (k.goals_kept server _ world (ids_changed goal.id (after_event event.Execute) (λ one. refl)) p);
  answer_kept = λ server decisions returned count world p. k.lines_kept _ _ (k.goals_kept server _ world (ids_answered decisions) p);
  tasks_kept = k.tasks_kept;
  arrivals_kept = k.arrivals_kept;
  sending_kept = k.sending_kept;
  variables_kept = k.variables_kept;
}

pub tells_kept : {P : WorldState → Type 0} → Kept P → Tells P
tells_kept k = record {
  results_kept = λ server id status value client world p. push_kept k client (item.Result id status value) (add_line (line.Result server id status value) world) (k.lines_kept (line.Result server id status value ∷ []) world p);
  notes_kept = λ server id change world same unmoved p. k.goals_kept server _ world (ids_changed id change same) p;
}

module _ {routes : Routes} {P : WorldState → Type 0} (k : Moves routes P) where
  line_kept : (one : Line) (world : WorldState) → IsQuiet (one ∷ []) → P world → P (add_line one world)
  line_kept one world quiet p = k.lines_kept (one ∷ []) world quiet p

  call_keeps : (number : EntityNo) (client : Option ClientEntry) (value : ℤ) (world : WorldState) → client_at number world ≡ client → P world → P (call_by client value world)
  call_keeps number None value world found p = p
  call_keeps number (Some client) value world found p = k.calls_kept number client value world found p

  send_goal_keeps : (number : EntityNo) (client : Option ActionClientEntry) (value : ℤ) (world : WorldState) → action_client_at number world ≡ client → P world → P (send_goal_by client value world)
  send_goal_keeps number None value world found p = p
  send_goal_keeps number (Some client) value world found p =
      k.pushes_kept client.server (item.Goal (goal_id client.place (client.goals + 1)) (Some client.entity) value) (add_line (line.Goal client.entity (goal_id client.place (client.goals + 1)) value) (with_goal_sent client.entity world)) (k.action_clients_known number client world found p) refl refl refl refl
      (line_kept (line.Goal client.entity (goal_id client.place (client.goals + 1)) value) _ ((λ at goal. refl), (refl, refl)) (k.sending_kept client.entity world p))

  send_cancel_keeps : (number : EntityNo) (client : ActionClientEntry) (request : CancelRequest) (world : WorldState) → action_client_at number world ≡ Some client → P world → P (send_cancel client request world)
  send_cancel_keeps number client request world found p =
      k.pushes_kept client.server (item.Cancel request (Some client.entity)) (add_line (line.Cancel client.entity request.id request.stamp) world) (k.action_clients_known number client world found p) refl refl refl refl (line_kept (line.Cancel client.entity request.id request.stamp) world ((λ at goal. refl), (refl, refl)) p)

  cancel_all_keeps : (number : EntityNo) (client : Option ActionClientEntry) (stamp : ℕ) (world : WorldState) → action_client_at number world ≡ client → P world → P (cancel_all_by client stamp world)
  cancel_all_keeps number None stamp world found p = p
  cancel_all_keeps number (Some client) stamp world found p = send_cancel_keeps number client (record { id = 0; stamp = stamp }) world found p

  cancel_goal_keeps : (at : EntityNo) (client : Option ActionClientEntry) (number stamp : ℕ) (world : WorldState) → action_client_at at world ≡ client → P world → P (cancel_goal_by client number stamp world)
  cancel_goal_keeps at None number stamp world found p = p
  cancel_goal_keeps at (Some client) number stamp world found p = send_cancel_keeps at client (record { id = goal_id client.place number; stamp = stamp }) world found p

  execute_keeps : (server : EntityNo) (goal : Option GoalRecord) (world : WorldState) → oldest_accepted server world ≡ goal → P world → P (execute_goal server goal world)
  execute_keeps server None world found p = p
  execute_keeps server (Some goal) world found p = k.execution_kept server goal world found p

  feedback_sent : (client : Option EntityNo) (id : GoalId) (value : ℤ) (world : WorldState) → P world → P (push_any client (item.Feedback id value) world)
  feedback_sent None id value world p = p
  feedback_sent (Some client) id value world p = k.pushes_kept client (item.Feedback id value) world refl refl refl refl refl p

  feedback_keeps : (server : EntityNo) (why : Cause) (value : ℤ) (world : WorldState) → P world → P (give_feedback server why value world)
  feedback_keeps server cause.Due value world p = p
  feedback_keeps server (cause.Took taken) value world p = p
  feedback_keeps server (cause.Woke id goal canceling) value world p = feedback_sent (sender_at server id world) id value _ (line_kept (line.Feedback server id value) world ((λ at goal. refl), (refl, refl)) p)

  -- an effect
  pub give_keeps : (one : Ready) (given : Effect) (world : WorldState) → P world → P (give one given world)
  give_keeps one (effect.Publish topic value) world p = k.publications_kept topic value world p
  give_keeps one (effect.Call client value) world p = call_keeps client (client_at client world) value world refl p
  give_keeps one (effect.SendGoal client value) world p = send_goal_keeps client (action_client_at client world) value world refl p
  give_keeps one (effect.CancelAll client stamp) world p = cancel_all_keeps client (action_client_at client world) stamp world refl p
  give_keeps one (effect.CancelGoal client number stamp) world p = cancel_goal_keeps client (action_client_at client world) number stamp world refl p
  give_keeps one (effect.Execute server) world p = execute_keeps server (oldest_accepted server world) world refl p
  give_keeps one (effect.Log value) world p = line_kept (line.Log one.entity value) world ((λ at goal. refl), (refl, refl)) p
  give_keeps one (effect.Feedback value) world p = feedback_keeps one.entity one.cause value world p

  -- what tells results
  module _ (t : Tells P) where
    pub answer_ask_keeps : (server : EntityNo) (id : GoalId) (client : EntityNo) (asked : Asked) (world : WorldState) → P world → P (answer_ask server id client asked world)
    answer_ask_keeps server id client (told status value) world p = t.results_kept server id status value client world p
    answer_ask_keeps server id client unknown world p = t.results_kept server id _ _ client world p
    answer_ask_keeps server id client later world p = t.notes_kept server id (asked_by client) world (λ one. refl) (λ one. refl) p

    pub tell_end_keeps : (server : EntityNo) (goal : Option GoalRecord) (world : WorldState) → P (state_said server goal world) → P (tell_end server goal world)
    tell_end_keeps server None world p = p
    tell_end_keeps server (Some goal) world p =
        fold_keeps P (λ before client. tell server goal.id (status_of goal.state) goal.result client before)
        (λ before client q. t.results_kept server goal.id (status_of goal.state) goal.result client before q) goal.askers _ p

  -- entries of a feed, where messages keep the property without a line
  module _ (fed : (topic : EntityNo) (value : ℤ) (world : WorldState) → P world → P (publish topic value world)) where
    feed_one_keeps : (one : Fed) (world : WorldState) → P world → P (feed_one one world)
    feed_one_keeps (feeding.Message topic value) world p = fed topic value world p
    feed_one_keeps (feeding.Goal server id value) world p = k.pushes_kept server (item.Goal id None value) world refl refl refl refl refl p
    feed_one_keeps (feeding.Cancel server id stamp) world p = k.pushes_kept server (item.Cancel (record { id = id; stamp = stamp }) None) world refl refl refl refl refl p

    pub feed_keeps : (entries : List Feed) (world : WorldState) → P world → P (feed entries world)
    feed_keeps entries world p = fold_keeps P (λ before entry. feed_one entry.fed before) (λ before entry q. feed_one_keeps entry.fed before q) entries world p
