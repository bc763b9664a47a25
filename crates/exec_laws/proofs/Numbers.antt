-- The numbers of calls and goals: by how much a run makes them grow at most.
use Rattle.exec_plan.specs.declared.order.Order.TheVariants as order
use Rattle.exec_plan.specs.declared.order.Order.{Order}
use Rattle.std.proofs.Common.{◌≡◌, ℕ, suc, ℤ, ◌^◌, ◌<◌, ◌≤◌, Bool, true, false, if◌then◌else◌, ◌&&◌, List, [], ◌∷◌, length, Option, None, Some, refl, arith}
use Rattle.std.specs.List.{All, AllByRecursion}
use Rattle.std.proofs.lemmas.List.Elements.{All-from_recursion}
use Rattle.exec_goal.specs.Cancel.{moved}
use Rattle.exec_goal.specs.Calls.{end_state}
use Rattle.exec_goal.specs.State.{status_of}
use Rattle.exec_goal.specs.Table.{Asked, GoalRecord, asked_for, later, told, unknown}
use Rattle.exec_goal.specs.declared.state.State.{State}
use Rattle.exec_msg.specs.Numbers.{EntityNo, GoalId, Moment}
use Rattle.exec_plan.specs.Graph.{entities_where, is_action_client, is_client}
use Rattle.exec_plan.specs.Lawful.{IsLawfulPlan}
use Rattle.exec_plan.specs.Plan.{PlanData, Fed}
use Rattle.exec_plan.specs.declared.plan.FedOf.TheVariants as feeding
use Rattle.exec_msg.specs.Lists.{change_first}
use Rattle.exec_msg.specs.declared.goal.Acceptance.{Acceptance}
use Rattle.exec_msg.specs.declared.goal.Event.{Event}
use Rattle.exec_msg.specs.declared.line.Line.TheVariants as line
use Rattle.exec_script.specs.Script.{Variables}
use Rattle.exec_script.specs.declared.effects.Close.{Close}
use Rattle.exec_script.specs.declared.effects.Close.TheVariants as close
use Rattle.exec_script.specs.declared.effects.Effect.{Effect}
use Rattle.exec_script.specs.declared.effects.Effect.TheVariants as effect
use Rattle.exec_task.specs.Task.{TaskState}
use Rattle.exec_laws.proofs.Increase.{RisesByOnes, of_run, run_of_plan}
use Rattle.exec_rules.proofs.Keeping.{fold_keeps}
use Rattle.exec_rules.proofs.Pairs.{all_map, all_weaker}
use Rattle.exec_laws.proofs.Short.{all_changed}
use Rattle.exec_rules.specs.Close.{answer_ask, ask_where, accept_where, close_cause, close_item, close_poll, end_in, goal_at, respond, tell, tell_end, with_ended, pend}
use Rattle.exec_rules.specs.Give.{call_by, cancel_all_by, cancel_goal_by, execute_goal, give, give_feedback, oldest_accepted, publish, send_goal_by, sender_at}
use Rattle.exec_rules.specs.Ready.{answered_by_first, call_answered, reply_taken, take_inputs}
use Rattle.exec_rules.specs.Run.{with_polled, with_variables_for}
use Rattle.exec_rules.specs.Transcript.{feed_one, first_world, new_action_clients, new_client, rounds}
use Rattle.exec_rules.specs.World.{ActionClientEntry, ClientEntry, WorldState, action_client_at, add_line, client_at, goals_at, is_client_at, push, push_any, subscribers_at, with_variables}
use Rattle.exec_rules.specs.declared.item.Item.{Item}
use Rattle.exec_rules.specs.declared.item.Item.TheVariants as item
use Rattle.exec_rules.specs.declared.ready.Cause.{Cause}
use Rattle.exec_rules.specs.declared.ready.Cause.TheVariants as cause
use Rattle.exec_rules.specs.declared.ready.Ready.{Ready}

-- no service client has made more calls than this, and no action client has sent more goals
abbrev HaveMade : ℕ → WorldState → Type 0
HaveMade most world = AllByRecursion (λ entry. entry.calls ≤ most) world.clients × AllByRecursion (λ entry. entry.goals ≤ most) world.action_clients

more_made : (most more : ℕ) (world : WorldState) → most ≤ more → HaveMade most world → HaveMade more world
more_made most more world grows p = (
  all_weaker (λ entry. entry.calls ≤ most) (λ entry. entry.calls ≤ more) (λ entry q. omega (arith, grows, q)) world.clients p.0,
  all_weaker (λ entry. entry.goals ≤ most) (λ entry. entry.goals ≤ more) (λ entry q. omega (arith, grows, q)) world.action_clients p.1,
)

changed_by_one : {A : Type 0} (count : A → ℕ) (test : A → Bool) (change : A → A) (most : ℕ) → ((one : A) → count (change one) ≡ suc (count one)) → (all : List A) → AllByRecursion (λ one. count one ≤ most) all → AllByRecursion (λ one. count one ≤ suc most) (change_first test change all)
changed_by_one count test change most next [] p = tt
changed_by_one {A} count test change most next (one ∷ all) p = by (test one) refl (changed_by_one count test change most next all p.1)
  where
    by : (b : Bool) → test one ≡ b → AllByRecursion (λ one. count one ≤ suc most) (change_first test change all) → AllByRecursion (λ one. count one ≤ suc most) (change_first test change (one ∷ all))
    by true e rest = rw e (omega (arith, next one, p.0), all_weaker (λ one. count one ≤ most) (λ one. count one ≤ suc most) (λ one q. omega (arith, q)) all p.1)
    by false e rest = rw e (omega (arith, p.0), rest)

-- ---- an effect makes one more at most

module _ (most : ℕ) (world : WorldState) (p : HaveMade most world) where
  as_many : HaveMade (suc most) world
  as_many = more_made most (suc most) world (omega arith) p

  published : (topic : EntityNo) (value : ℤ) → HaveMade most (publish topic value world)
  published topic value = fold_keeps (HaveMade most) (λ before subscriber. push subscriber (item.Message value) before) (λ before subscriber q. q) (subscribers_at topic world) world p

  one_called : (client : Option ClientEntry) (value : ℤ) → HaveMade (suc most) (call_by client value world)
  one_called None value = as_many
  one_called (Some client) value =
      (changed_by_one (λ entry. entry.calls) _ _ most (λ entry. omega arith) world.clients p.0, as_many.1)

  one_sent : (client : Option ActionClientEntry) (value : ℤ) → HaveMade (suc most) (send_goal_by client value world)
  one_sent None value = as_many
  one_sent (Some client) value =
      (as_many.0, changed_by_one (λ entry. entry.goals) _ _ most (λ entry. omega arith) world.action_clients p.1)

  all_canceled : (client : Option ActionClientEntry) (stamp : ℕ) → HaveMade (suc most) (cancel_all_by client stamp world)
  all_canceled None stamp = as_many
  all_canceled (Some client) stamp = as_many

  one_canceled : (client : Option ActionClientEntry) (number stamp : ℕ) → HaveMade (suc most) (cancel_goal_by client number stamp world)
  one_canceled None number stamp = as_many
  one_canceled (Some client) number stamp = as_many

  executed : (server : EntityNo) (goal : Option GoalRecord) → HaveMade (suc most) (execute_goal server goal world)
  executed server None = as_many
  executed server (Some goal) = as_many

  given_back : (server : EntityNo) (id : GoalId) (value : ℤ) (client : Option EntityNo) → HaveMade (suc most) (push_any client (item.Feedback id value) (add_line (line.Feedback server id value) world))
  given_back server id value None = as_many
  given_back server id value (Some client) = as_many

  feedback_given : (server : EntityNo) (why : Cause) (value : ℤ) → HaveMade (suc most) (give_feedback server why value world)
  feedback_given server cause.Due value = as_many
  feedback_given server (cause.Took taken) value = as_many
  feedback_given server (cause.Woke id goal canceling) value = given_back server id value (sender_at server id world)

given : (most : ℕ) (one : Ready) (does : Effect) (world : WorldState) → HaveMade most world → HaveMade (suc most) (give one does world)
given most one (effect.Publish topic value) world p = more_made most (suc most) (publish topic value (add_line (line.Pub topic value) world)) (omega arith) (published most (add_line (line.Pub topic value) world) p topic value)
given most one (effect.Call client value) world p = one_called most world p (client_at client world) value
given most one (effect.SendGoal client value) world p = one_sent most world p (action_client_at client world) value
given most one (effect.CancelAll client stamp) world p = all_canceled most world p (action_client_at client world) stamp
given most one (effect.CancelGoal client number stamp) world p = one_canceled most world p (action_client_at client world) number stamp
given most one (effect.Execute server) world p = executed most world p server (oldest_accepted server world)
given most one (effect.Log value) world p = as_many most world p
given most one (effect.Feedback value) world p = feedback_given most world p one.entity one.cause value

-- ---- what closes a callback makes none

module _ (most : ℕ) where
  pushed : (client : Option EntityNo) (new : Item) (world : WorldState) → HaveMade most world → HaveMade most (push_any client new world)
  pushed None new world p = p
  pushed (Some client) new world p = p

  accepted : (wanted : Option Acceptance) (server : EntityNo) (moment : Moment) (request : _) (world : WorldState) → HaveMade most world → HaveMade most (accept_where wanted server moment request world)
  accepted None server moment request world p = p
  accepted (Some how) server moment request world p = p

  asked : (b : Bool) (client : ActionClientEntry) (id : GoalId) (world : WorldState) → HaveMade most world → HaveMade most (ask_where b client id world)
  asked true client id world p = p
  asked false client id world p = p

  responded : (client : Option ActionClientEntry) (id : GoalId) (accepted : Bool) (world : WorldState) → HaveMade most world → HaveMade most (respond client id accepted world)
  responded None id accepted world p = p
  responded (Some client) id accepted world p = asked (accepted && client.asks) client id world p

  answered : (server : EntityNo) (id : GoalId) (client : EntityNo) (found : Asked) (world : WorldState) → HaveMade most world → HaveMade most (answer_ask server id client found world)
  answered server id client (told status value) world p = p
  answered server id client unknown world p = p
  answered server id client later world p = p

  all_told : (server : EntityNo) (goal : Option GoalRecord) (world : WorldState) → HaveMade most world → HaveMade most (tell_end server goal world)
  all_told server None world p = p
  all_told server (Some goal) world p =
      fold_keeps (HaveMade most) (λ before client. tell server goal.id (status_of goal.state) goal.result client before) (λ before client q. q) goal.askers (add_line (line.State server goal.id (status_of goal.state)) world) p

  item_closed : (entity : EntityNo) (moment : Moment) (taken : Item) (closing : Close) (world : WorldState) → HaveMade most world → HaveMade most (close_item entity moment taken closing world)
  item_closed entity moment (item.Request client number value) closing world p = p
  item_closed entity moment (item.Goal id client value) closing world p = pushed client _ _ (accepted _ entity moment (record { id = id; client = client; value = value }) _ p)
  item_closed entity moment (item.Cancel request client) closing world p = pushed client _ _ p
  item_closed entity moment (item.Ask id client) closing world p = answered entity id client (asked_for id (goals_at entity world)) world p
  item_closed entity moment (item.Response id accepted) closing world p = responded (action_client_at entity world) id accepted world p
  item_closed entity moment (item.Message value) closing world p = p
  item_closed entity moment (item.Reply number value) closing world p = p
  item_closed entity moment (item.Code returned moved) closing world p = p
  item_closed entity moment (item.Feedback id value) closing world p = p
  item_closed entity moment (item.Result id status value) closing world p = p

  ended_in : (reached : Option State) (server : EntityNo) (id : GoalId) (by : Event) (value : ℤ) (moment : Moment) (world : WorldState) → HaveMade most world → HaveMade most (end_in reached server id by value moment world)
  ended_in None server id by value moment world p = p
  ended_in (Some reached) server id by value moment world p = all_told server (goal_at server id (with_ended server id by value moment world)) (with_ended server id by value moment world) p

  pended : (under : Order) (server : EntityNo) (id : GoalId) (world : WorldState) → HaveMade most world → HaveMade most (pend under server id world)
  pended order.Kind server id world p = p
  pended order.Arrival server id world p = p

  poll_closed : (server : EntityNo) (id : GoalId) (moment : Moment) (closing : Close) (world : WorldState) → HaveMade most world → HaveMade most (close_poll server id moment closing world)
  poll_closed server id moment (close.Ended by value) world p = ended_in (end_state id by (goals_at server world)) server id by value moment world p
  poll_closed server id moment close.Nothing world p = p
  poll_closed server id moment (close.Reply reply) world p = p
  poll_closed server id moment (close.Decide decision) world p = p
  poll_closed server id moment (close.DecideCancel decision) world p = p
  poll_closed server id moment (close.Decisions decisions) world p = p
  poll_closed server id moment close.Pending world p = pended world.order server id world p

  closed : (entity : EntityNo) (moment : Moment) (why : Cause) (closing : Close) (world : WorldState) → HaveMade most world → HaveMade most (close_cause entity moment why closing world)
  closed entity moment cause.Due closing world p = p
  closed entity moment (cause.Took taken) closing world p = item_closed entity moment taken closing world p
  closed entity moment (cause.Woke id value canceling) closing world p = poll_closed entity id moment closing world p

  brought : (server : EntityNo) (why : Cause) (task : Option TaskState) (world : WorldState) → HaveMade most world → HaveMade most (with_polled server why task world)
  brought server cause.Due task world p = p
  brought server (cause.Took taken) task world p = p
  brought server (cause.Woke id value canceling) None world p = p
  brought server (cause.Woke id value canceling) (Some task) world p = p

  left_so : (one : Ready) (variables : Variables) (world : WorldState) → HaveMade most world → HaveMade most (with_variables_for one variables world)
  left_so one variables world p = by one.exclusive
    where
      by : (b : Bool) → HaveMade most (if b then with_variables one.group variables world else world)
      by true = p
      by false = p

fed_one : (most : ℕ) (one : Fed) (world : WorldState) → HaveMade most world → HaveMade most (feed_one one world)
fed_one most (feeding.Message topic value) world p = published most world p topic value
fed_one most (feeding.Goal server id value) world p = p
fed_one most (feeding.Cancel server id stamp) world p = p

reply_answered : (most : ℕ) (entity : EntityNo) (items : List Item) (clients : List ClientEntry) → AllByRecursion (λ entry. entry.calls ≤ most) clients → AllByRecursion (λ entry. entry.calls ≤ most) (answered_by_first entity items clients)
reply_answered most entity [] clients p = p
reply_answered most entity (item.Message value ∷ items) clients p = p
reply_answered most entity (item.Request client number value ∷ items) clients p = p
reply_answered most entity (item.Reply number value ∷ items) clients p = all_changed (λ (entry : ClientEntry). entry.calls ≤ most) (is_client_at entity) (call_answered number) (λ entry q. q) clients p
reply_answered most entity (item.Goal id client value ∷ items) clients p = p
reply_answered most entity (item.Cancel request client ∷ items) clients p = p
reply_answered most entity (item.Ask id client ∷ items) clients p = p
reply_answered most entity (item.Response id accepted ∷ items) clients p = p
reply_answered most entity (item.Code returned moved ∷ items) clients p = p
reply_answered most entity (item.Feedback id value ∷ items) clients p = p
reply_answered most entity (item.Result id status value ∷ items) clients p = p

inputs_taken : (most : ℕ) (moment : Moment) (world : WorldState) → HaveMade most world → HaveMade most (take_inputs moment world)
inputs_taken most moment world p =
    (fold_keeps (λ (clients : List ClientEntry). AllByRecursion (λ entry. entry.calls ≤ most) clients) reply_taken (λ clients queue q. reply_answered most queue.handler.entity queue.items clients q) world.queues world.clients p.0, p.1)

numbers_rise : RisesByOnes HaveMade
numbers_rise = record {
  weaker = more_made;
  given = given;
  closed = λ most entity moment why closing world p. as_many most (close_cause entity moment why closing world) (closed most entity moment why closing world p);
  fed = λ most one world p. as_many most (feed_one one world) (fed_one most one world p);
  said = λ most new world p. p;
  polled = brought;
  left = left_so;
  expired = λ most moment world p. p;
  taken = inputs_taken;
}

-- ---- a run

first_made : (plan : PlanData) → HaveMade 0 (first_world plan)
first_made plan = (all_map (λ entry. entry.calls ≤ 0) (new_client plan.graph) (λ number. omega arith) (entities_where is_client plan.graph), unsent 0 (entities_where is_action_client plan.graph))
  where
    unsent : (place : ℕ) (numbers : List EntityNo) → AllByRecursion (λ entry. entry.goals ≤ 0) (new_action_clients plan.graph place numbers)
    unsent place [] = tt
    unsent place (number ∷ numbers) = (omega arith, unsent (suc place) numbers)

few_made : (plan : PlanData) (number : ℕ) (moments : List Moment) → IsLawfulPlan plan → length moments ≤ 65536 → HaveMade of_run (rounds plan number moments (first_world plan))
few_made plan number moments lawful few = run_of_plan numbers_rise plan number moments lawful few (first_made plan)

pub few_calls : (plan : PlanData) (number : ℕ) (moments : List Moment) → IsLawfulPlan plan → length moments ≤ 65536 → All (λ entry. entry.calls < 2 ^ 60) (rounds plan number moments (first_world plan)).clients
few_calls plan number moments lawful few =
    All-from_recursion (λ (entry : ClientEntry). entry.calls < 2 ^ 60) _ (all_weaker (λ (entry : ClientEntry). entry.calls ≤ of_run) (λ entry. entry.calls < 2 ^ 60) (λ entry q. omega (arith, q)) _ (few_made plan number moments lawful few).0)

pub few_goals_sent : (plan : PlanData) (number : ℕ) (moments : List Moment) → IsLawfulPlan plan → length moments ≤ 65536 → All (λ entry. entry.goals < 2 ^ 60) (rounds plan number moments (first_world plan)).action_clients
few_goals_sent plan number moments lawful few =
    All-from_recursion (λ (entry : ActionClientEntry). entry.goals < 2 ^ 60) _ (all_weaker (λ (entry : ActionClientEntry). entry.goals ≤ of_run) (λ entry. entry.goals < 2 ^ 60) (λ entry q. omega (arith, q)) _ (few_made plan number moments lawful few).1)
