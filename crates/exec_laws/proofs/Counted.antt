-- The number of the last arrival: by how much a run raises it at most. A client that asks for a result takes a number when it is
-- told, so that those who wait for results are counted with the arrivals.
use Rattle.std.proofs.Common.{◌≡◌, ℕ, suc, ℤ, ◌+◌, ◌*◌, ◌^◌, ◌<◌, ◌≤◌, Bool, true, false, if◌then◌else◌, ◌&&◌, ◌==◌, map, List, [], ◌∷◌, length, Option, None, Some, refl, arith}
use Rattle.std.specs.List.{AllByRecursion, find, fold}
use Rattle.std.specs.Option.{option_map_or}
use Rattle.exec_goal.specs.Calls.{askers_of, end_state}
use Rattle.exec_goal.specs.Cancel.{Decided, table_after}
use Rattle.exec_goal.specs.State.{after, status_of}
use Rattle.exec_goal.specs.Table.{Asked, GoalRecord, after_event, asked_by, asked_for, has_id, later, told, unknown}
use Rattle.exec_goal.specs.declared.state.State.{State}
use Rattle.exec_msg.specs.Lists.{change_first}
use Rattle.exec_msg.specs.Numbers.{EntityNo, GoalId, Moment}
use Rattle.exec_msg.specs.declared.goal.Acceptance.{Acceptance}
use Rattle.exec_msg.specs.declared.goal.Event.{Event}
use Rattle.exec_msg.specs.declared.goal.Event.TheVariants as event
use Rattle.exec_msg.specs.declared.goal.GoalStatus.{GoalStatus}
use Rattle.exec_msg.specs.declared.line.Line.TheVariants as line
use Rattle.exec_plan.specs.Graph.{entities_where, is_server, is_topic, of_entity}
use Rattle.exec_plan.specs.Lawful.{IsLawful, IsLawfulPlan}
use Rattle.exec_plan.specs.Plan.{Fed, PlanData}
use Rattle.exec_plan.specs.declared.order.Order.{Order}
use Rattle.exec_plan.specs.declared.order.Order.TheVariants as order
use Rattle.exec_plan.specs.declared.plan.FedOf.TheVariants as feeding
use Rattle.exec_script.specs.Script.{Variables}
use Rattle.exec_script.specs.declared.effects.Close.{Close}
use Rattle.exec_script.specs.declared.effects.Close.TheVariants as close
use Rattle.exec_script.specs.declared.effects.Effect.{Effect}
use Rattle.exec_script.specs.declared.effects.Effect.TheVariants as effect
use Rattle.exec_task.specs.Task.{TaskState}
use Rattle.exec_laws.proofs.Costs.{few_entities, numbers_few}
use Rattle.exec_laws.proofs.Increase.{RisesByOnes, run_of_plan}
use Rattle.exec_laws.proofs.Waiting.{accepted_none, all_left, answered_less, asked_more, goals_changed, server_ended, servers_changed, waiting_at, waiting_for_all, waits_moved}
use Rattle.exec_rules.proofs.Pairs.{all_map}
use Rattle.exec_rules.specs.Close.{GoalRequest, accept_where, answer_ask, ask_where, cancel, close_cause, close_item, close_poll, end_in, goal_at, pend, respond, tell, tell_end, with_ended}
use Rattle.exec_rules.specs.Give.{call_by, cancel_all_by, cancel_goal_by, execute_goal, give, give_feedback, oldest_accepted, publish, send_goal_by, sender_at}
use Rattle.exec_rules.specs.Run.{with_polled, with_variables_for}
use Rattle.exec_rules.specs.Transcript.{feed_one, first_world, new_server, new_topic, rounds, subscribes_to}
use Rattle.exec_rules.specs.World.{ActionClientEntry, ClientEntry, TopicEntry, WorldState, action_client_at, add_line, change_goals, client_at, goals_at, is_server_at, next_in, push, push_any, subscribers_at, with_variables}
use Rattle.exec_rules.specs.declared.item.Item.{Item}
use Rattle.exec_rules.specs.declared.item.Item.TheVariants as item
use Rattle.exec_rules.specs.declared.ready.Cause.{Cause}
use Rattle.exec_rules.specs.declared.ready.Cause.TheVariants as cause
use Rattle.exec_rules.specs.declared.ready.Ready.{Ready}
use Rattle.exec_rules.proofs.Records.{ids}
use Rattle.exec_rules.proofs.Identifiers.{changing, tasking, accepting, goal_arriving}
use Rattle.exec_rules.proofs.Keeping.{ids_changed, ids_answered}

-- ---- the count of a world

-- no topic has more subscriptions than a graph has entities
abbrev IsSubscribedFewTimes : TopicEntry → Type 0
IsSubscribedFewTimes entry = length entry.subscribers ≤ 768

-- as many have arrived, or are waited for, at most
abbrev IsCounted : ℕ → WorldState → Type 0
IsCounted most world = AllByRecursion IsSubscribedFewTimes world.topics × (world.arrivals + waiting_at world.servers ≤ most)

counted_more : (most more : ℕ) (world : WorldState) → most ≤ more → IsCounted most world → IsCounted more world
counted_more most more world grows p = (p.0, omega (arith, grows, p.1))

next_low : (under : Order) (last : ℕ) → next_in under last ≤ suc last
next_low order.Kind last = omega arith
next_low order.Arrival last = omega arith

few_subscribers : (topic : EntityNo) (topics : List TopicEntry) → AllByRecursion IsSubscribedFewTimes topics → length (option_map_or (λ entry. entry.subscribers) (find (λ entry. entry.entity == topic) topics) []) ≤ 768
few_subscribers topic [] p = omega arith
few_subscribers topic (entry ∷ topics) p = by (entry.entity == topic) refl (few_subscribers topic topics p.1)
  where
    by : (b : Bool) → (entry.entity == topic) ≡ b → length (option_map_or (λ entry. entry.subscribers) (find (λ entry. entry.entity == topic) topics) []) ≤ 768 → length (option_map_or (λ entry. entry.subscribers) (find (λ entry. entry.entity == topic) (entry ∷ topics)) []) ≤ 768
    by true e rest = rw e p.0
    by false e rest = rw e rest

module _ (most : ℕ) where
  sent_one : (entity : EntityNo) (new : Item) (world : WorldState) → IsCounted most world → IsCounted (suc most) (push entity new world)
  sent_one entity new world p = (p.0, omega (arith, p.1, next_low world.order world.arrivals))

  sent_any : (client : Option EntityNo) (new : Item) (world : WorldState) → IsCounted most world → IsCounted (suc most) (push_any client new world)
  sent_any None new world p = counted_more most (suc most) world (omega arith) p
  sent_any (Some client) new world p = sent_one client new world p

  -- goals that change so that no more wait for results than this
  goals_kept : (server : EntityNo) (change : List GoalRecord → List GoalRecord) (more : ℕ) (world : WorldState) → ((goals : List GoalRecord) → ids (change goals) ≡ ids goals) → ((goals : List GoalRecord) → waiting_for_all (change goals) ≤ waiting_for_all goals + more) → IsCounted most world → IsCounted (most + more) (change_goals server change world)
  goals_kept server change more world same few p =
      (p.0, omega (arith, p.1, servers_changed (changing change same) (is_server_at server) more few world.servers))

published : (most more : ℕ) (value : ℤ) (subscribers : List EntityNo) (world : WorldState) → most + length subscribers ≤ more → IsCounted most world → IsCounted more (fold (λ before subscriber. push subscriber (item.Message value) before) world subscribers)
published most more value [] world grows p = counted_more most more world (omega (arith, grows)) p
published most more value (subscriber ∷ subscribers) world grows p =
    published (suc most) more value subscribers (push subscriber (item.Message value) world) (omega (arith, grows)) (sent_one most subscriber (item.Message value) world p)

all_told : (most : ℕ) (server : EntityNo) (id : GoalId) (status : GoalStatus) (value : ℤ) (askers : List EntityNo) (world : WorldState) → IsCounted most world → IsCounted (most + length askers) (fold (λ before client. tell server id status value client before) world askers)
all_told most server id status value [] world p = counted_more most (most + 0) world (omega arith) p
all_told most server id status value (asker ∷ askers) world p =
    let after : WorldState = tell server id status value asker world in
    counted_more (suc most + length askers) (most + suc (length askers)) (fold (λ before client. tell server id status value client before) after askers) (omega arith)
    (all_told (suc most) server id status value askers after (sent_one most asker (item.Result id status value) (add_line (line.Result server id status value) world) p))

-- ---- an effect counts 768 more at most

module _ (most : ℕ) (world : WorldState) (p : IsCounted most world) where
  as_many : IsCounted (most + 768) world
  as_many = counted_more most (most + 768) world (omega arith) p

  -- what is sent once
  once : (after : WorldState) → IsCounted (suc most) after → IsCounted (most + 768) after
  once after q = counted_more (suc most) (most + 768) after (omega arith) q

  all_published : (topic : EntityNo) (value : ℤ) → IsCounted (most + 768) (publish topic value world)
  all_published topic value = published most (most + 768) value (subscribers_at topic world) world (omega (arith, few_subscribers topic world.topics p.0)) p

  one_called : (client : Option ClientEntry) (value : ℤ) → IsCounted (most + 768) (call_by client value world)
  one_called None value = as_many
  one_called (Some client) value = (p.0, omega (arith, p.1, next_low world.order world.arrivals))

  one_sent : (client : Option ActionClientEntry) (value : ℤ) → IsCounted (most + 768) (send_goal_by client value world)
  one_sent None value = as_many
  one_sent (Some client) value = (p.0, omega (arith, p.1, next_low world.order world.arrivals))

  all_canceled : (client : Option ActionClientEntry) (stamp : ℕ) → IsCounted (most + 768) (cancel_all_by client stamp world)
  all_canceled None stamp = as_many
  all_canceled (Some client) stamp = (p.0, omega (arith, p.1, next_low world.order world.arrivals))

  one_canceled : (client : Option ActionClientEntry) (number stamp : ℕ) → IsCounted (most + 768) (cancel_goal_by client number stamp world)
  one_canceled None number stamp = as_many
  one_canceled (Some client) number stamp = (p.0, omega (arith, p.1, next_low world.order world.arrivals))

  executed : (server : EntityNo) (goal : Option GoalRecord) → IsCounted (most + 768) (execute_goal server goal world)
  executed server None = as_many
  executed server (Some goal) =
      counted_more (most + 0) (most + 768) (execute_goal server (Some goal) world) (omega arith)
      (goals_kept most server (change_first (has_id goal.id) (after_event event.Execute)) 0 world (ids_changed goal.id (after_event event.Execute) (λ one. refl))
      (goals_changed (has_id goal.id) (after_event event.Execute) 0 (λ one. omega (arith, waits_moved event.Execute one.state (length one.askers)))) p)

  feedback_given : (server : EntityNo) (why : Cause) (value : ℤ) → IsCounted (most + 768) (give_feedback server why value world)
  feedback_given server cause.Due value = as_many
  feedback_given server (cause.Took taken) value = as_many
  feedback_given server (cause.Woke id goal canceling) value =
      let said : WorldState = add_line (line.Feedback server id value) world in
      once (push_any (sender_at server id world) (item.Feedback id value) said) (sent_any most (sender_at server id world) (item.Feedback id value) said p)

  given : (one : Ready) (does : Effect) → IsCounted (most + 768) (give one does world)
  given one (effect.Publish topic value) = published most (most + 768) value (subscribers_at topic world) (add_line (line.Pub topic value) world) (omega (arith, few_subscribers topic world.topics p.0)) p
  given one (effect.Call client value) = one_called (client_at client world) value
  given one (effect.SendGoal client value) = one_sent (action_client_at client world) value
  given one (effect.CancelAll client stamp) = all_canceled (action_client_at client world) stamp
  given one (effect.CancelGoal client number stamp) = one_canceled (action_client_at client world) number stamp
  given one (effect.Execute server) = executed server (oldest_accepted server world)
  given one (effect.Log value) = as_many
  given one (effect.Feedback value) = feedback_given one.entity one.cause value

  -- ---- and so does what closes a callback

  accepted : (wanted : Option Acceptance) (server : EntityNo) (moment : Moment) (request : GoalRequest) → IsCounted (suc most) (accept_where wanted server moment request world)
  accepted None server moment request = counted_more most (suc most) world (omega arith) p
  accepted (Some how) server moment request =
      (p.0, omega (arith, p.1, next_low world.order world.arrivals, servers_changed (accepting (next_in world.order world.arrivals) moment how request) (is_server_at server) 0 (λ some. omega (arith, accepted_none some request.id request.value moment how)) world.servers))

  asked : (b : Bool) (client : ActionClientEntry) (id : GoalId) → IsCounted (most + 768) (ask_where b client id world)
  asked true client id = (p.0, omega (arith, p.1, next_low world.order world.arrivals))
  asked false client id = as_many

  responded : (client : Option ActionClientEntry) (id : GoalId) (accepts : Bool) → IsCounted (most + 768) (respond client id accepts world)
  responded None id accepts = as_many
  responded (Some client) id accepts = asked (accepts && client.asks) client id

  answered : (server : EntityNo) (id : GoalId) (client : EntityNo) (found : Asked) → IsCounted (most + 768) (answer_ask server id client found world)
  answered server id client (told status value) = (p.0, omega (arith, p.1, next_low world.order world.arrivals))
  answered server id client unknown = (p.0, omega (arith, p.1, next_low world.order world.arrivals))
  answered server id client later =
      counted_more (most + 1) (most + 768) (answer_ask server id client later world) (omega arith)
      (goals_kept most server (change_first (has_id id) (asked_by client)) 1 world (ids_changed id (asked_by client) (λ goal. refl)) (goals_changed (has_id id) (asked_by client) 1 (asked_more client)) p)

  pended : (under : Order) (server : EntityNo) (id : GoalId) → IsCounted (most + 768) (pend under server id world)
  pended order.Kind server id = as_many
  pended order.Arrival server id =
      (p.0, omega (arith, p.1, next_low world.order world.arrivals, servers_changed (goal_arriving id (next_in world.order world.arrivals)) (is_server_at server) 0 (λ some. omega arith) world.servers))

  canceled_by : (server : EntityNo) (request : _) (client : Option EntityNo) (decisions : List Decided) → IsCounted (most + 768) (cancel server request client decisions world)
  canceled_by server request client decisions =
      once (cancel server request client decisions world)
      (sent_any most client _ _ (counted_more (most + 0) most (change_goals server (table_after decisions) world) (omega arith) (goals_kept most server (table_after decisions) 0 world (ids_answered decisions) (λ goals. omega (arith, answered_less decisions goals)) p)))

end_told : (most : ℕ) (server : EntityNo) (goal : Option GoalRecord) (world : WorldState) → IsCounted most world → IsCounted (most + length (askers_of goal)) (tell_end server goal world)
end_told most server None world p = counted_more most (most + 0) world (omega arith) p
end_told most server (Some goal) world p = all_told most server goal.id (status_of goal.state) goal.result goal.askers (add_line (line.State server goal.id (status_of goal.state)) world) p

-- those that are told were counted when they asked
ended_in : (most : ℕ) (found : Option State) (server : EntityNo) (id : GoalId) (by : Event) (value : ℤ) (moment : Moment) (world : WorldState) → end_state id by (goals_at server world) ≡ found → IsCounted most world → IsCounted most (end_in found server id by value moment world)
ended_in most None server id by value moment world leads p = p
ended_in most (Some reached) server id by value moment world leads p =
    let after : WorldState = with_ended server id by value moment world in
    let many : ℕ = length (askers_of (goal_at server id after)) in
    let fewer = server_ended server id by value moment reached world.servers leads in
    let before : IsCounted (after.arrivals + waiting_at after.servers) after = (p.0, omega arith) in
    counted_more (after.arrivals + waiting_at after.servers + many) most (tell_end server (goal_at server id after) after) (omega (arith, p.1, fewer))
    (end_told (after.arrivals + waiting_at after.servers) server (goal_at server id after) after before)

module _ (most : ℕ) (world : WorldState) (p : IsCounted most world) where
  item_closed : (entity : EntityNo) (moment : Moment) (taken : Item) (closing : Close) → IsCounted (most + 768) (close_item entity moment taken closing world)
  item_closed entity moment (item.Request client number value) closing = (p.0, omega (arith, p.1, next_low world.order world.arrivals))
  item_closed entity moment (item.Goal id client value) closing =
      counted_more (suc (suc most)) (most + 768) (close_item entity moment (item.Goal id client value) closing world) (omega arith)
      (sent_any (suc most) client _ _ (accepted most _ p _ entity moment (record { id = id; client = client; value = value })))
  item_closed entity moment (item.Cancel request client) closing = canceled_by most world p entity request client _
  item_closed entity moment (item.Ask id client) closing = answered most world p entity id client (asked_for id (goals_at entity world))
  item_closed entity moment (item.Response id accepts) closing = responded most world p (action_client_at entity world) id accepts
  item_closed entity moment (item.Message value) closing = as_many most world p
  item_closed entity moment (item.Reply number value) closing = as_many most world p
  item_closed entity moment (item.Code returned moved) closing = as_many most world p
  item_closed entity moment (item.Feedback id value) closing = as_many most world p
  item_closed entity moment (item.Result id status value) closing = as_many most world p

  poll_closed : (server : EntityNo) (id : GoalId) (moment : Moment) (closing : Close) → IsCounted (most + 768) (close_poll server id moment closing world)
  poll_closed server id moment (close.Ended by value) =
      counted_more most (most + 768) (close_poll server id moment (close.Ended by value) world) (omega arith) (ended_in most (end_state id by (goals_at server world)) server id by value moment world refl p)
  poll_closed server id moment close.Nothing = as_many most world p
  poll_closed server id moment (close.Reply reply) = as_many most world p
  poll_closed server id moment (close.Decide decision) = as_many most world p
  poll_closed server id moment (close.DecideCancel decision) = as_many most world p
  poll_closed server id moment (close.Decisions decisions) = as_many most world p
  poll_closed server id moment close.Pending = pended most world p world.order server id

  closed : (entity : EntityNo) (moment : Moment) (why : Cause) (closing : Close) → IsCounted (most + 768) (close_cause entity moment why closing world)
  closed entity moment cause.Due closing = as_many most world p
  closed entity moment (cause.Took taken) closing = item_closed entity moment taken closing
  closed entity moment (cause.Woke id value canceling) closing = poll_closed entity id moment closing

  fed_one : (one : Fed) → IsCounted (most + 768) (feed_one one world)
  fed_one (feeding.Message topic value) = all_published most world p topic value
  fed_one (feeding.Goal server id value) = (p.0, omega (arith, p.1, next_low world.order world.arrivals))
  fed_one (feeding.Cancel server id stamp) = (p.0, omega (arith, p.1, next_low world.order world.arrivals))

  polled_so : (server : EntityNo) (why : Cause) (task : Option TaskState) → IsCounted most (with_polled server why task world)
  polled_so server cause.Due task = p
  polled_so server (cause.Took taken) task = p
  polled_so server (cause.Woke id value canceling) None = p
  polled_so server (cause.Woke id value canceling) (Some task) =
      (p.0, omega (arith, p.1, servers_changed (tasking id task) (is_server_at server) 0 (λ some. omega arith) world.servers))

  left_so : (one : Ready) (variables : Variables) → IsCounted most (with_variables_for one variables world)
  left_so one variables = by one.exclusive
    where
      by : (b : Bool) → IsCounted most (if b then with_variables one.group variables world else world)
      by true = p
      by false = p

-- ---- a run

-- the same in portions of 768
abbrev IsCountedBy : ℕ → WorldState → Type 0
IsCountedBy most world = IsCounted (most * 768) world

one_more : (most : ℕ) (world : WorldState) → IsCounted (most * 768 + 768) world → IsCountedBy (suc most) world
one_more most world p = counted_more (most * 768 + 768) (suc most * 768) world (omega arith) p

count_rises : RisesByOnes IsCountedBy
count_rises = record {
  weaker = λ most more world grows p. counted_more (most * 768) (more * 768) world (omega (arith, grows)) p;
  given = λ most one does world p. one_more most (give one does world) (given (most * 768) world p one does);
  closed = λ most entity moment why closing world p. one_more most (close_cause entity moment why closing world) (closed (most * 768) world p entity moment why closing);
  fed = λ most one world p. one_more most (feed_one one world) (fed_one (most * 768) world p one);
  said = λ most new world p. p;
  polled = λ most server why task world p. polled_so (most * 768) world p server why task;
  left = λ most one variables world p. left_so (most * 768) world p one variables;
  expired = λ most moment world p. (p.0, omega (arith, p.1, all_left moment world.servers));
  taken = λ most moment world p. p;
}

first_counted : (plan : PlanData) → IsLawful plan.graph → IsCountedBy 0 (first_world plan)
first_counted plan lawful = (
  all_map IsSubscribedFewTimes (new_topic plan.graph) (λ topic. omega (arith, few_entities plan.graph lawful, numbers_few (of_entity false (subscribes_to topic)) 0 plan.graph.entities)) (entities_where is_topic plan.graph),
  omega (arith, none (entities_where is_server plan.graph)),
)
  where
    none : (numbers : List EntityNo) → waiting_at (map (new_server plan.graph) numbers) ≡ 0
    none [] = refl
    none (number ∷ numbers) = omega (arith, none numbers)

pub few_arrivals : (plan : PlanData) (number : ℕ) (moments : List Moment) → IsLawfulPlan plan → length moments ≤ 65536 → (rounds plan number moments (first_world plan)).arrivals < 2 ^ 60
few_arrivals plan number moments lawful few =
    let count = run_of_plan count_rises plan number moments lawful few (first_counted plan lawful.graph) in
    omega (arith, count.1)
