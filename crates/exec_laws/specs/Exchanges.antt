-- Words for the laws of what is asked for, published and called, and of what comes of it.
use Rattle.std.specs.Prelude.{◌≡◌, ℕ, zero, suc, ◌+◌, ℤ, List, [], ◌∷◌, ◌++◌, length, map, take, Bool, false, ◌&&◌, ◌==◌, if◌then◌else◌, Option, None, Some}
use Rattle.std.specs.List.{filter, find, flat_map}
use Rattle.std.specs.List.Sorted.{IsPermutation}
use Rattle.std.specs.Option.{option_map_or}
use Rattle.exec_goal.specs.State.{is_terminal}
use Rattle.exec_goal.specs.Table.{GoalRecord, has_id}
use Rattle.exec_msg.specs.Numbers.{EntityNo, GoalId}
use Rattle.exec_plan.specs.Feeding.{fed_in}
use Rattle.exec_plan.specs.Plan.{PlanData, Fed}
use Rattle.exec_plan.specs.declared.plan.FedOf.TheVariants as feeding
use Rattle.exec_msg.specs.declared.kind.Kind.{Kind}
use Rattle.exec_msg.specs.declared.kind.Kind.TheVariants as kind
use Rattle.exec_msg.specs.declared.line.Line.{Line}
use Rattle.exec_msg.specs.declared.line.Line.TheVariants as line
use Rattle.exec_rules.specs.Item.{as_value, first_of}
use Rattle.exec_rules.specs.World.{WorldState, ClientEntry, ActionClientEntry, goals_at, is_queue}
use Rattle.exec_rules.specs.declared.item.Item.{Item}
use Rattle.exec_rules.specs.declared.item.Item.TheVariants as item

-- ---- results

-- whether a line says that a server takes an ask for the result of its goal of an identifier
abbrev pub is_ask_taken : EntityNo → GoalId → Line → Bool
is_ask_taken server id (line.Run entity kind.Ask first aux (Some goal)) = (entity == server) && (goal == id)
is_ask_taken server id _ = false

-- whether a line says that it answers one
abbrev pub is_result_told : EntityNo → GoalId → Line → Bool
is_result_told server id (line.Result entity goal status value) = (entity == server) && (goal == id)
is_result_told server id _ = false

-- whether a line says that an action client asks for the result of the goal of an identifier
abbrev pub is_asked : EntityNo → GoalId → Line → Bool
is_asked client id (line.Ask entity goal) = (entity == client) && (goal == id)
is_asked client id _ = false

-- whether a line says that its callback takes one
abbrev pub is_result_taken : EntityNo → GoalId → Line → Bool
is_result_taken client id (line.Run entity kind.Result first aux (Some goal)) = (entity == client) && (goal == id)
is_result_taken client id _ = false

-- whether a line says that its queue of results lost one
abbrev pub is_result_lost : EntityNo → Line → Bool
is_result_lost client (line.Drop entity kind.Result value) = entity == client
is_result_lost client _ = false

-- the clients that wait for the result of a goal, if there is one: those that asked, until it ends
abbrev pub waiting_for : Option GoalRecord → List EntityNo
waiting_for None = []
waiting_for (Some goal) = if is_terminal goal.state then [] else goal.askers

-- the clients that wait for the result of the goal of an identifier
abbrev pub waiting_in : GoalId → List GoalRecord → List EntityNo
waiting_in id goals = waiting_for (find (has_id id) goals)

-- a plan of which so many rounds are run
abbrev pub first_rounds : ℕ → PlanData → PlanData
first_rounds count plan = record plan { moments = take count plan.moments }

-- the items in an entity's queue of a kind
abbrev pub items_of : EntityNo → Kind → WorldState → List Item
items_of entity of world = option_map_or (λ queue. queue.items) (find (is_queue entity of) world.queues) []

-- the identifier of the goal whose result an item brings
abbrev pub result_in : Item → List GoalId
result_in (item.Result id status value) = id ∷ []
result_in _ = []

-- the identifier of the goal for whose result an action client asks by an item
abbrev pub ask_in : EntityNo → Item → List GoalId
ask_in client (item.Ask id asker) = if asker == client then id ∷ [] else []
ask_in client _ = []

-- how often a number stands in a list
abbrev pub times : ℕ → List ℕ → ℕ
times number list = length (filter (λ one. one == number) list)

-- each ask of an action client for a goal's result is answered to it once, or waits: of each identifier, its asks are as many as
-- the results that its callback took, those that its queue lost and those that the queue holds, and as the times that it waits
-- at its server for the goal's end and its asks in the server's queue; and lines say of each result that the queue lost it
pub record IsToldOnce (client : ActionClientEntry) (world : WorldState) : Type 0 where
  pub lost : List GoalId
  pub losses : length lost ≡ length (filter (is_result_lost client.entity) world.lines)
  pub each : (id : GoalId) → length (filter (is_asked client.entity id) world.lines) ≡
      length (filter (is_result_taken client.entity id) world.lines) + times id lost + times id (flat_map result_in (items_of client.entity kind.Result world))
      + times client.entity (waiting_in id (goals_at client.server world)) + times id (flat_map (ask_in client.entity) (items_of client.server kind.Ask world))

-- ---- publications

-- what an entry of the feed publishes to a topic
abbrev pub fed_to : EntityNo → Fed → List ℤ
fed_to topic (feeding.Message at value) = if at == topic then value ∷ [] else []
fed_to topic _ = []

-- what is published to a topic where a line stands: with a round's line all that is fed in the round, and with the line of
-- a publication its value
abbrev pub published_at : PlanData → EntityNo → Line → List ℤ
published_at plan topic (line.Round number moment) = flat_map (λ entry. fed_to topic entry.fed) (fed_in number plan.feed)
published_at plan topic (line.Pub at value) = if at == topic then value ∷ [] else []
published_at plan topic _ = []

-- what a line says that a subscription's callback takes
abbrev pub taken_at : EntityNo → Line → List ℤ
taken_at subscription (line.Run entity kind.Message value aux id) = if entity == subscription then value ∷ [] else []
taken_at subscription _ = []

-- what a line says that its queue loses
abbrev pub dropped_at : EntityNo → Line → List ℤ
dropped_at subscription (line.Drop entity kind.Message value) = if entity == subscription then value ∷ [] else []
dropped_at subscription _ = []

-- what its queue holds
abbrev pub queued_at : EntityNo → WorldState → List ℤ
queued_at subscription world = option_map_or (λ queue. map first_of queue.items) (find (is_queue subscription kind.Message) world.queues) []

-- how a message leaves a queue: a callback takes it, or it is displaced
pub data Leaving : Type 0 where
  taken : ℤ → Leaving
  dropped : ℤ → Leaving

abbrev pub leaving_value : Leaving → ℤ
leaving_value (taken value) = value
leaving_value (dropped value) = value

abbrev pub taken_by : Leaving → List ℤ
taken_by (taken value) = value ∷ []
taken_by (dropped value) = []

abbrev pub dropped_by : Leaving → List ℤ
dropped_by (taken value) = []
dropped_by (dropped value) = value ∷ []

-- the messages that were published to a topic are, in order, those that left a subscription's queue, and then those that
-- it holds; of those that left, lines say in order which its callbacks took, and which were dropped
pub record IsDelivered (plan : PlanData) (topic subscription : EntityNo) (world : WorldState) : Type 0 where
  pub left : List Leaving
  pub in_order : flat_map (published_at plan topic) world.lines ≡ map leaving_value left ++ queued_at subscription world
  pub takings : flat_map (taken_at subscription) world.lines ≡ flat_map taken_by left
  pub losses : flat_map (dropped_at subscription) world.lines ≡ flat_map dropped_by left

-- ---- calls

-- the numbers from 1 up to this one
abbrev pub numbers_to : ℕ → List ℕ
numbers_to zero = []
numbers_to (suc number) = numbers_to number ++ suc number ∷ []

-- the number of the call that a line says that a client makes
abbrev pub call_at : EntityNo → Line → List ℕ
call_at client (line.Call entity number value) = if entity == client then number ∷ [] else []
call_at client _ = []

-- the number, as scripts see it, of the call whose reply a line says that the client's callback takes
abbrev pub reply_at : EntityNo → Line → List ℤ
reply_at client (line.Run entity kind.Reply value aux id) = if entity == client then aux ∷ [] else []
reply_at client _ = []

-- the calls that lines say a client made have the numbers from 1, in order; each has one reply that its callback took, or is
-- pending, and never both
pub record AreAnswered (client : ClientEntry) (lines : List Line) : Type 0 where
  pub answered : List ℕ
  pub made : flat_map (call_at client.entity) lines ≡ numbers_to client.calls
  pub replies : flat_map (reply_at client.entity) lines ≡ map as_value answered
  pub each : IsPermutation (numbers_to client.calls) (answered ++ client.pending)
