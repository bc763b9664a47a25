-- Rounds change no shape.
use Rattle.std.proofs.Common.{◌≡◌, ℕ, Bool, true, false, List, [], ◌∷◌, length, map, drop, Option, None, Some, refl, ap, ◌∙◌}
use Rattle.std.proofs.lemmas.List.{length-set}
use Rattle.std.specs.List.{fold}
use Rattle.std.specs.Option.{option_map}
use Rattle.exec_msg.specs.KeepLast.{sent}
use Rattle.exec_msg.specs.Numbers.{EntityNo, Moment}
use Rattle.exec_plan.specs.Plan.{PlanData}
use Rattle.exec_msg.specs.Timer.{is_due}
use Rattle.exec_msg.specs.Lists.{change_first}
use Rattle.exec_rules.proofs.Running.{KeptByRounds, rounds_keep}
use Rattle.exec_rules.specs.Close.{accept, goal_arrived}
use Rattle.exec_rules.specs.Shape.{timer_shape, numbers_shape, queue_shape, server_shape, client_shape, action_client_shape, shape_of}
use Rattle.exec_rules.specs.Ready.{timer_taken, queue_taken, call_answered, answered_by_first, reply_taken, take_inputs}
use Rattle.exec_rules.specs.Transcript.{expire, rounds}
use Rattle.exec_rules.specs.World.{WorldState, TimerEntry, Queue, ClientEntry, next_arrival, queued, change_goals, with_task, is_client_at, with_call, with_goal_sent, with_variables}
use Rattle.exec_rules.specs.declared.item.Item.{Item}
use Rattle.exec_rules.specs.declared.item.Item.TheVariants as item

-- a change that leaves a part leaves it in a list
pub part_changed : {A B : Type 0} (part : A → B) (test : A → Bool) (change : A → A) → ((one : A) → part (change one) ≡ part one) → (all : List A) → map part (change_first test change all) ≡ map part all
part_changed part test change same [] = refl
part_changed {A} {B} part test change same (one ∷ all) = by (test one) refl (part_changed part test change same all)
  where
    by : (b : Bool) → test one ≡ b → map part (change_first test change all) ≡ map part all → map part (change_first test change (one ∷ all)) ≡ map part (one ∷ all)
    by true e rest = rw e (ap (λ (first : B). first ∷ map part all) (same one))
    by false e rest = rw e (ap (λ (others : List B). part one ∷ others) rest)

pub part_mapped : {A B : Type 0} (part : A → B) (change : A → A) → ((one : A) → part (change one) ≡ part one) → (all : List A) → map part (map change all) ≡ map part all
part_mapped part change same [] = refl
part_mapped {A} {B} part change same (one ∷ all) =
    ap (λ (first : B). first ∷ map part (map change all)) (same one) ∙ ap (λ (others : List B). part one ∷ others) (part_mapped part change same all)

-- a queue whose numbers are changed, or the lack of which stays, has its shape
numbers_same : (numbers : Option (List ℕ)) (change : List ℕ → List ℕ) → numbers_shape (option_map change numbers) ≡ numbers_shape numbers
numbers_same None change = refl
numbers_same (Some numbers) change = refl

queue_same : (queue : Queue) (items : List Item) (change : List ℕ → List ℕ) → queue_shape (record queue { items = items; arrivals = option_map change queue.arrivals }) ≡ queue_shape queue
queue_same queue items change = ap (λ (numbers : Option (List ℕ)). record queue { items = []; arrivals = numbers }) (numbers_same queue.arrivals change)

timer_same : (moment : Moment) (entry : TimerEntry) → timer_shape (timer_taken moment entry) ≡ timer_shape entry
timer_same moment entry = by (is_due entry.timer moment) refl
  where
    by : (b : Bool) → is_due entry.timer moment ≡ b → timer_shape (timer_taken moment entry) ≡ timer_shape entry
    by true e = rw e refl
    by false e = rw e refl

-- what a queue hands on keeps the shape of service clients
answered_shape : (entity : EntityNo) (items : List Item) (clients : List ClientEntry) → map client_shape (answered_by_first entity items clients) ≡ map client_shape clients
answered_shape entity [] clients = refl
answered_shape entity (item.Message value ∷ items) clients = refl
answered_shape entity (item.Request client number value ∷ items) clients = refl
answered_shape entity (item.Reply number value ∷ items) clients = part_changed client_shape (is_client_at entity) (call_answered number) (λ entry. refl) clients
answered_shape entity (item.Goal id client value ∷ items) clients = refl
answered_shape entity (item.Cancel request client ∷ items) clients = refl
answered_shape entity (item.Ask id client ∷ items) clients = refl
answered_shape entity (item.Response id accepted ∷ items) clients = refl
answered_shape entity (item.Code returned moved ∷ items) clients = refl
answered_shape entity (item.Feedback id value ∷ items) clients = refl
answered_shape entity (item.Result id status value ∷ items) clients = refl

replied_shape : (queues : List Queue) (clients : List ClientEntry) → map client_shape (fold reply_taken clients queues) ≡ map client_shape clients
replied_shape [] clients = refl
replied_shape (queue ∷ queues) clients = replied_shape queues (reply_taken clients queue) ∙ answered_shape queue.handler.entity queue.items clients

-- worlds whose parts have one shape have one
same_shape : (before after : WorldState) → after.order ≡ before.order → after.topics ≡ before.topics →
    map timer_shape after.timers ≡ map timer_shape before.timers →
    map queue_shape after.queues ≡ map queue_shape before.queues →
    map server_shape after.servers ≡ map server_shape before.servers →
    map client_shape after.clients ≡ map client_shape before.clients →
    map action_client_shape after.action_clients ≡ map action_client_shape before.action_clients →
    length after.variables ≡ length before.variables → shape_of after ≡ shape_of before
same_shape before after order topics timers queues servers clients action_clients groups = rw (order, topics, timers, queues, servers, clients, action_clients, groups) refl

pub shape_kept : (of : WorldState) → KeptByRounds (λ world. shape_of world ≡ of)
shape_kept of = record {
  basic = record {
    lines_kept = λ lines world p. p;
    queues_kept = λ entity new world p. same_shape world (queued entity new world) refl refl refl (part_changed queue_shape _ _ (λ queue. queue_same queue (sent queue.depth new queue.items) (sent queue.depth (next_arrival world))) world.queues) refl refl refl refl ∙ p;
    goals_kept = λ server change world same p. same_shape world (change_goals server change world) refl refl refl refl (part_changed server_shape _ _ (λ entry. refl) world.servers) refl refl refl ∙ p;
    tasks_kept = λ server id task world p. same_shape world (with_task server id task world) refl refl refl refl (part_changed server_shape _ _ (λ entry. refl) world.servers) refl refl refl ∙ p;
    arrivals_kept = λ server id world p. same_shape world (goal_arrived server id world) refl refl refl refl (part_changed server_shape _ _ (λ entry. refl) world.servers) refl refl refl ∙ p;
    calls_kept = λ client world p. same_shape world (with_call client world) refl refl refl refl refl (part_changed client_shape _ _ (λ entry. refl) world.clients) refl refl ∙ p;
    sending_kept = λ client world p. same_shape world (with_goal_sent client world) refl refl refl refl refl refl (part_changed action_client_shape _ _ (λ entry. refl) world.action_clients) refl ∙ p;
    variables_kept = λ group variables world p. same_shape world (with_variables group variables world) refl refl refl refl refl refl refl (length-set world.variables group variables) ∙ p;
  };
  accepts_kept = λ server moment how request world room p. same_shape world (accept server moment how request world) refl refl refl refl (part_changed server_shape _ _ (λ entry. refl) world.servers) refl refl refl ∙ p;
  expiry_kept = λ moment world p. same_shape world (expire moment world) refl refl refl refl (part_mapped server_shape _ (λ entry. refl) world.servers) refl refl refl ∙ p;
  snapshot_kept = λ moment world p.
      same_shape world (take_inputs moment world) refl refl (part_mapped timer_shape _ (timer_same moment) world.timers) (part_mapped queue_shape queue_taken (λ queue. queue_same queue (drop 1 queue.items) (drop 1)) world.queues) refl (replied_shape world.queues world.clients) refl refl ∙ p;
}

pub shape_stays : (plan : PlanData) (number : ℕ) (moments : List Moment) (world : WorldState) → shape_of (rounds plan number moments world) ≡ shape_of world
shape_stays plan number moments world = rounds_keep (shape_kept (shape_of world)) plan number moments world refl
