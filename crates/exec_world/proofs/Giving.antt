-- What the effects of a callback do, as the bodies do it: by the mail, and by what is found first.
use Rattle.std.proofs.Common.{◌≡◌, ℕ, ◌+◌, ◌==◌, ℤ, true, List, [], ◌∷◌, Option, Some, None, find, refl, ap, sym, ◌∙◌}
use Rattle.std.specs.List.{fold}
use Rattle.std.specs.Option.{option_map, option_map_or}
use Rattle.exec_goal.specs.State.{is_accepted, status_of}
use Rattle.exec_goal.specs.Table.{GoalRecord, after_event}
use Rattle.exec_goal.specs.declared.state.State.{State}
use Rattle.exec_goal.specs.declared.state.State.TheVariants as state
use Rattle.exec_msg.specs.declared.goal.Event.TheVariants as event
use Rattle.exec_msg.specs.declared.goal.GoalStatus.TheVariants as status
use Rattle.exec_msg.specs.declared.line.Line.TheVariants as line
use Rattle.exec_entity.proofs.FoundEntries.{found_number}
use Rattle.exec_rules.proofs.Running.{found_test}
use Rattle.exec_rules.specs.Give.{call_by, cancel_all_by, cancel_goal_by, execute_goal, publish, send_goal_by}
use Rattle.exec_rules.specs.Item.{goal_id}
use Rattle.exec_rules.specs.World.{ActionClientEntry, ClientEntry, TopicEntry, WorldState, action_client_at, add_line, client_at, push, with_call, with_goal_sent}
use Rattle.exec_rules.specs.declared.item.Item.{Item}
use Rattle.exec_rules.specs.declared.item.Item.TheVariants as item
use Rattle.exec_world.specs.inner.Mail.{mail_of, sent_to_each, with_mail}
use Rattle.exec_entity.specs.inner.Servers.{executed_in}

-- ---- topics

-- what is sent to each by mail is pushed to each
pub each_pushed : (new : Item) (entities : List ℕ) (world : WorldState) → with_mail (sent_to_each entities new (mail_of world)) world ≡ fold (λ before entity. push entity new before) world entities
each_pushed new [] world = refl
each_pushed new (entity ∷ entities) world = each_pushed new entities (push entity new world)

pub published : (topic : ℕ) (value : ℤ) (world : WorldState) (entry : TopicEntry) → find (λ one. one.entity == topic) world.topics ≡ Some entry →
    with_mail (sent_to_each entry.subscribers (item.Message value) (mail_of world)) world ≡ publish topic value world
published topic value world entry there =
    each_pushed (item.Message value) entry.subscribers world
    ∙ ap (λ (found : Option TopicEntry). fold (λ before entity. push entity (item.Message value) before) world (option_map_or (λ one. one.subscribers) found [])) (sym there)

-- ---- clients

pub called : (client : ℕ) (value : ℤ) (world : WorldState) (found : Option ClientEntry) → client_at client world ≡ found → (service number : ℕ) → option_map {U = ℕ × ℕ} (λ entry. (entry.service, entry.calls + 1)) found ≡ Some (service, number) →
    push service (item.Request client number value) (add_line (line.Call client number value) (with_call client world)) ≡ call_by found value world
called client value world None there service number made = absurd cc
called client value world (Some entry) there service number made =
    let named : entry.entity ≡ client = found_number (λ (one : ClientEntry). one.entity) client world.clients entry there in
    let pair : (entry.service, entry.calls + 1) ≡ (service, number) = cc in
    let at : entry.service ≡ service = ap (λ (both : ℕ × ℕ). both.0) pair in
    let counted : entry.calls + 1 ≡ number = ap (λ (both : ℕ × ℕ). both.1) pair in
    (λ i. push (sym at i) (item.Request (sym named i) (sym counted i) value) (add_line (line.Call (sym named i) (sym counted i) value) (with_call (sym named i) world)))

pub goal_sent : (client : ℕ) (value : ℤ) (world : WorldState) (found : Option ActionClientEntry) → action_client_at client world ≡ found → (server id : ℕ) → option_map {U = ℕ × ℕ} (λ entry. (entry.server, goal_id entry.place (entry.goals + 1))) found ≡ Some (server, id) →
    push server (item.Goal id (Some client) value) (add_line (line.Goal client id value) (with_goal_sent client world)) ≡ send_goal_by found value world
goal_sent client value world None there server id made = absurd cc
goal_sent client value world (Some entry) there server id made =
    let named : entry.entity ≡ client = found_number (λ (one : ActionClientEntry). one.entity) client world.action_clients entry there in
    let pair : (entry.server, goal_id entry.place (entry.goals + 1)) ≡ (server, id) = cc in
    let at : entry.server ≡ server = ap (λ (both : ℕ × ℕ). both.0) pair in
    let is : goal_id entry.place (entry.goals + 1) ≡ id = ap (λ (both : ℕ × ℕ). both.1) pair in
    (λ i. push (sym at i) (item.Goal (sym is i) (Some (sym named i)) value) (add_line (line.Goal (sym named i) (sym is i) value) (with_goal_sent (sym named i) world)))

module _ (client : ℕ) (world : WorldState) (entry : ActionClientEntry) (there : action_client_at client world ≡ Some entry) where
  named_so : entry.entity ≡ client
  named_so = found_number (λ (one : ActionClientEntry). one.entity) client world.action_clients entry there

  pub canceled_all : (server id stamp : ℕ) → server ≡ entry.server → id ≡ 0 →
      push server (item.Cancel (record { id = id; stamp = stamp }) (Some client)) (add_line (line.Cancel client id stamp) world) ≡ cancel_all_by (action_client_at client world) stamp world
  canceled_all server id stamp at none =
      (λ i. push (at i) (item.Cancel (record { id = none i; stamp = stamp }) (Some (sym named_so i))) (add_line (line.Cancel (sym named_so i) (none i) stamp) world))
      ∙ ap (λ (found : Option ActionClientEntry). cancel_all_by found stamp world) (sym there)

  pub canceled_goal : (server id number stamp : ℕ) → server ≡ entry.server → id ≡ goal_id entry.place number →
      push server (item.Cancel (record { id = id; stamp = stamp }) (Some client)) (add_line (line.Cancel client id stamp) world) ≡ cancel_goal_by (action_client_at client world) number stamp world
  canceled_goal server id number stamp at is =
      (λ i. push (at i) (item.Cancel (record { id = is i; stamp = stamp }) (Some (sym named_so i))) (add_line (line.Cancel (sym named_so i) (is i) stamp) world))
      ∙ ap (λ (found : Option ActionClientEntry). cancel_goal_by found number stamp world) (sym there)

-- ---- servers

executing : (before : State) (goal : GoalRecord) → goal.state ≡ before → is_accepted before ≡ true → status_of (after_event event.Execute goal).state ≡ status.Executing
executing state.Accepted goal is accepted = rw is refl
executing state.Executing goal is accepted = absurd cc
executing state.Canceling goal is accepted = absurd cc
executing state.Succeeded goal is accepted = absurd cc
executing state.Aborted goal is accepted = absurd cc
executing state.Canceled goal is accepted = absurd cc

pub executed_oldest : (server id : ℕ) (world : WorldState) (goals : List GoalRecord) (found : Option GoalRecord) → find (λ goal. is_accepted goal.state) goals ≡ found → option_map (λ goal. goal.id) found ≡ Some id →
    add_line (line.State server id status.Executing) (record world { servers = executed_in server found world.servers }) ≡ execute_goal server found world
executed_oldest server id world goals None there is = absurd cc
executed_oldest server id world goals (Some goal) there is =
    let named : goal.id ≡ id = cc in
    let now : status_of (after_event event.Execute goal).state ≡ status.Executing = executing goal.state goal refl (found_test (λ (one : GoalRecord). is_accepted one.state) goals goal there) in
    (λ i. add_line (line.State server (sym named i) (sym now i)) (record world { servers = executed_in server (Some goal) world.servers }))
