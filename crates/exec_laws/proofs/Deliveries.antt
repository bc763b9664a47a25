-- Through rounds, each message that is published to a topic is taken by a subscription in order, dropped with a line, or held.
use Rattle.std.proofs.Common.{◌≡◌, ◌+◌, ℕ, zero, suc, ℤ, Bool, true, false, ◌==◌, List, [], ◌∷◌, ◌++◌, map, length, Option, None, Some, refl, sym, ap, subst, ◌∙◌, append_assoc}
use Rattle.std.specs.List.{AllByRecursion, Contains, flat_map, fold, list_all, list_any}
use Rattle.std.proofs.lemmas.Bool.{and_parts}
use Rattle.std.proofs.lemmas.Grind.{flat_map-append}
use Rattle.std.proofs.lemmas.List.{append-nil}
use Rattle.exec_goal.specs.Cancel.{moved}
use Rattle.exec_goal.specs.State.{status_of}
use Rattle.exec_goal.specs.Table.{GoalRecord, after_event, after_end, expired}
use Rattle.exec_msg.specs.Numbers.{EntityNo, Moment}
use Rattle.exec_plan.specs.Feeding.{fed_in}
use Rattle.exec_plan.specs.Plan.{PlanData, Fed, Feed}
use Rattle.exec_plan.specs.declared.plan.FedOf.TheVariants as feeding
use Rattle.exec_msg.specs.declared.goal.Acceptance.{Acceptance}
use Rattle.exec_msg.specs.declared.goal.Acceptance.TheVariants as acceptance
use Rattle.exec_msg.specs.declared.goal.Event.TheVariants as event
use Rattle.exec_msg.specs.declared.goal.GoalStatus.{GoalStatus}
use Rattle.exec_msg.specs.declared.kind.Kind.TheVariants as kind
use Rattle.exec_msg.specs.declared.line.Line.{Line}
use Rattle.exec_msg.specs.declared.line.Line.TheVariants as line
use Rattle.exec_laws.proofs.Delivered.{Flow, IsMute, flow_lines, flow_begun, flow_taken, flow_other, flow_message}
use Rattle.exec_laws.proofs.Gathered.{flat_more}
use Rattle.exec_laws.proofs.Handed.{handed, held_in, held_taken, list_hands}
use Rattle.exec_rules.proofs.Keeping.{ids_changed, Kept, Moves, Tells, moves_kept, tells_kept, push_kept, state_said, anywhere, is_message, is_plain}
use Rattle.exec_rules.proofs.OfKinds.{AreOfTheirKinds, kinds_kept, kinds_first}
use Rattle.exec_rules.proofs.Pairs.{all_append, all_flat, all_map, all_weaker}
use Rattle.exec_rules.proofs.Running.{Answers, ends_told, asks_told, run_keeps, KeptByRounds}
use Rattle.exec_rules.proofs.Shapes.{shape_kept}
use Rattle.exec_laws.proofs.Standing.{has_queue}
use Rattle.exec_laws.proofs.Subscribed.{brought, only_if, messages_brought, queue_there}
use Rattle.exec_rules.proofs.Wiring.{wired}
use Rattle.exec_rules.specs.Close.{accepted_lines, moved_lines, with_ended, goal_at}
use Rattle.exec_laws.specs.Exchanges.{IsDelivered, fed_to, published_at}
use Rattle.exec_rules.specs.Give.{publish, execute_goal}
use Rattle.exec_rules.specs.Item.{taker_of}
use Rattle.exec_rules.specs.Shape.{shape_of}
use Rattle.exec_rules.specs.Ready.{ready_list, run_line, take_inputs}
use Rattle.exec_rules.specs.Run.{run}
use Rattle.exec_rules.specs.Transcript.{first_world, expire_lines, expire, feed_one, feed, at_snapshot, run_all, round, rounds, pending_by, closing_lines, last_world}
use Rattle.exec_rules.specs.World.{WorldState, Queue, add_line, add_lines, is_queue, drop_line, lost_by, push, subscribers_at, with_call, records_of}
use Rattle.exec_rules.specs.declared.item.Item.{Item}
use Rattle.exec_rules.specs.declared.item.Item.TheVariants as item
use Rattle.exec_rules.specs.declared.ready.Ready.{Ready}

module _ (plan : PlanData) (topic subscription : EntityNo) (among : Contains (subscribers_at topic (first_world plan)) subscription) where
  -- ---- lines

  abbrev published : List Line → List ℤ
  published lines = flat_map (published_at plan topic) lines

  -- a line that says neither a publication nor what becomes of one
  abbrev IsSilent : Line → Type 0
  IsSilent one = (published_at plan topic one ≡ []) × IsMute subscription one

  plain_silent : (one : Line) → is_plain one ≡ true → IsSilent one
  plain_silent (line.Round number moment) e = absurd cc
  plain_silent (line.Expire entity goal) e = (refl, (refl, refl))
  plain_silent (line.Run entity of first aux goal) e = absurd cc
  plain_silent (line.Drop entity of value) e = absurd cc
  plain_silent (line.Pub at value) e = absurd cc
  plain_silent (line.Call client number value) e = (refl, (refl, refl))
  plain_silent (line.Reply entity value) e = (refl, (refl, refl))
  plain_silent (line.Goal client goal value) e = (refl, (refl, refl))
  plain_silent (line.Cancel client goal stamp) e = (refl, (refl, refl))
  plain_silent (line.Log entity value) e = (refl, (refl, refl))
  plain_silent (line.Feedback entity goal value) e = (refl, (refl, refl))
  plain_silent (line.Decide entity goal decision) e = (refl, (refl, refl))
  plain_silent (line.State entity goal status) e = (refl, (refl, refl))
  plain_silent (line.Code entity returned count) e = (refl, (refl, refl))
  plain_silent (line.Ask client goal) e = (refl, (refl, refl))
  plain_silent (line.Result entity goal status value) e = absurd cc
  plain_silent (line.Pending client number) e = (refl, (refl, refl))
  plain_silent (line.End number) e = (refl, (refl, refl))

  all_plain : (lines : List Line) → list_all is_plain lines ≡ true → AllByRecursion IsSilent lines
  all_plain [] e = tt
  all_plain (one ∷ lines) e = let parts = and_parts (is_plain one) (list_all is_plain lines) e in (plain_silent one parts.0, all_plain lines parts.1)

  published_more : (lines more : List Line) → AllByRecursion (λ one. published_at plan topic one ≡ []) more → published (lines ++ more) ≡ published lines
  published_more lines more none = flat_more (published_at plan topic) lines more none

  drops_unpublished : (entity : EntityNo) (lost : List Item) → AllByRecursion (λ one. published_at plan topic one ≡ []) (map (drop_line entity) lost)
  drops_unpublished entity [] = tt
  drops_unpublished entity (first ∷ lost) = (refl, drops_unpublished entity lost)

  -- ---- a world

  -- queues hold items of their kinds, and the shape is that of the first world
  abbrev Base : WorldState → Type 0
  Base world = AreOfTheirKinds world × (shape_of world ≡ shape_of (first_world plan))

  shapes : KeptByRounds (λ world. shape_of world ≡ shape_of (first_world plan))
  shapes = shape_kept (shape_of (first_world plan))

  base_kept : Kept Base
  base_kept = record {
    lines_kept = λ lines world p. p;
    queues_kept = λ entity new world p. (kinds_kept.basic.queues_kept entity new world p.0, shapes.basic.queues_kept entity new world p.1);
    goals_kept = λ server change world same p. (kinds_kept.basic.goals_kept server change world same p.0, shapes.basic.goals_kept server change world same p.1);
    tasks_kept = λ server id task world p. (kinds_kept.basic.tasks_kept server id task world p.0, shapes.basic.tasks_kept server id task world p.1);
    arrivals_kept = λ server id world p. (kinds_kept.basic.arrivals_kept server id world p.0, shapes.basic.arrivals_kept server id world p.1);
    calls_kept = λ client world p. (kinds_kept.basic.calls_kept client world p.0, shapes.basic.calls_kept client world p.1);
    sending_kept = λ client world p. (kinds_kept.basic.sending_kept client world p.0, shapes.basic.sending_kept client world p.1);
    variables_kept = λ group variables world p. (kinds_kept.basic.variables_kept group variables world p.0, shapes.basic.variables_kept group variables world p.1);
  }

  there : (world : WorldState) → Base world → list_any (is_queue subscription kind.Message) world.queues ≡ true
  there world p = has_queue subscription kind.Message world (first_world plan) p.1 ∙ queue_there plan topic subscription among

  -- messages on their way: so much was sent to the subscription, where lines say that so much was published
  record IsSending (sent hand said : List ℤ) (world : WorldState) : Type 0 where
    base : Base world
    flow : Flow subscription sent hand world.queues world.lines
    says : published world.lines ≡ said

  abbrev Delivers : List ℤ → WorldState → Type 0
  Delivers hand world = IsSending (published world.lines) hand (published world.lines) world

  -- all that was published was sent
  settled : (said hand : List ℤ) (world : WorldState) → IsSending said hand said world → Delivers hand world
  settled said hand world d = subst (λ (some : List ℤ). IsSending some hand some world) (sym d.says) d

  -- a change of no queue, with lines that are silent
  changed : (sent hand said : List ℤ) (world after : WorldState) (more : List Line) → Base after → after.queues ≡ world.queues → after.lines ≡ world.lines ++ more → AllByRecursion IsSilent more → IsSending sent hand said world → IsSending sent hand said after
  changed sent hand said world after more base queues lines silent d = record {
    base = base;
    flow =
        subst (λ (some : List Queue). Flow subscription sent hand some after.lines) (sym queues)
        (subst (λ (some : List Line). Flow subscription sent hand world.queues some) (sym lines)
        (flow_lines subscription sent hand world.queues world.lines more (all_weaker IsSilent (IsMute subscription) (λ one q. q.1) more silent) d.flow));
    says = ap (λ (some : List Line). published some) lines ∙ published_more world.lines more (all_weaker IsSilent (λ one. published_at plan topic one ≡ []) (λ one q. q.0) more silent) ∙ d.says;
  }

  -- the same for all that was published
  kept : (hand : List ℤ) (world after : WorldState) (more : List Line) → Base after → after.queues ≡ world.queues → after.lines ≡ world.lines ++ more → AllByRecursion IsSilent more → Delivers hand world → Delivers hand after
  kept hand world after more base queues lines silent d = settled (published world.lines) hand after (changed (published world.lines) hand (published world.lines) world after more base queues lines silent d)

  same : (hand : List ℤ) (world after : WorldState) → Base after → after.queues ≡ world.queues → after.lines ≡ world.lines → Delivers hand world → Delivers hand after
  same hand world after base queues lines d = kept hand world after [] base queues (lines ∙ sym (append-nil world.lines)) tt d

  -- ---- what is sent

  other_sent : (sent hand said : List ℤ) (entity : EntityNo) (new : Item) (world : WorldState) → is_message (taker_of new) ≡ false → IsSending sent hand said world → IsSending sent hand said (push entity new world)
  other_sent sent hand said entity new world other d = record {
    base = push_kept base_kept entity new world d.base;
    flow = flow_other subscription sent hand entity new world other d.base.0 d.flow;
    says = published_more world.lines (map (drop_line entity) (lost_by entity new world)) (drops_unpublished entity (lost_by entity new world)) ∙ d.says;
  }

  message_sent : (sent hand said : List ℤ) (entity : EntityNo) (value : ℤ) (world : WorldState) → IsSending sent hand said world → IsSending (sent ++ brought subscription value entity) hand said (push entity (item.Message value) world)
  message_sent sent hand said entity value world d = record {
    base = push_kept base_kept entity (item.Message value) world d.base;
    flow = flow_message subscription sent hand entity value world d.base.0 (there world d.base) d.flow;
    says = published_more world.lines (map (drop_line entity) (lost_by entity (item.Message value) world)) (drops_unpublished entity (lost_by entity (item.Message value) world)) ∙ d.says;
  }

  messages_sent : (sent hand said : List ℤ) (value : ℤ) (all : List EntityNo) (world : WorldState) → IsSending sent hand said world → IsSending (sent ++ flat_map (brought subscription value) all) hand said (fold (λ before one. push one (item.Message value) before) world all)
  messages_sent sent hand said value [] world d = subst (λ (some : List ℤ). IsSending some hand said world) (sym (append-nil sent)) d
  messages_sent sent hand said value (one ∷ all) world d =
      subst (λ (some : List ℤ). IsSending some hand said (fold (λ before each. push each (item.Message value) before) world (one ∷ all))) (append_assoc sent (brought subscription value one) (flat_map (brought subscription value) all))
      (messages_sent (sent ++ brought subscription value one) hand said value all (push one (item.Message value) world) (message_sent sent hand said one value world d))

  -- a message to each subscription of a topic
  published_sent : (sent hand said : List ℤ) (other : EntityNo) (value : ℤ) (world : WorldState) → IsSending sent hand said world → IsSending (sent ++ only_if (other == topic) value) hand said (publish other value world)
  published_sent sent hand said other value world d =
      subst (λ (some : List ℤ). IsSending (sent ++ some) hand said (publish other value world))
      (ap (λ (all : List EntityNo). flat_map (brought subscription value) all) (ap (λ (shape : WorldState). subscribers_at other shape) d.base.1) ∙ messages_brought plan topic subscription among other value)
      (messages_sent sent hand said value (subscribers_at other world) world d)

  -- with its line
  publication : (hand : List ℤ) (other : EntityNo) (value : ℤ) (world : WorldState) → Delivers hand world → Delivers hand (publish other value (add_line (line.Pub other value) world))
  publication hand other value world d =
      settled (published world.lines ++ only_if (other == topic) value) hand _
      (published_sent (published world.lines) hand (published world.lines ++ only_if (other == topic) value) other value (add_line (line.Pub other value) world)
      (record {
        base = d.base;
        flow = flow_lines subscription (published world.lines) hand world.queues world.lines (line.Pub other value ∷ []) ((refl, refl), tt) d.flow;
        says = flat_map-append (published_at plan topic) world.lines (line.Pub other value ∷ []) ∙ ap (λ (some : List ℤ). published world.lines ++ some) (append-nil (only_if (other == topic) value));
      }))

  -- ---- callbacks

  state_silent : (server id : ℕ) (status : GoalStatus) → AllByRecursion IsSilent (line.State server id status ∷ [])
  state_silent server id status = ((refl, (refl, refl)), tt)

  moved_silent : (server : EntityNo) (goals : List GoalRecord) (more : List Line) → AllByRecursion IsSilent more → AllByRecursion IsSilent (moved_lines server goals ++ more)
  moved_silent server [] more p = p
  moved_silent server (goal ∷ goals) more p = ((refl, (refl, refl)), moved_silent server goals more p)

  accepted_silent : (server id : ℕ) (how : Acceptance) → AllByRecursion IsSilent (accepted_lines server id how)
  accepted_silent server id acceptance.Execute = ((refl, (refl, refl)), ((refl, (refl, refl)), tt))
  accepted_silent server id acceptance.Defer = ((refl, (refl, refl)), tt)

  sent_on : (hand : List ℤ) (entity : EntityNo) (new : Item) (world : WorldState) → is_message (taker_of new) ≡ false → Delivers hand world → Delivers hand (push entity new world)
  sent_on hand entity new world other d = settled (published world.lines) hand (push entity new world) (other_sent (published world.lines) hand (published world.lines) entity new world other d)

  moves : (hand : List ℤ) → Moves anywhere (Delivers hand)
  moves hand = record {
    lines_kept = λ lines world quiet d. kept hand world (add_lines lines world) lines d.base refl refl (all_plain lines quiet.1.1) d;
    pushes_kept = λ entity new world well free message request result d. sent_on hand entity new world message d;
    publications_kept = publication hand;
    calls_kept = λ number client value world found d.
        sent_on hand client.service (item.Request client.entity (client.calls + 1) value) (add_line (line.Call client.entity (client.calls + 1) value) (with_call client.entity world)) refl
        (kept hand world (add_line (line.Call client.entity (client.calls + 1) value) (with_call client.entity world)) (line.Call client.entity (client.calls + 1) value ∷ []) (base_kept.calls_kept client.entity world d.base) refl refl ((refl, (refl, refl)), tt) d);
    action_clients_known = λ number client world found d. refl;
    execution_kept = λ server goal world found d.
        kept hand world (execute_goal server (Some goal) world) (line.State server goal.id (status_of (after_event event.Execute goal).state) ∷ []) ((moves_kept base_kept).execution_kept server goal world found d.base) refl refl (state_silent server goal.id (status_of (after_event event.Execute goal).state)) d;
    answer_kept = λ server decisions returned count world d.
        kept hand world _ (moved_lines server (moved decisions _) ++ line.Code server returned count ∷ []) ((moves_kept base_kept).answer_kept server decisions returned count world d.base) refl refl (moved_silent server _ (line.Code server returned count ∷ []) ((refl, (refl, refl)), tt)) d;
    tasks_kept = λ server id task world d. same hand world _ (base_kept.tasks_kept server id task world d.base) refl refl d;
    arrivals_kept = λ server id world d. same hand world _ (base_kept.arrivals_kept server id world d.base) refl refl d;
    sending_kept = λ client world d. same hand world _ (base_kept.sending_kept client world d.base) refl refl d;
    variables_kept = λ group variables world d. same hand world _ (base_kept.variables_kept group variables world d.base) refl refl d;
  }

  tells : (hand : List ℤ) → Tells (Delivers hand)
  tells hand = record {
    results_kept = λ server id status value client world d.
        sent_on hand client (item.Result id status value) (add_line (line.Result server id status value) world) refl
        (kept hand world (add_line (line.Result server id status value) world) (line.Result server id status value ∷ []) d.base refl refl ((refl, (refl, refl)), tt) d);
    notes_kept = λ server id change world named unmoved d. same hand world _ ((tells_kept base_kept).notes_kept server id change world named unmoved d.base) refl refl d;
  }

  answers_other : (one : Ready) (entity : EntityNo) (new : Item) → Answers anywhere one entity new → is_message (taker_of new) ≡ false
  answers_other one entity (item.Message value) a = absurd a
  answers_other one entity (item.Request client number value) a = absurd a
  answers_other one entity (item.Reply number value) a = refl
  answers_other one entity (item.Goal id client value) a = absurd a
  answers_other one entity (item.Cancel request client) a = absurd a
  answers_other one entity (item.Ask id client) a = refl
  answers_other one entity (item.Response id accepted) a = refl
  answers_other one entity (item.Code returned count) a = refl
  answers_other one entity (item.Feedback id value) a = absurd a
  answers_other one entity (item.Result id status value) a = absurd a

  said_on : (hand : List ℤ) (server : EntityNo) (goal : Option GoalRecord) (world : WorldState) → Delivers hand world → Delivers hand (state_said server goal world)
  said_on hand server None world d = d
  said_on hand server (Some goal) world d = kept hand world (add_line (line.State server goal.id (status_of goal.state)) world) (line.State server goal.id (status_of goal.state) ∷ []) d.base refl refl (state_silent server goal.id (status_of goal.state)) d

  -- a callback takes what it has in hand
  begun : (hand : List ℤ) (one : Ready) (world : WorldState) → Delivers (handed subscription one ++ hand) world → Delivers hand (add_line (run_line one) world)
  begun hand one world d =
      settled (published world.lines) hand (add_line (run_line one) world)
      (record {
        base = d.base;
        flow = flow_begun subscription (published world.lines) hand world.queues world.lines (run_line one) refl d.flow;
        says = published_more world.lines (run_line one ∷ []) (refl, tt);
      })

  run_delivers : (hand : List ℤ) (one : Ready) (world : WorldState) → Delivers (handed subscription one ++ hand) world → Delivers hand (run one world)
  run_delivers hand one world d =
      run_keeps {P = Delivers hand} {Q = Delivers hand} (moves hand) one (λ before none q. q)
      (λ request how before at room q.
      kept hand before _ (accepted_lines one.entity request.id how) (kinds_kept.accepts_kept one.entity one.moment how request before room q.base.0, shapes.accepts_kept one.entity one.moment how request before room q.base.1) refl refl
      (accepted_silent one.entity request.id how) q)
      (ends_told (moves hand) (tells hand) one (λ id goal canceling by value reached before at leads q.
      said_on hand one.entity (goal_at one.entity id (with_ended one.entity id by value one.moment before)) (with_ended one.entity id by value one.moment before)
      (same hand before (with_ended one.entity id by value one.moment before) (base_kept.goals_kept one.entity _ before (ids_changed id (after_end by value one.moment) (λ held. refl)) q.base) refl refl q)))
      (asks_told (moves hand) (tells hand) one (λ before q. q))
      (λ entity new before a q. sent_on hand entity new before (answers_other one entity new a) q) world (begun hand one world d)

  all_run : (list : List Ready) (world : WorldState) → Delivers (flat_map (handed subscription) list) world → Delivers [] (run_all list world)
  all_run [] world d = d
  all_run (one ∷ list) world d = all_run list (run one world) (run_delivers (flat_map (handed subscription) list) one world d)

  -- ---- rounds

  fed_one : (sent said : List ℤ) (fed : Fed) (world : WorldState) → IsSending sent [] said world → IsSending (sent ++ fed_to topic fed) [] said (feed_one fed world)
  fed_one sent said (feeding.Message other value) world d = published_sent sent [] said other value world d
  fed_one sent said (feeding.Goal server id value) world d = subst (λ (some : List ℤ). IsSending some [] said (push server (item.Goal id None value) world)) (sym (append-nil sent)) (other_sent sent [] said server (item.Goal id None value) world refl d)
  fed_one sent said (feeding.Cancel server id stamp) world d =
      subst (λ (some : List ℤ). IsSending some [] said (push server (item.Cancel (record { id = id; stamp = stamp }) None) world)) (sym (append-nil sent)) (other_sent sent [] said server (item.Cancel (record { id = id; stamp = stamp }) None) world refl d)

  all_fed : (sent said : List ℤ) (entries : List Feed) (world : WorldState) → IsSending sent [] said world → IsSending (sent ++ flat_map (λ entry. fed_to topic entry.fed) entries) [] said (feed entries world)
  all_fed sent said [] world d = subst (λ (some : List ℤ). IsSending some [] said world) (sym (append-nil sent)) d
  all_fed sent said (entry ∷ entries) world d =
      subst (λ (some : List ℤ). IsSending some [] said (feed (entry ∷ entries) world)) (append_assoc sent (fed_to topic entry.fed) (flat_map (λ one. fed_to topic one.fed) entries))
      (all_fed (sent ++ fed_to topic entry.fed) said entries (feed_one entry.fed world) (fed_one sent said entry.fed world d))

  snapshot_delivers : (number : ℕ) (moment : Moment) (world : WorldState) → Delivers [] world → Delivers [] (at_snapshot plan number moment world)
  snapshot_delivers number moment world d =
      let fed : List ℤ = flat_map (λ entry. fed_to topic entry.fed) (fed_in number plan.feed) in
      let started : WorldState = add_line (line.Round number moment) world in
      let sending : IsSending (published world.lines) [] (published world.lines ++ fed) started =
      record {
        base = d.base;
        flow = flow_lines subscription (published world.lines) [] world.queues world.lines (line.Round number moment ∷ []) ((refl, refl), tt) d.flow;
        says = flat_map-append (published_at plan topic) world.lines (line.Round number moment ∷ []) ∙ ap (λ (some : List ℤ). published world.lines ++ some) (append-nil fed);
      } in
      settled (published world.lines ++ fed) [] _
      (all_fed (published world.lines) (published world.lines ++ fed) (fed_in number plan.feed) (expire moment started)
      (changed (published world.lines) [] (published world.lines ++ fed) started (expire moment started) (flat_map (expire_lines moment) started.servers) (kinds_kept.expiry_kept moment started d.base.0, shapes.expiry_kept moment started d.base.1) refl refl
      (all_flat IsSilent (expire_lines moment) (λ entry. all_map IsSilent _ (λ goal. (refl, (refl, refl))) (expired moment entry.timeout (records_of entry.held))) started.servers) sending))

  taken_delivers : (moment : Moment) (world : WorldState) → Delivers [] world → Delivers (flat_map (handed subscription) (ready_list moment world)) (take_inputs moment world)
  taken_delivers moment world d =
      subst (λ (some : List ℤ). Delivers some (take_inputs moment world)) (sym (list_hands subscription moment world plan.graph (wired plan world d.base.1) d.base.0))
      (record {
        base = (kinds_kept.snapshot_kept moment world d.base.0, shapes.snapshot_kept moment world d.base.1);
        flow = flow_taken subscription (published world.lines) world.queues (take_inputs moment world).queues world.lines (held_taken subscription world.queues) d.flow;
        says = refl;
      })

  rounds_deliver : (number : ℕ) (moments : List Moment) (world : WorldState) → Delivers [] world → Delivers [] (rounds plan number moments world)
  rounds_deliver number [] world d = d
  rounds_deliver number (moment ∷ moments) world d =
      let before : WorldState = at_snapshot plan number moment world in
      rounds_deliver (suc number) moments (round plan number moment world) (all_run (ready_list moment before) (take_inputs moment before) (taken_delivers moment before (snapshot_delivers number moment world d)))

  none_held : (queues : List Queue) → AllByRecursion (λ queue. queue.items ≡ []) queues → held_in subscription queues ≡ []
  none_held [] p = refl
  none_held (queue ∷ queues) p = by (is_queue subscription kind.Message queue) refl (none_held queues p.1)
    where
      by : (b : Bool) → is_queue subscription kind.Message queue ≡ b → held_in subscription queues ≡ [] → held_in subscription (queue ∷ queues) ≡ []
      by true e rest = rw (e, p.0) refl
      by false e rest = rw e rest

  first_delivers : Delivers [] (first_world plan)
  first_delivers = record {
    base = (kinds_first plan.order plan.graph _, refl);
    flow = record { left = []; in_order = sym (none_held (first_world plan).queues (all_map (λ queue. queue.items ≡ []) _ (λ waitable. refl) _)); takings = refl; losses = refl };
    says = refl;
  }

  pending_silent : (client count : ℕ) → AllByRecursion IsSilent (pending_by client count)
  pending_silent client zero = tt
  pending_silent client (suc more) = ((refl, (refl, refl)), tt)

  pub all_delivered : IsDelivered plan topic subscription (last_world plan)
  all_delivered =
      let last : WorldState = rounds plan 1 plan.moments (first_world plan) in
      let done : Delivers [] last = rounds_deliver 1 plan.moments (first_world plan) first_delivers in
      let closed : Delivers [] (last_world plan) =
      kept [] last (last_world plan) (closing_lines (length plan.moments) last) done.base refl refl
      (all_append IsSilent (flat_map (λ entry. pending_by entry.entity (length entry.pending)) last.clients) (line.End (length plan.moments) ∷ [])
      (all_flat IsSilent (λ entry. pending_by entry.entity (length entry.pending)) (λ entry. pending_silent entry.entity (length entry.pending)) last.clients) ((refl, (refl, refl)), tt)) done in
      record { left = closed.flow.left; in_order = closed.flow.in_order; takings = sym (append-nil _) ∙ closed.flow.takings; losses = closed.flow.losses }
