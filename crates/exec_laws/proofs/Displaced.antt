-- Through rounds, no answer is displaced.
use Rattle.std.proofs.Common.{◌≡◌, ℕ, zero, suc, ◌+◌, ◌≤◌, Bool, true, false, ◌&&◌, ◌==◌, List, [], ◌∷◌, ◌++◌, length, map, Option, None, Some, refl, sym, ap, subst, ◌∙◌, arith}
use Rattle.std.specs.List.{AllByRecursion, filter, find, flat_map, list_any}
use Rattle.std.specs.Option.{option_map_or}
use Rattle.std.proofs.lemmas.List.Elements.{recursion_from_All}
use Rattle.std.proofs.lemmas.Bool.{or_parts}
use Rattle.exec_goal.specs.Cancel.{moved}
use Rattle.exec_goal.specs.Table.{GoalRecord, after_event, after_end, has_id, expired}
use Rattle.exec_msg.specs.Numbers.{EntityNo, Moment}
use Rattle.exec_plan.specs.Feeding.{fed_in}
use Rattle.exec_plan.specs.Graph.{GraphData, wait_set, Waitable}
use Rattle.exec_plan.specs.Plan.{PlanData}
use Rattle.exec_msg.specs.KeepLast.{displaced}
use Rattle.exec_msg.specs.Kind.{ready_number}
use Rattle.exec_msg.specs.Lists.{change_first}
use Rattle.exec_msg.specs.Timer.{is_due}
use Rattle.exec_msg.specs.declared.goal.Acceptance.{Acceptance}
use Rattle.exec_msg.specs.declared.goal.Acceptance.TheVariants as acceptance
use Rattle.exec_msg.specs.declared.goal.Event.TheVariants as event
use Rattle.exec_msg.specs.declared.kind.Kind.{Kind}
use Rattle.exec_msg.specs.declared.kind.Kind.TheVariants as kind
use Rattle.exec_msg.specs.declared.line.Line.{Line}
use Rattle.exec_msg.specs.declared.line.Line.TheVariants as line
use Rattle.exec_laws.proofs.Addresses.{routes_of, client_knows, action_client_knows, IsAddressed, addressed_after, addressed_taken, addressed_first}
use Rattle.exec_laws.proofs.Channels.{Channel, replies, responses, codes, asks, takes, sends_to, weigh, total, count, none_taken, total_after, total_taken, none_lost, channel_of, its_channel, cause_sent, answers_send}
use Rattle.exec_rules.proofs.Keeping.{Moves, Tells, publish_kept, moves_kept, push_kept, feed_keeps, ids_changed, state_said, is_sent_well, Routes, canceled}
use Rattle.exec_rules.proofs.OfKinds.{IsOfItsKind, AreOfTheirKinds, kinds_kept, kinds_first, lost_of_kind}
use Rattle.exec_rules.proofs.Pairs.{all_flat, all_flat_where, all_map, all_mapped, all_unmapped, all_weaker}
use Rattle.exec_rules.proofs.ReadyLists.{IsOf, due_of, poll_of, list_apart, one_at_most, all_listed}
use Rattle.exec_rules.proofs.Sorting.{sum_sorted}
use Rattle.exec_rules.proofs.Running.{Answers, ends_told, asks_told, run_keeps, KeptByRounds}
use Rattle.exec_rules.proofs.Shapes.{shape_kept}
use Rattle.exec_rules.proofs.Wiring.{wired}
use Rattle.exec_rules.specs.Close.{accepted_lines, moved_lines, accept, with_ended, goal_at, goal_arrived}
use Rattle.exec_rules.specs.Item.{taker_of}
use Rattle.exec_rules.specs.Shape.{queue_shape, shape_of}
use Rattle.exec_rules.specs.Ready.{is_callback_of}
use Rattle.exec_rules.specs.Lines.{is_answer, is_loss}
use Rattle.exec_rules.specs.Ready.{all_ready, due_ready, item_ready, placed_from, poll_ready, queue_ready, rank_under, ready_list, run_line, take_inputs}
use Rattle.exec_rules.specs.Sorting.{sorted_by}
use Rattle.exec_rules.specs.Run.{run}
use Rattle.exec_rules.specs.Transcript.{takes_from_queue, first_world, expire_lines, expire, at_snapshot, run_all, round, rounds, pending_by, closing_lines, lines_of, new_queue}
use Rattle.exec_rules.specs.World.{WorldState, Queue, TimerEntry, ServerEntry, ClientEntry, add_line, is_queue, drop_line, lost_by, push, goals_at, change_goals, add_lines, with_task, with_call, with_goal_sent, with_variables, next_arrival, records_of}
use Rattle.exec_rules.specs.declared.item.Item.{Item}
use Rattle.exec_rules.specs.declared.item.Item.TheVariants as item
use Rattle.exec_rules.specs.declared.ready.Ready.{Ready}
use Rattle.exec_goal.specs.State.{status_of}
use Rattle.exec_rules.specs.Give.{execute_goal}

-- ---- lines

-- lines without a loss
abbrev IsLossless : List Line → Type 0
IsLossless lines = list_any is_loss lines ≡ false

lossless_more : (lines more : List Line) → IsLossless lines → IsLossless more → IsLossless (lines ++ more)
lossless_more [] more p q = q
lossless_more (one ∷ lines) more p q =
    let parts = or_parts (is_loss one) (list_any is_loss lines) p in
    rw parts.0 (lossless_more lines more parts.1 q)

drops_lossless : (entity : EntityNo) (items : List Item) → AllByRecursion (λ one. is_answer (taker_of one) ≡ false) items → IsLossless (map (drop_line entity) items)
drops_lossless entity [] p = refl
drops_lossless entity (first ∷ items) p = rw p.0 (drops_lossless entity items p.1)

-- what an item that answers nothing displaces answers nothing
lost_free : (entity : EntityNo) (new : Item) (queues : List Queue) → is_answer (taker_of new) ≡ false → AllByRecursion IsOfItsKind queues → AllByRecursion (λ one. is_answer (taker_of one) ≡ false) (option_map_or (λ queue. displaced queue.depth new queue.items) (find (is_queue entity (taker_of new)) queues) [])
lost_free entity new queues free p =
    all_weaker (λ one. taker_of one ≡ taker_of new) (λ one. is_answer (taker_of one) ≡ false) (λ one is. ap (λ (k : Kind). is_answer k) is ∙ free) _ (lost_of_kind entity new queues p)

moved_lossless : (server : EntityNo) (goals : List GoalRecord) → IsLossless (moved_lines server goals)
moved_lossless server [] = refl
moved_lossless server (goal ∷ goals) = moved_lossless server goals

accepted_lossless : (server : EntityNo) (id : ℕ) (how : Acceptance) → IsLossless (accepted_lines server id how)
accepted_lossless server id acceptance.Execute = refl
accepted_lossless server id acceptance.Defer = refl

expired_lossless : (entity : EntityNo) (goals : List GoalRecord) → IsLossless (map (λ goal. line.Expire entity goal.id) goals)
expired_lossless entity [] = refl
expired_lossless entity (goal ∷ goals) = expired_lossless entity goals

expiry_lossless : (moment : Moment) (servers : List ServerEntry) → IsLossless (flat_map (expire_lines moment) servers)
expiry_lossless moment [] = refl
expiry_lossless moment (entry ∷ servers) = lossless_more (expire_lines moment entry) (flat_map (expire_lines moment) servers) (expired_lossless entry.handler.entity (expired moment entry.timeout (records_of entry.held))) (expiry_lossless moment servers)

pending_lossless : (client number : ℕ) → IsLossless (pending_by client number)
pending_lossless client zero = refl
pending_lossless client (suc more) = refl

clients_lossless : (clients : List ClientEntry) → IsLossless (flat_map (λ entry. pending_by entry.entity (length entry.pending)) clients)
clients_lossless [] = refl
clients_lossless (entry ∷ clients) = lossless_more (pending_by entry.entity (length entry.pending)) _ (pending_lossless entry.entity (length entry.pending)) (clients_lossless clients)

-- what answers is of a kind that does
answers_kind : (graph : GraphData) (one : Ready) (entity : EntityNo) (new : Item) → Answers (routes_of graph) one entity new → is_answer (taker_of new) ≡ true
answers_kind graph one entity (item.Message value) a = absurd a
answers_kind graph one entity (item.Request client number value) a = absurd a
answers_kind graph one entity (item.Reply number value) a = refl
answers_kind graph one entity (item.Goal id client value) a = absurd a
answers_kind graph one entity (item.Cancel request client) a = absurd a
answers_kind graph one entity (item.Ask id client) a = refl
answers_kind graph one entity (item.Response id accepted) a = refl
answers_kind graph one entity (item.Code returned moved) a = refl
answers_kind graph one entity (item.Feedback id value) a = absurd a
answers_kind graph one entity (item.Result id status value) a = absurd a

-- ---- a world in a round, with these callbacks left

module _ (plan : PlanData) (deep_first : AllByRecursion (λ queue. 1 ≤ queue.depth) (first_world plan).queues) where
  record IsLight (rest : List Ready) (world : WorldState) : Type 0 where
    shape : shape_of world ≡ shape_of (first_world plan)
    kinds : AreOfTheirKinds world
    addressed : AllByRecursion (IsAddressed (routes_of plan.graph)) world.queues
    light : (channel : Channel) → total (routes_of plan.graph) channel world.queues + count (sends_to (routes_of plan.graph) channel) rest ≤ 1
    lossless : IsLossless world.lines

  deep : (world : WorldState) → shape_of world ≡ shape_of (first_world plan) → AllByRecursion (λ queue. 1 ≤ queue.depth) world.queues
  deep world same =
      all_unmapped (λ queue. 1 ≤ queue.depth) queue_shape world.queues
      (subst (λ (queues : List Queue). AllByRecursion (λ queue. 1 ≤ queue.depth) queues) (sym (ap (λ (shape : WorldState). shape.queues) same))
      (all_mapped (λ queue. 1 ≤ queue.depth) (λ queue. 1 ≤ queue.depth) queue_shape (λ queue p. p) (first_world plan).queues deep_first))

  -- a change of neither queues nor lines but for some that lose nothing
  kept : (rest : List Ready) (world after : WorldState) (lines : List Line) → IsLight rest world → shape_of after ≡ shape_of (first_world plan) → after.queues ≡ world.queues → after.lines ≡ world.lines ++ lines → IsLossless lines → IsLight rest after
  kept rest world after lines s shape queues said quiet = record {
    shape = shape;
    kinds = subst (λ (some : List Queue). AllByRecursion IsOfItsKind some) (sym queues) s.kinds;
    addressed = subst (λ (some : List Queue). AllByRecursion (IsAddressed (routes_of plan.graph)) some) (sym queues) s.addressed;
    light = λ channel. subst (λ (some : List Queue). total (routes_of plan.graph) channel some + count (sends_to (routes_of plan.graph) channel) rest ≤ 1) (sym queues) (s.light channel);
    lossless = subst (λ (some : List Line). IsLossless some) (sym said) (lossless_more world.lines lines s.lossless quiet);
  }

  same_lines : (rest : List Ready) (world after : WorldState) → IsLight rest world → shape_of after ≡ shape_of (first_world plan) → after.queues ≡ world.queues → after.lines ≡ world.lines → IsLight rest after
  same_lines rest world after s shape queues said = record {
    shape = shape;
    kinds = subst (λ (some : List Queue). AllByRecursion IsOfItsKind some) (sym queues) s.kinds;
    addressed = subst (λ (some : List Queue). AllByRecursion (IsAddressed (routes_of plan.graph)) some) (sym queues) s.addressed;
    light = λ channel. subst (λ (some : List Queue). total (routes_of plan.graph) channel some + count (sends_to (routes_of plan.graph) channel) rest ≤ 1) (sym queues) (s.light channel);
    lossless = subst (λ (some : List Line). IsLossless some) (sym said) s.lossless;
  }

  -- an item that is sent
  pushed : (before rest : List Ready) (entity : EntityNo) (new : Item) (world : WorldState) → is_sent_well (routes_of plan.graph) entity new ≡ true → IsLight before world → ((channel : Channel) → weigh (takes (routes_of plan.graph) channel entity (taker_of new)) 1 + count (sends_to (routes_of plan.graph) channel) rest ≤ count (sends_to (routes_of plan.graph) channel) before) →
      IsLossless (map (drop_line entity) (lost_by entity new world)) → IsLight rest (push entity new world)
  pushed before rest entity new world well s lighter none = record {
    shape = push_kept (shape_kept (shape_of (first_world plan))).basic entity new world s.shape;
    kinds = push_kept kinds_kept.basic entity new world s.kinds;
    addressed = addressed_after (routes_of plan.graph) entity (next_arrival world) new world.queues well s.addressed;
    light = λ channel.
        let after = total_after (routes_of plan.graph) channel entity (next_arrival world) new world.queues in
        let less = lighter channel in
        let was = s.light channel in
        omega (arith, after, less, was);
    lossless = lossless_more world.lines (map (drop_line entity) (lost_by entity new world)) s.lossless none;
  }

  freely : (rest : List Ready) (entity : EntityNo) (new : Item) (world : WorldState) → is_sent_well (routes_of plan.graph) entity new ≡ true → is_answer (taker_of new) ≡ false → IsLight rest world → IsLight rest (push entity new world)
  freely rest entity new world well free s =
      pushed rest rest entity new world well s
      (λ channel. let none : weigh (takes (routes_of plan.graph) channel entity (taker_of new)) 1 ≡ 0 = ap (λ (b : Bool). weigh b 1) (none_taken (routes_of plan.graph) channel entity (taker_of new) free) in omega (arith, none))
      (drops_lossless entity (lost_by entity new world) (lost_free entity new world.queues free s.kinds))

  well_answered : (one : Ready) (entity : EntityNo) (new : Item) → Answers (routes_of plan.graph) one entity new → is_sent_well (routes_of plan.graph) entity new ≡ true
  well_answered one entity (item.Message value) a = absurd a
  well_answered one entity (item.Request client number value) a = absurd a
  well_answered one entity (item.Reply number value) a = refl
  well_answered one entity (item.Goal id client value) a = absurd a
  well_answered one entity (item.Cancel request client) a = absurd a
  well_answered one entity (item.Ask id client) a = refl
  well_answered one entity (item.Response id accepted) a = refl
  well_answered one entity (item.Code returned moved) a = refl
  well_answered one entity (item.Feedback id value) a = absurd a
  well_answered one entity (item.Result id status value) a = absurd a

  module _ (one : Ready) (rest : List Ready) where
    answered : cause_sent (routes_of plan.graph) one.entity one.cause ≡ true → (entity : EntityNo) (new : Item) (world : WorldState) → Answers (routes_of plan.graph) one entity new → IsLight (one ∷ rest) world → IsLight rest (push entity new world)
    answered well entity new world a s =
        pushed (one ∷ rest) rest entity new world (well_answered one entity new a) s
        (λ channel. lighter channel (takes (routes_of plan.graph) channel entity (taker_of new)) refl)
        (ap (λ (lost : List Item). list_any is_loss (map (drop_line entity) lost)) nothing)
      where
        lighter : (channel : Channel) (b : Bool) → takes (routes_of plan.graph) channel entity (taker_of new) ≡ b → weigh (takes (routes_of plan.graph) channel entity (taker_of new)) 1 + count (sends_to (routes_of plan.graph) channel) rest ≤ count (sends_to (routes_of plan.graph) channel) (one ∷ rest)
        lighter channel true e =
            let ones : weigh (takes (routes_of plan.graph) channel entity (taker_of new)) 1 ≡ 1 = ap (λ (t : Bool). weigh t 1) e in
            let sends : weigh (sends_to (routes_of plan.graph) channel one) 1 ≡ 1 = ap (λ (t : Bool). weigh t 1) (answers_send plan.graph one well channel entity new a e) in
            omega (arith, ones, sends)
        lighter channel false e = let none : weigh (takes (routes_of plan.graph) channel entity (taker_of new)) 1 ≡ 0 = ap (λ (t : Bool). weigh t 1) e in omega (arith, none)

        empty : (channel : Channel) → takes (routes_of plan.graph) channel entity (taker_of new) ≡ true → total (routes_of plan.graph) channel world.queues ≡ 0
        empty channel e =
            let sends : weigh (sends_to (routes_of plan.graph) channel one) 1 ≡ 1 = ap (λ (t : Bool). weigh t 1) (answers_send plan.graph one well channel entity new a e) in
            let was = s.light channel in
            omega (arith, sends, was)

        nothing : lost_by entity new world ≡ []
        nothing =
            let its = its_channel plan.graph entity (taker_of new) (answers_kind plan.graph one entity new a) in
            none_lost (routes_of plan.graph) (channel_of plan.graph entity (taker_of new)) entity new world.queues its (empty (channel_of plan.graph entity (taker_of new)) its) (deep world s.shape)

  shapes : KeptByRounds (λ world. shape_of world ≡ shape_of (first_world plan))
  shapes = shape_kept (shape_of (first_world plan))

  -- a line that loses nothing
  quietly : (rest : List Ready) (one : Line) (world : WorldState) → IsLossless (one ∷ []) → IsLight rest world → IsLight rest (add_line one world)
  quietly rest one world none s = kept rest world (add_line one world) (one ∷ []) s s.shape refl refl none

  moves : (rest : List Ready) → Moves (routes_of plan.graph) (IsLight rest)
  moves rest = record {
    lines_kept = λ lines world quiet s. kept rest world (add_lines lines world) lines s s.shape refl refl quiet.1.0;
    pushes_kept = λ entity new world well free message request result s. freely rest entity new world well free s;
    publications_kept = λ topic value world s. publish_kept {P = IsLight rest} (λ entity sent before q. freely rest entity (item.Message sent) before refl refl q) topic value (add_line (line.Pub topic value) world) (quietly rest (line.Pub topic value) world refl s);
    calls_kept = λ number client value world found s.
        freely rest client.service (item.Request client.entity (client.calls + 1) value) (add_line (line.Call client.entity (client.calls + 1) value) (with_call client.entity world)) (client_knows plan world s.shape number client found) refl
        (quietly rest (line.Call client.entity (client.calls + 1) value) (with_call client.entity world) refl
        (same_lines rest world (with_call client.entity world) s (shapes.basic.calls_kept client.entity world s.shape) refl refl));
    action_clients_known = λ number client world found s. action_client_knows plan world s.shape number client found;
    execution_kept = λ server goal world found s.
        kept rest world (execute_goal server (Some goal) world) (line.State server goal.id (status_of (after_event event.Execute goal).state) ∷ []) s ((moves_kept shapes.basic).execution_kept server goal world found s.shape) refl refl refl;
    answer_kept = λ server decisions returned many world s.
        kept rest world (canceled server decisions returned many world) (moved_lines server (moved decisions (goals_at server world)) ++ line.Code server returned many ∷ []) s ((moves_kept shapes.basic).answer_kept server decisions returned many world s.shape) refl refl
        (lossless_more (moved_lines server (moved decisions (goals_at server world))) (line.Code server returned many ∷ []) (moved_lossless server (moved decisions (goals_at server world))) refl);
    tasks_kept = λ server id task world s. same_lines rest world (with_task server id task world) s (shapes.basic.tasks_kept server id task world s.shape) refl refl;
    arrivals_kept = λ server id world s. same_lines rest world (goal_arrived server id world) s (shapes.basic.arrivals_kept server id world s.shape) refl refl;
    sending_kept = λ client world s. same_lines rest world (with_goal_sent client world) s (shapes.basic.sending_kept client world s.shape) refl refl;
    variables_kept = λ group variables world s. same_lines rest world (with_variables group variables world) s (shapes.basic.variables_kept group variables world s.shape) refl refl;
  }

  tells : (rest : List Ready) → Tells (IsLight rest)
  tells rest = record {
    results_kept = λ server id status value client world s. freely rest client (item.Result id status value) (add_line (line.Result server id status value) world) refl refl (quietly rest (line.Result server id status value) world refl s);
    notes_kept = λ server id change world same unmoved s. same_lines rest world (change_goals server (change_first (has_id id) change) world) s (shapes.basic.goals_kept server (change_first (has_id id) change) world (ids_changed id change same) s.shape) refl refl;
  }

  said : (rest : List Ready) (server : EntityNo) (goal : Option GoalRecord) (world : WorldState) → IsLight rest world → IsLight rest (state_said server goal world)
  said rest server None world s = s
  said rest server (Some goal) world s = kept rest world (add_line (line.State server goal.id (status_of goal.state)) world) (line.State server goal.id (status_of goal.state) ∷ []) s s.shape refl refl refl

  -- a callback that runs isn't left
  run_light : (one : Ready) (rest : List Ready) (world : WorldState) → cause_sent (routes_of plan.graph) one.entity one.cause ≡ true → IsLight (one ∷ rest) world → IsLight rest (run one world)
  run_light one rest world well s =
      run_keeps {P = IsLight (one ∷ rest)} {Q = IsLight rest} (moves (one ∷ rest)) one (λ before none q. lighter before q)
      (λ request how before same room q.
      kept (one ∷ rest) before (accept one.entity one.moment how request before) (accepted_lines one.entity request.id how) q (shapes.accepts_kept one.entity one.moment how request before room q.shape) refl refl (accepted_lossless one.entity request.id how))
      (ends_told (moves (one ∷ rest)) (tells (one ∷ rest)) one (λ id goal canceling by value reached before same leads q.
      said (one ∷ rest) one.entity (goal_at one.entity id (with_ended one.entity id by value one.moment before)) (with_ended one.entity id by value one.moment before)
      (same_lines (one ∷ rest) before (with_ended one.entity id by value one.moment before) q (shapes.basic.goals_kept one.entity (change_first (has_id id) (after_end by value one.moment)) before (ids_changed id (after_end by value one.moment) (λ goal. refl)) q.shape) refl refl)))
      (asks_told {Q = IsLight rest} (moves (one ∷ rest)) (tells (one ∷ rest)) one lighter)
      (λ entity new before a q. answered one rest well entity new before a q) world (quietly (one ∷ rest) (run_line one) world refl s)
    where
      lighter : (before : WorldState) → IsLight (one ∷ rest) before → IsLight rest before
      lighter before q = record { shape = q.shape; kinds = q.kinds; addressed = q.addressed; light = λ channel. let was = q.light channel in omega (arith, was); lossless = q.lossless }

  run_all_light : (list : List Ready) (world : WorldState) → AllByRecursion (λ one. cause_sent (routes_of plan.graph) one.entity one.cause ≡ true) list → IsLight list world → IsLight [] (run_all list world)
  run_all_light [] world p s = s
  run_all_light (one ∷ list) world p s = run_all_light list (run one world) p.1 (run_light one list world p.0 s)

-- ---- the ready list

count_filter : (test : Ready → Bool) (list : List Ready) → count test list ≡ length (filter test list)
count_filter test [] = refl
count_filter test (one ∷ list) = by (test one) refl (count_filter test list)
  where
    by : (b : Bool) → test one ≡ b → count test list ≡ length (filter test list) → count test (one ∷ list) ≡ length (filter test (one ∷ list))
    by true e rest = rw e (omega (arith, rest))
    by false e rest = rw e (omega (arith, rest))

count_append : (test : Ready → Bool) (some more : List Ready) → count test (some ++ more) ≡ count test some + count test more
count_append test [] more = omega arith
count_append test (one ∷ some) more = let rest = count_append test some more in omega (arith, rest)

count_none : (test : Ready → Bool) (list : List Ready) → AllByRecursion (λ one. test one ≡ false) list → count test list ≡ 0
count_none test [] p = refl
count_none test (one ∷ list) p = let rest = count_none test list p.1 in let none : weigh (test one) 1 ≡ 0 = ap (λ (b : Bool). weigh b 1) p.0 in omega (arith, rest, none)

-- responses that wait for a server's clients
module _ (routes : Routes) (server : EntityNo) where
  count_placed : (position : ℕ) (list : List Ready) → count (sends_to routes (asks server)) (placed_from position list) ≡ count (sends_to routes (asks server)) list
  count_placed position [] = refl
  count_placed position (one ∷ list) = ap (λ (n : ℕ). weigh (sends_to routes (asks server) one) 1 + n) (count_placed (suc position) list)

  others : (entity : EntityNo) (of : Kind) → ready_number of == ready_number kind.Response ≡ false → (list : List Ready) → AllByRecursion (IsOf entity of) list → AllByRecursion (λ one. sends_to routes (asks server) one ≡ false) list
  others entity of differs list p = all_weaker (IsOf entity of) (λ one. sends_to routes (asks server) one ≡ false) (λ one is. rw (ap (λ (k : Kind). ready_number k == ready_number kind.Response) is.0 ∙ differs) refl) list p

  first_weighs : (entity : EntityNo) (first : Item) (n : ℕ) → weigh ((ready_number (taker_of first) == ready_number kind.Response) && routes.server entity server) 1 ≤ weigh (takes routes (responses server) entity (taker_of first)) (suc n)
  first_weighs entity (item.Message value) n = omega arith
  first_weighs entity (item.Request client number value) n = omega arith
  first_weighs entity (item.Reply number value) n = omega arith
  first_weighs entity (item.Goal id client value) n = omega arith
  first_weighs entity (item.Cancel request client) n = omega arith
  first_weighs entity (item.Ask id client) n = omega arith
  first_weighs entity (item.Response id accepted) n = by (routes.server entity server)
    where
      by : (b : Bool) → weigh b 1 ≤ weigh b (suc n)
      by true = omega arith
      by false = omega arith
  first_weighs entity (item.Code returned moved) n = omega arith
  first_weighs entity (item.Feedback id value) n = omega arith
  first_weighs entity (item.Result id status value) n = omega arith

  queue_weighs : (moment : Moment) (world : WorldState) (queue : Queue) → IsOfItsKind queue → count (sends_to routes (asks server)) (queue_ready moment world queue) ≤ weigh (takes routes (responses server) queue.handler.entity queue.kind) (length queue.items)
  queue_weighs moment world queue p = by queue.items (recursion_from_All (λ one. taker_of one ≡ queue.kind) queue.items p)
    where
      by : (items : List Item) → AllByRecursion (λ one. taker_of one ≡ queue.kind) items → count (sends_to routes (asks server)) (item_ready moment queue.handler (goals_at queue.handler.entity world) items) ≤ weigh (takes routes (responses server) queue.handler.entity queue.kind) (length items)
      by [] q = omega arith
      by (first ∷ items) q =
          let weighs = first_weighs queue.handler.entity first (length items) in
          let same : weigh (takes routes (responses server) queue.handler.entity (taker_of first)) (suc (length items)) ≡ weigh (takes routes (responses server) queue.handler.entity queue.kind) (suc (length items)) = ap (λ (k : Kind). weigh (takes routes (responses server) queue.handler.entity k) (suc (length items))) q.0 in
          omega (arith, weighs, same)

  queues_weigh : (moment : Moment) (world : WorldState) (queues : List Queue) → AllByRecursion IsOfItsKind queues → count (sends_to routes (asks server)) (flat_map (queue_ready moment world) queues) ≤ total routes (responses server) queues
  queues_weigh moment world [] p = omega arith
  queues_weigh moment world (queue ∷ queues) p =
      let joined = count_append (sends_to routes (asks server)) (queue_ready moment world queue) (flat_map (queue_ready moment world) queues) in
      let first = queue_weighs moment world queue p.0 in
      let rest = queues_weigh moment world queues p.1 in
      omega (arith, joined, first, rest)

  list_weighs : (moment : Moment) (world : WorldState) → AreOfTheirKinds world → count (sends_to routes (asks server)) (ready_list moment world) ≤ total routes (responses server) world.queues
  list_weighs moment world p =
      let test : Ready → Bool = sends_to routes (asks server) in
      let timers : List Ready = flat_map (due_ready moment) world.timers in
      let took : List Ready = flat_map (queue_ready moment world) world.queues in
      let polls : List Ready = flat_map (poll_ready moment) world.servers in
      let placed = count_placed 1 (sorted_by (rank_under world.order world) (all_ready moment world)) in
      let sorted = sum_sorted (λ one. weigh (test one) 1) (count test) (λ one list. refl) (rank_under world.order world) (all_ready moment world) in
      let a = count_append test (timers ++ took) polls in
      let b = count_append test timers took in
      let none_due = count_none test timers (all_flat (λ one. test one ≡ false) (due_ready moment) (λ entry. others entry.handler.entity kind.Timer refl (due_ready moment entry) (due_of moment entry)) world.timers) in
      let none_polled = count_none test polls (all_flat (λ one. test one ≡ false) (poll_ready moment) (λ entry. others entry.handler.entity kind.Poll refl (poll_ready moment entry) (poll_of moment entry)) world.servers) in
      let all = queues_weigh moment world world.queues p in
      omega (arith, placed, sorted, a, b, none_due, none_polled, all)

-- what takes an item takes one that may be sent to its entity
module _ (routes : Routes) (moment : Moment) (world : WorldState) where
  abbrev Well : Ready → Type 0
  Well one = cause_sent routes one.entity one.cause ≡ true

  well_due : (entry : TimerEntry) → AllByRecursion Well (due_ready moment entry)
  well_due entry = by (is_due entry.timer moment) refl
    where
      by : (b : Bool) → is_due entry.timer moment ≡ b → AllByRecursion Well (due_ready moment entry)
      by true e = rw e (refl, tt)
      by false e = rw e tt

  well_taken : (queue : Queue) → IsAddressed routes queue → AllByRecursion Well (queue_ready moment world queue)
  well_taken queue p = by queue.items p
    where
      by : (items : List Item) → AllByRecursion (λ one. is_sent_well routes queue.handler.entity one ≡ true) items → AllByRecursion Well (item_ready moment queue.handler (goals_at queue.handler.entity world) items)
      by [] q = tt
      by (first ∷ items) q = (q.0, tt)

  list_well : AllByRecursion (IsAddressed routes) world.queues → AllByRecursion Well (ready_list moment world)
  list_well p =
      all_listed Well (λ position one q. q) moment world
      (all_flat Well (due_ready moment) well_due world.timers)
      (all_flat_where (IsAddressed routes) Well (queue_ready moment world) well_taken world.queues p)
      (all_flat Well (poll_ready moment) (λ entry. all_map Well _ (λ goal. refl) _) world.servers)

-- ---- rounds

module _ (plan : PlanData) (deep_first : AllByRecursion (λ queue. 1 ≤ queue.depth) (first_world plan).queues) where
  abbrev Light : List Ready → WorldState → Type 0
  Light rest world = IsLight plan deep_first rest world

  -- one callback at most sends to a channel in a round
  one_sends : (moment : Moment) (world : WorldState) → Light [] world → (channel : Channel) → count (sends_to (routes_of plan.graph) channel) (ready_list moment world) ≤ 1
  one_sends moment world s (replies service) =
      let same = count_filter (is_callback_of service kind.Request) (ready_list moment world) in
      let few = one_at_most service kind.Request (ready_list moment world) (list_apart kind.Request (λ e. absurd cc) plan.graph moment world (wired plan world s.shape) s.kinds) in
      omega (arith, same, few)
  one_sends moment world s (responses server) =
      let same = count_filter (is_callback_of server kind.Goal) (ready_list moment world) in
      let few = one_at_most server kind.Goal (ready_list moment world) (list_apart kind.Goal (λ e. absurd cc) plan.graph moment world (wired plan world s.shape) s.kinds) in
      omega (arith, same, few)
  one_sends moment world s (codes server) =
      let same = count_filter (is_callback_of server kind.Cancel) (ready_list moment world) in
      let few = one_at_most server kind.Cancel (ready_list moment world) (list_apart kind.Cancel (λ e. absurd cc) plan.graph moment world (wired plan world s.shape) s.kinds) in
      omega (arith, same, few)
  one_sends moment world s (asks server) =
      let few = list_weighs (routes_of plan.graph) server moment world s.kinds in
      let was = s.light (responses server) in
      omega (arith, few, was)

  taken_light : (moment : Moment) (world : WorldState) → Light [] world → Light (ready_list moment world) (take_inputs moment world)
  taken_light moment world s = record {
    shape = (shape_kept (shape_of (first_world plan))).snapshot_kept moment world s.shape;
    kinds = kinds_kept.snapshot_kept moment world s.kinds;
    addressed = addressed_taken (routes_of plan.graph) world.queues s.addressed;
    light = λ channel.
        let was = s.light channel in
        let none = total_taken (routes_of plan.graph) channel world.queues (omega (arith, was)) in
        let few = one_sends moment world s channel in
        omega (arith, none, few);
    lossless = s.lossless;
  }

  snapshot_light : (number : ℕ) (moment : Moment) (world : WorldState) → Light [] world → Light [] (at_snapshot plan number moment world)
  snapshot_light number moment world s =
      let begun : WorldState = add_line (line.Round number moment) world in
      let first : Light [] begun = kept plan deep_first [] world begun (line.Round number moment ∷ []) s s.shape refl refl refl in
      feed_keeps (moves plan deep_first []) (publish_kept {P = Light []} (λ entity value before q. freely plan deep_first [] entity (item.Message value) before refl refl q)) (fed_in number plan.feed) (expire moment begun)
      (kept plan deep_first [] begun (expire moment begun) (flat_map (expire_lines moment) begun.servers) first ((shape_kept (shape_of (first_world plan))).expiry_kept moment begun first.shape) refl refl (expiry_lossless moment begun.servers))

  rounds_light : (number : ℕ) (moments : List Moment) (world : WorldState) → Light [] world → Light [] (rounds plan number moments world)
  rounds_light number [] world s = s
  rounds_light number (moment ∷ moments) world s =
      let before : WorldState = at_snapshot plan number moment world in
      let taken : Light [] before = snapshot_light number moment world s in
      rounds_light (suc number) moments (round plan number moment world)
      (run_all_light plan deep_first (ready_list moment before) (take_inputs moment before) (list_well (routes_of plan.graph) moment before taken.addressed) (taken_light moment before taken))

  total_first : (channel : Channel) (waitables : List Waitable) → total (routes_of plan.graph) channel (map (new_queue plan.order plan.graph) waitables) ≡ 0
  total_first channel [] = refl
  total_first channel (waitable ∷ waitables) = by (takes (routes_of plan.graph) channel waitable.entity waitable.kind) (total_first channel waitables)
    where
      by : (b : Bool) → total (routes_of plan.graph) channel (map (new_queue plan.order plan.graph) waitables) ≡ 0 → weigh b 0 + total (routes_of plan.graph) channel (map (new_queue plan.order plan.graph) waitables) ≡ 0
      by true rest = omega (arith, rest)
      by false rest = omega (arith, rest)

  first_light : Light [] (first_world plan)
  first_light = record {
    shape = refl;
    kinds = kinds_first plan.order plan.graph (filter (λ waitable. takes_from_queue waitable.kind) (wait_set plan.graph));
    addressed = addressed_first (routes_of plan.graph) plan.order plan.graph (filter (λ waitable. takes_from_queue waitable.kind) (wait_set plan.graph));
    light = λ channel. let none = total_first channel (filter (λ waitable. takes_from_queue waitable.kind) (wait_set plan.graph)) in omega (arith, none);
    lossless = refl;
  }

  pub none_displaced : list_any is_loss (lines_of plan) ≡ false
  none_displaced =
      let last : WorldState = rounds plan 1 plan.moments (first_world plan) in
      lossless_more last.lines (closing_lines (length plan.moments) last) (rounds_light 1 plan.moments (first_world plan) first_light).lossless
      (lossless_more (flat_map (λ entry. pending_by entry.entity (length entry.pending)) last.clients) (line.End (length plan.moments) ∷ []) (clients_lossless last.clients) refl)
