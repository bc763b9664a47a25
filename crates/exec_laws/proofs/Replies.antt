-- Through rounds, each call of a client is answered once, or pending.
use Rattle.std.proofs.Common.{◌≡◌, ℕ, zero, suc, ℤ, ◌≤◌, Bool, true, false, ◌&&◌, ◌==◌, if◌then◌else◌, List, [], ◌∷◌, ◌++◌, length, map, Option, None, Some, refl, sym, ap, subst, ◌∙◌, append_assoc, arith}
use Rattle.std.specs.List.{AllByRecursion, filter, flat_map}
use Rattle.std.specs.List.Sorted.{IsPermutation}
use Rattle.std.specs.Option.{option_map_or}
use Rattle.std.proofs.lemmas.Bool.{eqb-true}
use Rattle.std.proofs.lemmas.Grind.{flat_map-append}
use Rattle.std.proofs.lemmas.List.{append-nil, map-append}
use Rattle.std.proofs.lemmas.List.Sorted.{IsPermutation-append_right, IsPermutation-refl, IsPermutation-trans}
use Rattle.exec_goal.specs.Cancel.{moved}
use Rattle.exec_goal.specs.State.{status_of}
use Rattle.exec_goal.specs.Table.{GoalRecord, after_event, expired}
use Rattle.exec_msg.specs.Numbers.{EntityNo, Moment}
use Rattle.exec_plan.specs.Feeding.{fed_in}
use Rattle.exec_plan.specs.Graph.{GraphData, Waitable, entities_where, is_client, wait_set}
use Rattle.exec_plan.specs.Plan.{PlanData}
use Rattle.exec_msg.specs.declared.goal.Acceptance.{Acceptance}
use Rattle.exec_msg.specs.declared.goal.Acceptance.TheVariants as acceptance
use Rattle.exec_msg.specs.declared.goal.Event.TheVariants as event
use Rattle.exec_msg.specs.declared.line.Line.{Line}
use Rattle.exec_msg.specs.declared.line.Line.TheVariants as line
use Rattle.exec_laws.proofs.Called.{among, calls_in, pending_in, numbers_first, number_by, number_in, IsReplied, all_replied, list_numbers, of_request, of_reply, weight, numbers_few}
use Rattle.exec_laws.proofs.Channels.{weigh}
use Rattle.exec_laws.proofs.Flying.{flying, flying_taken, firsts, firsts_both, hand_by, hands, list_hands}
use Rattle.exec_laws.proofs.Gathered.{flat_more}
use Rattle.exec_rules.proofs.Keeping.{Moves, Tells, publish_kept, feed_keeps, state_said, anywhere}
use Rattle.exec_rules.proofs.OfKinds.{kinds_kept, kinds_first}
use Rattle.exec_rules.proofs.Pairs.{all_append, all_flat, all_map}
use Rattle.exec_laws.proofs.Pends.{IsMute, KeepsIn, all_plain, more_lines, sent, sent_freely, called}
use Rattle.exec_rules.proofs.Running.{Answers, ends_told, asks_told, found_test, round_keeps, run_keeps, snapshot_keeps}
use Rattle.exec_rules.proofs.Shapes.{shape_kept}
use Rattle.exec_rules.proofs.Wiring.{IsWired, wired}
use Rattle.exec_rules.specs.Close.{accepted_lines, moved_lines, with_ended, goal_at}
use Rattle.exec_laws.specs.Exchanges.{AreAnswered, call_at, reply_at, numbers_to}
use Rattle.exec_rules.specs.Item.{as_value}
use Rattle.exec_rules.specs.Ready.{ready_list, run_line, line_of, input_of, take_inputs}
use Rattle.exec_rules.specs.Shape.{shape_of}
use Rattle.exec_rules.specs.Run.{run}
use Rattle.exec_rules.specs.Transcript.{takes_from_queue, first_world, new_client, new_queue, expire_lines, expire, at_snapshot, run_all, round, rounds, pending_by, closing_lines, last_world, lines_of}
use Rattle.exec_rules.specs.World.{WorldState, ClientEntry, add_line, client_at, is_client_at, goals_at, records_of}
use Rattle.exec_rules.specs.declared.item.Item.{Item}
use Rattle.exec_rules.specs.declared.item.Item.TheVariants as item
use Rattle.exec_rules.specs.declared.ready.Cause.{Cause}
use Rattle.exec_rules.specs.declared.ready.Cause.TheVariants as cause
use Rattle.exec_rules.specs.declared.ready.Ready.{Ready}

module _ (client : EntityNo) where
  -- ---- callbacks

  moved_mute : (server : EntityNo) (goals : List GoalRecord) (more : List Line) → AllByRecursion (IsMute client) more → AllByRecursion (IsMute client) (moved_lines server goals ++ more)
  moved_mute server [] more p = p
  moved_mute server (goal ∷ goals) more p = ((refl, refl), moved_mute server goals more p)

  accepted_mute : (server id : ℕ) (how : Acceptance) → AllByRecursion (IsMute client) (accepted_lines server id how)
  accepted_mute server id acceptance.Execute = ((refl, refl), ((refl, refl), tt))
  accepted_mute server id acceptance.Defer = ((refl, refl), tt)

  moves : (hand : List ℕ) (owed : ℕ → ℕ) → Moves anywhere (KeepsIn client hand owed)
  moves hand owed = record {
    lines_kept = λ lines world quiet k. more_lines client hand owed world.queues world.clients world.lines lines (all_plain client lines quiet.1.1) k;
    pushes_kept = λ entity new world well free message request result k. sent_freely client hand owed entity new world free request k;
    publications_kept = λ topic value world k. publish_kept {P = KeepsIn client hand owed} (λ entity one before q. sent_freely client hand owed entity (item.Message one) before refl refl q) topic value (add_line (line.Pub topic value) world) (more_lines client hand owed world.queues world.clients world.lines (line.Pub topic value ∷ []) ((refl, refl), tt) k);
    calls_kept = called client hand owed;
    action_clients_known = λ number from world found k. refl;
    execution_kept = λ server goal world found k. more_lines client hand owed world.queues world.clients world.lines (line.State server goal.id (status_of (after_event event.Execute goal).state) ∷ []) ((refl, refl), tt) k;
    answer_kept = λ server decisions returned count world k. more_lines client hand owed world.queues world.clients world.lines (moved_lines server (moved decisions (goals_at server world)) ++ line.Code server returned count ∷ []) (moved_mute server (moved decisions (goals_at server world)) (line.Code server returned count ∷ []) ((refl, refl), tt)) k;
    tasks_kept = λ server id task world k. k;
    arrivals_kept = λ server id world k. k;
    sending_kept = λ from world k. k;
    variables_kept = λ group variables world k. k;
  }

  tells : (hand : List ℕ) (owed : ℕ → ℕ) → Tells (KeepsIn client hand owed)
  tells hand owed = record {
    results_kept = λ server id status value asker world k.
        sent_freely client hand owed asker (item.Result id status value) (add_line (line.Result server id status value) world) refl refl
        (more_lines client hand owed world.queues world.clients world.lines (line.Result server id status value ∷ []) ((refl, refl), tt) k);
    notes_kept = λ server id change world named unmoved k. k;
  }

  said_on : (hand : List ℕ) (owed : ℕ → ℕ) (server : EntityNo) (goal : Option GoalRecord) (world : WorldState) → KeepsIn client hand owed world → KeepsIn client hand owed (state_said server goal world)
  said_on hand owed server None world k = k
  said_on hand owed server (Some goal) world k = more_lines client hand owed world.queues world.clients world.lines (line.State server goal.id (status_of goal.state) ∷ []) ((refl, refl), tt) k

  -- a callback's line says the reply that it had in hand
  reply_said : (one : Ready) (why : Cause) → reply_at client (line_of one.entity why (input_of (record one { cause = why }))) ≡ map as_value (number_by client one.entity why)
  reply_said one cause.Due = refl
  reply_said one (cause.Took (item.Message value)) = refl
  reply_said one (cause.Took (item.Request from number value)) = refl
  reply_said one (cause.Took (item.Reply number value)) = by (one.entity == client) refl
    where
      by : (b : Bool) → one.entity == client ≡ b → (if one.entity == client then as_value number ∷ [] else []) ≡ map as_value (if one.entity == client then number ∷ [] else [])
      by true e = rw e refl
      by false e = rw e refl
  reply_said one (cause.Took (item.Goal id from value)) = refl
  reply_said one (cause.Took (item.Cancel request from)) = refl
  reply_said one (cause.Took (item.Ask id from)) = refl
  reply_said one (cause.Took (item.Response id accepted)) = refl
  reply_said one (cause.Took (item.Code returned count)) = refl
  reply_said one (cause.Took (item.Feedback id value)) = refl
  reply_said one (cause.Took (item.Result id status value)) = refl
  reply_said one (cause.Woke id value canceling) = refl

  begun : (hand : List ℕ) (owed : ℕ → ℕ) (one : Ready) (world : WorldState) → KeepsIn client (number_in client one ++ hand) owed world → KeepsIn client hand owed (add_line (run_line one) world)
  begun hand owed one world k = record {
    kinds = k.kinds;
    answered = k.answered;
    made = flat_more (call_at client) world.lines (run_line one ∷ []) (refl, tt) ∙ k.made;
    replies =
        ap (λ (some : List ℤ). some ++ map as_value hand) (flat_map-append (reply_at client) world.lines (run_line one ∷ []) ∙ ap (λ (some : List ℤ). flat_map (reply_at client) world.lines ++ some) (append-nil (reply_at client (run_line one)) ∙ reply_said one one.cause))
        ∙ append_assoc (flat_map (reply_at client) world.lines) (map as_value (number_in client one)) (map as_value hand)
        ∙ ap (λ (some : List ℤ). flat_map (reply_at client) world.lines ++ some) (sym (map-append as_value (number_in client one) hand)) ∙ k.replies;
    each = k.each;
    flies = k.flies;
  }

  lighter : (hand : List ℕ) (owed less : ℕ → ℕ) (world : WorldState) → ((n : ℕ) → less n ≤ owed n) → KeepsIn client hand owed world → KeepsIn client hand less world
  lighter hand owed less world few k = record {
    kinds = k.kinds;
    answered = k.answered;
    made = k.made;
    replies = k.replies;
    each = k.each;
    flies = λ n. let was = k.flies n in let less_now = few n in omega (arith, was, less_now);
  }

  -- an answer weighs no more than the request that it answers
  answer_weighs : (one : Ready) (entity : EntityNo) (new : Item) → Answers anywhere one entity new → (n : ℕ) → weight client n entity new ≤ hand_by (of_request client n) one.entity one.cause
  answer_weighs one entity (item.Message value) a n = absurd a
  answer_weighs one entity (item.Request from number value) a n = absurd a
  answer_weighs one entity (item.Reply number value) a n =
      let same : hand_by (of_request client n) one.entity one.cause ≡ weigh ((entity == client) && (number == n)) 1 = ap (λ (why : Cause). hand_by (of_request client n) one.entity why) a.1 in
      omega (arith, same)
  answer_weighs one entity (item.Goal id from value) a n = absurd a
  answer_weighs one entity (item.Cancel request from) a n = absurd a
  answer_weighs one entity (item.Ask id from) a n = omega arith
  answer_weighs one entity (item.Response id accepted) a n = omega arith
  answer_weighs one entity (item.Code returned count) a n = omega arith
  answer_weighs one entity (item.Feedback id value) a n = absurd a
  answer_weighs one entity (item.Result id status value) a n = absurd a

  run_keeps_calls : (hand : List ℕ) (one : Ready) (rest : List Ready) (world : WorldState) → KeepsIn client (number_in client one ++ hand) (λ n. hands (of_request client n) (one ∷ rest)) world → KeepsIn client hand (λ n. hands (of_request client n) rest) (run one world)
  run_keeps_calls hand one rest world k =
      let owed : ℕ → ℕ = λ n. hands (of_request client n) (one ∷ rest) in
      let less : ℕ → ℕ = λ n. hands (of_request client n) rest in
      let weaker : (before : WorldState) → KeepsIn client hand (λ n. hands (of_request client n) (one ∷ rest)) before → KeepsIn client hand (λ n. hands (of_request client n) rest) before = λ before q. lighter hand owed less before (λ n. omega arith) q in
      run_keeps {P = KeepsIn client hand (λ n. hands (of_request client n) (one ∷ rest))} {Q = KeepsIn client hand (λ n. hands (of_request client n) rest)} (moves hand owed) one
      (λ before none q. weaker before q)
      (λ request how before at room q. more_lines client hand owed before.queues before.clients before.lines (accepted_lines one.entity request.id how) (accepted_mute one.entity request.id how) q)
      (ends_told (moves hand owed) (tells hand owed) one (λ id goal canceling by value reached before at leads q.
      said_on hand owed one.entity (goal_at one.entity id (with_ended one.entity id by value one.moment before)) (with_ended one.entity id by value one.moment before) q))
      (asks_told (moves hand owed) (tells hand owed) one weaker)
      (λ entity new before a q. sent client hand owed less entity new before (λ n. let few = answer_weighs one entity new a n in omega (arith, few)) q)
      world (begun hand owed one world k)

  all_run : (list : List Ready) (world : WorldState) → KeepsIn client (flat_map (number_in client) list) (λ n. hands (of_request client n) list) world → KeepsIn client [] (λ n. 0) (run_all list world)
  all_run [] world k = k
  all_run (one ∷ list) world k = all_run list (run one world) (run_keeps_calls (flat_map (number_in client) list) one list world k)

  -- ---- rounds

  snapshot_keeps_calls : (plan : PlanData) (number : ℕ) (moment : Moment) (world : WorldState) → KeepsIn client [] (λ n. 0) world → KeepsIn client [] (λ n. 0) (at_snapshot plan number moment world)
  snapshot_keeps_calls plan number moment world k =
      let started : WorldState = add_line (line.Round number moment) world in
      feed_keeps (moves [] (λ n. 0)) (publish_kept {P = KeepsIn client [] (λ n. 0)} (λ entity value before q. sent_freely client [] (λ n. 0) entity (item.Message value) before refl refl q)) (fed_in number plan.feed) (expire moment started)
      (more_lines client [] (λ n. 0) started.queues started.clients started.lines (flat_map (expire_lines moment) started.servers)
      (all_flat (IsMute client) (expire_lines moment) (λ entry. all_map (IsMute client) _ (λ goal. (refl, refl)) (expired moment entry.timeout (records_of entry.held))) started.servers)
      (more_lines client [] (λ n. 0) world.queues world.clients world.lines (line.Round number moment ∷ []) ((refl, refl), tt) k))

  taken_keeps : (graph : GraphData) (moment : Moment) (world : WorldState) → IsWired graph world → KeepsIn client [] (λ n. 0) world → KeepsIn client (flat_map (number_in client) (ready_list moment world)) (λ n. hands (of_request client n) (ready_list moment world)) (take_inputs moment world)
  taken_keeps graph moment world wires k =
      let numbers : List ℕ = numbers_first client world.queues in
      let few : (n : ℕ) → among n (numbers_first client world.queues) ≤ firsts (of_reply client n) world.queues = λ n. numbers_few client n world.queues in
      let replied : IsReplied client (numbers_first client world.queues) world.clients (take_inputs moment world).clients =
      all_replied client world.queues world.clients (λ n. let a = few n in let b = flying_taken (weight client n) world.queues in let c = k.flies n in let d = firsts_both (of_request client n) (of_reply client n) world.queues in omega (arith, a, b, c, d)) in
      subst (λ (some : List ℕ). KeepsIn client some (λ n. hands (of_request client n) (ready_list moment world)) (take_inputs moment world)) (sym (list_numbers client moment world graph wires k.kinds))
      (record {
        kinds = kinds_kept.snapshot_kept moment world k.kinds;
        answered = k.answered ++ numbers;
        made = k.made ∙ ap (λ (m : ℕ). numbers_to m) (sym replied.calls);
        replies = ap (λ (some : List ℤ). some ++ map as_value numbers) (sym (append-nil (flat_map (reply_at client) world.lines)) ∙ k.replies) ∙ sym (map-append as_value k.answered numbers);
        each =
            subst (λ (m : ℕ). IsPermutation (numbers_to m) ((k.answered ++ numbers) ++ pending_in client (take_inputs moment world).clients)) (sym replied.calls)
            (subst (λ (some : List ℕ). IsPermutation (numbers_to (calls_in client world.clients)) some) (sym (append_assoc k.answered numbers (pending_in client (take_inputs moment world).clients)))
            (IsPermutation-trans (numbers_to (calls_in client world.clients)) (k.answered ++ pending_in client world.clients) (k.answered ++ (numbers ++ pending_in client (take_inputs moment world).clients)) k.each
            (IsPermutation-append_right k.answered (pending_in client world.clients) (numbers ++ pending_in client (take_inputs moment world).clients) replied.order)));
        flies = λ n.
            let a = few n in
            let b = flying_taken (weight client n) world.queues in
            let c = k.flies n in
            let d = replied.counts n in
            let e = list_hands (of_request client n) moment world in
            let f = firsts_both (of_request client n) (of_reply client n) world.queues in
            omega (arith, a, b, c, d, e, f);
      })

  rounds_keep_calls : (plan : PlanData) (number : ℕ) (moments : List Moment) (world : WorldState) → shape_of world ≡ shape_of (first_world plan) → KeepsIn client [] (λ n. 0) world → KeepsIn client [] (λ n. 0) (rounds plan number moments world)
  rounds_keep_calls plan number [] world same k = k
  rounds_keep_calls plan number (moment ∷ moments) world same k =
      let before : WorldState = at_snapshot plan number moment world in
      let wires : IsWired plan.graph before = wired plan before (snapshot_keeps (shape_kept (shape_of (first_world plan))) plan number moment world same) in
      rounds_keep_calls plan (suc number) moments (round plan number moment world) (round_keeps (shape_kept (shape_of (first_world plan))) plan number moment world same)
      (all_run (ready_list moment before) (take_inputs moment before) (taken_keeps plan.graph moment before wires (snapshot_keeps_calls plan number moment world k)))

  -- ---- the first world, and the last

  module _ (plan : PlanData) where
    no_calls : (numbers : List EntityNo) → calls_in client (map (new_client plan.graph) numbers) ≡ 0
    no_calls [] = refl
    no_calls (number ∷ numbers) = by (number == client) refl (no_calls numbers)
      where
        by : (b : Bool) → number == client ≡ b → calls_in client (map (new_client plan.graph) numbers) ≡ 0 → calls_in client (map (new_client plan.graph) (number ∷ numbers)) ≡ 0
        by true e rest = rw e refl
        by false e rest = rw e rest

    none_pending : (numbers : List EntityNo) → pending_in client (map (new_client plan.graph) numbers) ≡ []
    none_pending [] = refl
    none_pending (number ∷ numbers) = by (number == client) refl (none_pending numbers)
      where
        by : (b : Bool) → number == client ≡ b → pending_in client (map (new_client plan.graph) numbers) ≡ [] → pending_in client (map (new_client plan.graph) (number ∷ numbers)) ≡ []
        by true e rest = rw e refl
        by false e rest = rw e rest

    none_flying : (n : ℕ) (waitables : List Waitable) → flying (weight client n) (map (new_queue plan.order plan.graph) waitables) ≡ 0
    none_flying n [] = refl
    none_flying n (waitable ∷ waitables) = let rest = none_flying n waitables in omega (arith, rest)

    first_keeps : KeepsIn client [] (λ n. 0) (first_world plan)
    first_keeps =
        let calls = no_calls (entities_where is_client plan.graph) in
        let pends = none_pending (entities_where is_client plan.graph) in
        record {
          kinds = kinds_first plan.order plan.graph _;
          answered = [];
          made = ap (λ (m : ℕ). numbers_to m) (sym calls);
          replies = refl;
          each = subst (λ (m : ℕ). IsPermutation (numbers_to m) (pending_in client (first_world plan).clients)) (sym calls) (subst (λ (some : List ℕ). IsPermutation [] some) (sym pends) (IsPermutation-refl []));
          flies = λ n. let none = none_flying n (filter (λ waitable. takes_from_queue waitable.kind) (wait_set plan.graph)) in omega (arith, none);
        }

  pending_mute : (other count : ℕ) → AllByRecursion (IsMute client) (pending_by other count)
  pending_mute other zero = tt
  pending_mute other (suc more) = ((refl, refl), tt)

  last_keeps : (plan : PlanData) → KeepsIn client [] (λ n. 0) (last_world plan)
  last_keeps plan =
      let last : WorldState = rounds plan 1 plan.moments (first_world plan) in
      more_lines client [] (λ n. 0) last.queues last.clients last.lines (closing_lines (length plan.moments) last)
      (all_append (IsMute client) (flat_map (λ entry. pending_by entry.entity (length entry.pending)) last.clients) (line.End (length plan.moments) ∷ [])
      (all_flat (IsMute client) (λ entry. pending_by entry.entity (length entry.pending)) (λ entry. pending_mute entry.entity (length entry.pending)) last.clients) ((refl, refl), tt))
      (rounds_keep_calls plan 1 plan.moments (first_world plan) refl (first_keeps plan))

pub all_answered : (plan : PlanData) (number : EntityNo) (client : ClientEntry) → client_at number (last_world plan) ≡ Some client → AreAnswered client (lines_of plan)
all_answered plan number client found =
    let named : client.entity ≡ number = eqb-true client.entity number (found_test (is_client_at number) (last_world plan).clients client found) in
    let here : client_at client.entity (last_world plan) ≡ Some client = ap (λ (at : EntityNo). client_at at (last_world plan)) named ∙ found in
    let calls : calls_in client.entity (last_world plan).clients ≡ client.calls = ap (λ (o : Option ClientEntry). option_map_or (λ (entry : ClientEntry). entry.calls) o 0) here in
    let pends : pending_in client.entity (last_world plan).clients ≡ client.pending = ap (λ (o : Option ClientEntry). option_map_or (λ (entry : ClientEntry). entry.pending) o []) here in
    let k = last_keeps client.entity plan in
    record {
      answered = k.answered;
      made = k.made ∙ ap (λ (m : ℕ). numbers_to m) calls;
      replies = sym (append-nil (flat_map (reply_at client.entity) (lines_of plan))) ∙ k.replies;
      each = subst (λ (m : ℕ). IsPermutation (numbers_to m) (k.answered ++ client.pending)) calls (subst (λ (some : List ℕ). IsPermutation (numbers_to (calls_in client.entity (last_world plan).clients)) (k.answered ++ some)) pends k.each);
    }
