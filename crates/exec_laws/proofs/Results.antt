-- Through rounds, each ask that a server takes is answered with one result, or waits for its goal to end.
use Rattle.std.proofs.Common.{◌≡◌, inr, ℕ, zero, suc, ℤ, pos, ◌+◌, Bool, true, false, not, ◌==◌, List, [], ◌∷◌, length, Option, None, Some, refl, sym, ap, subst, ◌∙◌, arith}
use Rattle.std.specs.List.{AllByRecursion, filter, find, flat_map}
use Rattle.std.specs.Option.{unwrap_or}
use Rattle.std.proofs.lemmas.Bool.{eqb-true}
use Rattle.exec_goal.specs.Calls.{end_state, where_terminal}
use Rattle.exec_goal.specs.State.{after, is_terminal, status_of}
use Rattle.exec_goal.specs.Table.{GoalRecord, Asked, told, later, unknown, has_id, moved_by, after_end, new_goal, asked_for, asked_by, is_expired, expired}
use Rattle.exec_goal.specs.declared.state.State.{State}
use Rattle.exec_goal.specs.declared.state.State.TheVariants as state
use Rattle.exec_msg.specs.Numbers.{EntityNo, GoalId, Moment}
use Rattle.exec_plan.specs.Feeding.{fed_in}
use Rattle.exec_plan.specs.Graph.{entities_where, is_server}
use Rattle.exec_plan.specs.Plan.{PlanData}
use Rattle.exec_msg.specs.Lists.{change_first}
use Rattle.exec_msg.specs.declared.goal.Acceptance.{Acceptance}
use Rattle.exec_msg.specs.declared.goal.Event.{Event}
use Rattle.exec_msg.specs.declared.goal.GoalStatus.TheVariants as status
use Rattle.exec_msg.specs.declared.line.Line.TheVariants as line
use Rattle.exec_laws.proofs.Asked.{many, many_more, one_line, IsOther, Balanced, Owes, lines_owe, push_owes, others_balanced, waiting_apart, accepted_waits, kept_waits, served, same_wait, accepted_other, owes_moves, concerns, told_owes, all_told, noted, comes_later}
use Rattle.exec_laws.proofs.Channels.{weigh}
use Rattle.exec_rules.proofs.Identifiers.{HasDistinct, changing, accepting, distinct_kept, first_distinct, first_goals, expired_goals, goals_here, goals_apart}
use Rattle.exec_rules.proofs.Keeping.{ids_changed, publish_kept, tells_kept, feed_keeps, fold_keeps, anywhere}
use Rattle.exec_rules.proofs.Pairs.{all_append, all_flat, all_map}
use Rattle.exec_rules.proofs.Running.{Answers, found_test, run_keeps, takes_ask}
use Rattle.exec_laws.proofs.Views.{ended_found, forgotten_final}
use Rattle.exec_rules.specs.Close.{GoalRequest, accepted_lines, tell_end, answer_ask, with_ended, goal_at, end_in, accept}
use Rattle.exec_laws.specs.Exchanges.{is_ask_taken, is_result_told, waiting_in}
use Rattle.exec_rules.specs.Ready.{ready_list, run_line, line_of, input_of, take_inputs}
use Rattle.exec_rules.specs.Run.{run}
use Rattle.exec_rules.specs.Transcript.{first_world, expire_lines, expire, at_snapshot, round, rounds, pending_by, closing_lines, lines_of, last_world}
use Rattle.exec_rules.specs.World.{WorldState, is_server_at, add_line, goals_at, has_room_for, goals_in, next_arrival, records_of, with_goals}
use Rattle.exec_rules.specs.declared.item.Item.{Item}
use Rattle.exec_rules.specs.declared.item.Item.TheVariants as item
use Rattle.exec_rules.specs.declared.ready.Cause.{Cause}
use Rattle.exec_rules.specs.declared.ready.Cause.TheVariants as cause
use Rattle.exec_rules.specs.declared.ready.Ready.{Ready}

-- ---- ends

-- what an event ends hadn't ended, and has then
active_before : (at : State) (by : Event) (reached : State) → after at by ≡ Some reached → is_terminal at ≡ false
active_before state.Accepted by reached e = refl
active_before state.Executing by reached e = refl
active_before state.Canceling by reached e = refl
active_before state.Succeeded by reached e = absurd cc
active_before state.Canceled by reached e = absurd cc
active_before state.Aborted by reached e = absurd cc

pub ends_active : (at : State) (by : Event) (reached : State) → where_terminal (after at by) ≡ Some reached → (is_terminal at ≡ false) × (is_terminal (moved_by by at) ≡ true)
ends_active at by reached e = from (after at by) refl e
  where
    from : (o : Option State) → after at by ≡ o → where_terminal o ≡ Some reached → (is_terminal at ≡ false) × (is_terminal (moved_by by at) ≡ true)
    from None f g = absurd cc
    from (Some next) f g = (active_before at by next f, ap (λ (o : Option State). is_terminal (unwrap_or o at)) f ∙ final (is_terminal next) refl)
      where
        final : (b : Bool) → is_terminal next ≡ b → is_terminal next ≡ true
        final true h = h
        final false h = let none : None ≡ Some reached = rw h at g in absurd cc

-- those that asked for a goal wait until it ends, and nobody does then
ended_waits : (id : GoalId) (by : Event) (value : ℤ) (moment : Moment) (reached : State) (found : GoalRecord) (goals : List GoalRecord) → end_state id by goals ≡ Some reached → find (has_id id) (change_first (has_id id) (after_end by value moment) goals) ≡ Some found →
    (waiting_in id goals ≡ found.askers) × (waiting_in id (change_first (has_id id) (after_end by value moment) goals) ≡ [])
ended_waits id by value moment reached found [] leads is = absurd cc
ended_waits id by value moment reached found (goal ∷ goals) leads is = where_here (has_id id goal) refl (ended_waits id by value moment reached found goals)
  where
    where_here : (b : Bool) → has_id id goal ≡ b → (end_state id by goals ≡ Some reached → find (has_id id) (change_first (has_id id) (after_end by value moment) goals) ≡ Some found → (waiting_in id goals ≡ found.askers) × (waiting_in id (change_first (has_id id) (after_end by value moment) goals) ≡ [])) →
        (waiting_in id (goal ∷ goals) ≡ found.askers) × (waiting_in id (change_first (has_id id) (after_end by value moment) (goal ∷ goals)) ≡ [])
    where_here true e rest =
        let here : Some (after_end by value moment goal) ≡ Some found = rw (e, e) at is in
        let ends : where_terminal (after goal.state by) ≡ Some reached = rw e at leads in
        let states = ends_active goal.state by reached ends in
        let same : after_end by value moment goal ≡ found = cc in
        (rw (e, states.0) (ap (λ (g : GoalRecord). g.askers) same), rw (e, e, states.1) refl)
    where_here false e rest =
        let behind : end_state id by goals ≡ Some reached = rw e at leads in
        let there : find (has_id id) (change_first (has_id id) (after_end by value moment) goals) ≡ Some found = rw (e, e) at is in
        let both = rest behind there in
        (rw e both.0, rw (e, e) both.1)

-- ---- callbacks

module _ (server : EntityNo) (id : GoalId) where
  abbrev Owing : ℕ → WorldState → Type 0
  Owing owed world = Owes server id owed world

  -- an ask is answered, or its client is noted
  ask_owes : (other : EntityNo) (goal : GoalId) (client : EntityNo) (asked : Asked) (world : WorldState) → asked_for goal (goals_at other world) ≡ asked → Owing (weigh (concerns server id other goal) 1) world → Owing 0 (answer_ask other goal client asked world)
  ask_owes other goal client (told status value) world is p =
      told_owes server id 0 other goal status value client world (subst (λ (n : ℕ). Owing n world) (omega arith) p)
  ask_owes other goal client unknown world is p =
      told_owes server id 0 other goal status.Unknown (pos 0) client world (subst (λ (n : ℕ). Owing n world) (omega arith) p)
  ask_owes other goal client later world is p =
      ((tells_kept distinct_kept.basic).notes_kept other goal (asked_by client) world (λ one. refl) (λ one. refl) p.0, by (other == server) (goal == id) refl refl)
    where
      noting : List GoalRecord → List GoalRecord
      noting goals = change_first (has_id goal) (asked_by client) goals

      by : (b c : Bool) → other == server ≡ b → goal == id ≡ c → Balanced server id 0 world.lines (goals_in server (change_first (is_server_at other) (with_goals noting) world.servers))
      by true true e f =
          let here : other ≡ server = eqb-true other server e in
          let found = comes_later server id (find (has_id goal) (goals_at other world)) is in
          let at : find (has_id goal) (goals_at server world) ≡ Some found.0 = ap (λ (n : EntityNo). find (has_id goal) (goals_at n world)) (sym here) ∙ found.1.0 in
          let one_more = noted server id goal client (goals_at server world) found.0 at found.1.1 f in
          let owes : weigh (concerns server id other goal) 1 ≡ 1 = rw (e, f) refl in
          let balance = p.1 in
          subst (λ (n : EntityNo). Balanced server id 0 world.lines (goals_in server (change_first (is_server_at n) (with_goals noting) world.servers))) (sym here)
          (subst (λ (goals : List GoalRecord). Balanced server id 0 world.lines goals) (sym (goals_here (changing noting (ids_changed goal (asked_by client) (λ one. refl))) server world.servers (inr refl)))
          (omega (arith, one_more, owes, balance)))
      by true false e f =
          let owes : weigh (concerns server id other goal) 1 ≡ 0 = rw (e, f) refl in
          same_wait server id 0 world.lines (goals_at server world) _
          (served server id (changing noting (ids_changed goal (asked_by client) (λ one. refl))) other world (λ is_here. waiting_apart server id goal (asked_by client) (λ one. refl) f (goals_at server world)))
          (subst (λ (n : ℕ). Balanced server id n world.lines (goals_at server world)) owes p.1)
      by false c e f =
          let owes : weigh (concerns server id other goal) 1 ≡ 0 = rw e refl in
          subst (λ (goals : List GoalRecord). Balanced server id 0 world.lines goals) (sym (goals_apart (changing noting (ids_changed goal (asked_by client) (λ one. refl))) server other world.servers e))
          (subst (λ (n : ℕ). Balanced server id n world.lines (goals_at server world)) owes p.1)

  -- a goal ends: each that asked is told
  end_owes : (other : EntityNo) (goal : GoalId) (by : Event) (value : ℤ) (moment : Moment) (reached : State) (world : WorldState) → end_state goal by (goals_at other world) ≡ Some reached → Owing 0 world → Owing 0 (end_in (Some reached) other goal by value moment world)
  end_owes other goal by value moment reached world leads p = where_found (goal_at other goal over) (ap (λ (goals : List GoalRecord). find (has_id goal) goals) (sym (goals_here (changing ending (ids_changed goal (after_end by value moment) (λ one. refl))) other world.servers (inr refl))))
    where
      ending : List GoalRecord → List GoalRecord
      ending goals = change_first (has_id goal) (after_end by value moment) goals

      over : WorldState
      over = with_ended other goal by value moment world

      where_found : (found : Option GoalRecord) → find (has_id goal) (ending (goals_at other world)) ≡ found → Owing 0 (tell_end other found over)
      where_found None none = absurd (ended_found (goals_at other world) goal by value moment reached leads none)
      where_found (Some one) found =
          all_told server id other one.id (status_of one.state) one.result one.askers (add_line (line.State other one.id (status_of one.state)) over)
          (lines_owe server id (weigh (concerns server id other one.id) (length one.askers)) (line.State other one.id (status_of one.state) ∷ []) over ((refl, refl), tt)
          (apart, subst (λ (n : GoalId). Balanced server id (weigh (concerns server id other n) (length one.askers)) world.lines (goals_at server over)) (sym named) (balanced (other == server) (goal == id) refl refl)))
        where
          named : one.id ≡ goal
          named = eqb-true one.id goal (found_test (has_id goal) (ending (goals_at other world)) one found)

          apart : HasDistinct over
          apart = distinct_kept.basic.goals_kept other ending world (ids_changed goal (after_end by value moment) (λ record_of. refl)) p.0

          balanced : (b c : Bool) → other == server ≡ b → goal == id ≡ c → Balanced server id (weigh (concerns server id other goal) (length one.askers)) world.lines (goals_at server over)
          balanced true true e f =
              let here : other ≡ server = eqb-true other server e in
              let same : goal ≡ id = eqb-true goal id f in
              let waits = ended_waits goal by value moment reached one (goals_at other world) leads found in
              let before : length (waiting_in id (goals_at server world)) ≡ length one.askers = ap (λ (n : GoalId). length (waiting_in n (goals_at server world))) (sym same) ∙ ap (λ (n : EntityNo). length (waiting_in goal (goals_at n world))) (sym here) ∙ ap (λ (some : List EntityNo). length some) waits.0 in
              let behind : length (waiting_in id (goals_at server over)) ≡ 0 =
              ap (λ (n : EntityNo). length (waiting_in id (goals_at n over))) (sym here) ∙ ap (λ (n : GoalId). length (waiting_in n (goals_at other over))) (sym same)
              ∙ ap (λ (goals : List GoalRecord). length (waiting_in goal goals)) (goals_here (changing ending (ids_changed goal (after_end by value moment) (λ one. refl))) other world.servers (inr refl)) ∙ ap (λ (some : List EntityNo). length some) waits.1 in
              let owes : weigh (concerns server id other goal) (length one.askers) ≡ length one.askers = rw (e, f) refl in
              let balance = p.1 in
              omega (arith, before, behind, owes, balance)
          balanced true false e f =
              let owes : weigh (concerns server id other goal) (length one.askers) ≡ 0 = rw (e, f) refl in
              same_wait server id (weigh (concerns server id other goal) (length one.askers)) world.lines (goals_at server world) _
              (served server id (changing ending (ids_changed goal (after_end by value moment) (λ one. refl))) other world (λ is_here. waiting_apart server id goal (after_end by value moment) (λ record_of. refl) f (goals_at server world)))
              (subst (λ (n : ℕ). Balanced server id n world.lines (goals_at server world)) (sym owes) p.1)
          balanced false c e f =
              let owes : weigh (concerns server id other goal) (length one.askers) ≡ 0 = rw e refl in
              subst (λ (goals : List GoalRecord). Balanced server id (weigh (concerns server id other goal) (length one.askers)) world.lines goals) (sym (goals_apart (changing ending (ids_changed goal (after_end by value moment) (λ one. refl))) server other world.servers e))
              (subst (λ (n : ℕ). Balanced server id n world.lines (goals_at server world)) (sym owes) p.1)

  -- what a callback owes when it begins
  abbrev owed_by : Ready → ℕ
  owed_by one = weigh (is_ask_taken server id (run_line one)) 1

  owes_none : (one : Ready) (why : Cause) → one.cause ≡ why → takes_ask why ≡ false → owed_by one ≡ 0
  owes_none one why same none = ap (λ (c : Cause). weigh (is_ask_taken server id (line_of one.entity c (input_of one))) 1) same ∙ by why none
    where
      by : (c : Cause) → takes_ask c ≡ false → weigh (is_ask_taken server id (line_of one.entity c (input_of one))) 1 ≡ 0
      by cause.Due e = refl
      by (cause.Took (item.Message value)) e = refl
      by (cause.Took (item.Request client number value)) e = refl
      by (cause.Took (item.Reply number value)) e = refl
      by (cause.Took (item.Goal goal client value)) e = refl
      by (cause.Took (item.Cancel request client)) e = refl
      by (cause.Took (item.Ask goal client)) e = absurd cc
      by (cause.Took (item.Response goal accepted)) e = refl
      by (cause.Took (item.Code returned count)) e = refl
      by (cause.Took (item.Feedback goal value)) e = refl
      by (cause.Took (item.Result goal status value)) e = refl
      by (cause.Woke goal value canceling) e = refl

  answers_owe_none : (one : Ready) (entity : EntityNo) (new : Item) → Answers anywhere one entity new → owed_by one ≡ 0
  answers_owe_none one entity (item.Message value) a = absurd a
  answers_owe_none one entity (item.Request client number value) a = absurd a
  answers_owe_none one entity (item.Reply number value) a = owes_none one _ a.1 refl
  answers_owe_none one entity (item.Goal goal client value) a = absurd a
  answers_owe_none one entity (item.Cancel request client) a = absurd a
  answers_owe_none one entity (item.Ask goal client) a = owes_none one _ a.1.0 refl
  answers_owe_none one entity (item.Response goal accepted) a = owes_none one _ a.1 refl
  answers_owe_none one entity (item.Code returned count) a = owes_none one _ a.1 refl
  answers_owe_none one entity (item.Feedback goal value) a = absurd a
  answers_owe_none one entity (item.Result goal status value) a = absurd a

  begins : (one : Ready) (world : WorldState) → Owing 0 world → Owing (owed_by one) (add_line (run_line one) world)
  begins one world p =
      let a = many_more (is_ask_taken server id) world.lines (run_line one ∷ []) in
      let b = many_more (is_result_told server id) world.lines (run_line one ∷ []) in
      let c = one_line (is_ask_taken server id) (run_line one) in
      let d : many (is_result_told server id) (run_line one ∷ []) ≡ 0 = refl in
      let balance = p.1 in
      (p.0, omega (arith, a, b, c, d, balance))

  accept_owes : (owed : ℕ) (other : EntityNo) (moment : Moment) (how : Acceptance) (request : GoalRequest) (world : WorldState) → has_room_for request.id (goals_at other world) ≡ true → Owing owed world → Owing owed (accept other moment how request world)
  accept_owes owed other moment how request world room p = (
    distinct_kept.accepts_kept other moment how request world room p.0,
    others_balanced server id owed world.lines (accepted_lines other request.id how) _ (accepted_other server id other request.id how)
        (same_wait server id owed world.lines (goals_at server world) _
        (served server id (accepting (next_arrival world) moment how request) other world (λ is_here. accepted_waits server id (new_goal request.id request.value moment how) refl (goals_at server world))) p.1),
  )

  -- a callback that runs
  run_owes : (one : Ready) (world : WorldState) → Owing 0 world → Owing 0 (run one world)
  run_owes one world p =
      run_keeps {P = Owing (owed_by one)} {Q = Owing 0} (owes_moves server id (owed_by one)) one
      (λ before none q. subst (λ (n : ℕ). Owing n before) (owes_none one one.cause refl none) q)
      (λ request how before same room q. accept_owes (owed_by one) one.entity one.moment how request before room q)
      (λ goal value canceling by result reached before same leads q.
      let none : owed_by one ≡ 0 = owes_none one _ same refl in
      subst (λ (n : ℕ). Owing n (end_in (Some reached) one.entity goal by result one.moment before)) (sym none)
      (end_owes one.entity goal by result one.moment reached before leads (subst (λ (n : ℕ). Owing n before) none q)))
      (λ goal client before same q.
      ask_owes one.entity goal client (asked_for goal (goals_at one.entity before)) before refl
      (subst (λ (n : ℕ). Owing n before) (ap (λ (c : Cause). weigh (is_ask_taken server id (line_of one.entity c (input_of one))) 1) same) q))
      (λ entity new before a q. push_owes server id 0 entity new before (subst (λ (n : ℕ). Owing n before) (answers_owe_none one entity new a) q))
      world (begins one world p)

  -- ---- rounds

  expire_owes : (moment : Moment) (world : WorldState) → Owing 0 world → Owing 0 (expire moment world)
  expire_owes moment world p =
      let left = expired_goals moment server world.servers in (
        distinct_kept.expiry_kept moment world p.0,
        others_balanced server id 0 world.lines (flat_map (expire_lines moment) world.servers) _
            (all_flat (IsOther server id) (expire_lines moment) (λ entry. all_map (IsOther server id) _ (λ goal. (refl, refl)) (expired moment entry.timeout (records_of entry.held))) world.servers)
            (same_wait server id 0 world.lines (goals_at server world) _
            (ap (λ (goals : List GoalRecord). waiting_in id goals) left.1 ∙ kept_waits server id (λ goal. not (is_expired moment left.0 goal)) (forgotten_final moment left.0) (goals_at server world) (p.0 server)) p.1),
      )

  round_owes : (plan : PlanData) (number : ℕ) (moment : Moment) (world : WorldState) → Owing 0 world → Owing 0 (round plan number moment world)
  round_owes plan number moment world p =
      let before : WorldState = at_snapshot plan number moment world in
      fold_keeps (Owing 0) (λ state one. run one state) (λ state one q. run_owes one state q) (ready_list moment before) (take_inputs moment before)
      (feed_keeps (owes_moves server id 0) (publish_kept {P = Owing 0} (λ entity value state q. push_owes server id 0 entity (item.Message value) state q)) (fed_in number plan.feed) _
      (expire_owes moment (add_line (line.Round number moment) world) (lines_owe server id 0 (line.Round number moment ∷ []) world ((refl, refl), tt) p)))

  rounds_owe : (plan : PlanData) (number : ℕ) (moments : List Moment) (world : WorldState) → Owing 0 world → Owing 0 (rounds plan number moments world)
  rounds_owe plan number [] world p = p
  rounds_owe plan number (moment ∷ moments) world p = rounds_owe plan (suc number) moments (round plan number moment world) (round_owes plan number moment world p)

  pending_other : (client count : ℕ) → AllByRecursion (IsOther server id) (pending_by client count)
  pending_other client zero = tt
  pending_other client (suc more) = ((refl, refl), tt)

  -- each ask is answered once, or waits
  pub asks_answered : (plan : PlanData) → length (filter (is_ask_taken server id) (lines_of plan)) ≡ length (filter (is_result_told server id) (lines_of plan)) + length (waiting_in id (goals_at server (last_world plan)))
  asks_answered plan =
      let first : WorldState = first_world plan in
      let last : WorldState = rounds plan 1 plan.moments first in
      let none : length (waiting_in id (goals_at server first)) ≡ 0 = ap (λ (goals : List GoalRecord). length (waiting_in id goals)) (first_goals plan.graph server (entities_where is_server plan.graph)) in
      let begun : Balanced server id 0 [] (goals_at server first) = omega (arith, none) in
      let closed = lines_owe server id 0 (closing_lines (length plan.moments) last) last
      (all_append (IsOther server id) (flat_map (λ entry. pending_by entry.entity (length entry.pending)) last.clients) (line.End (length plan.moments) ∷ [])
      (all_flat (IsOther server id) (λ entry. pending_by entry.entity (length entry.pending)) (λ entry. pending_other entry.entity (length entry.pending)) last.clients) ((refl, refl), tt))
      (rounds_owe plan 1 plan.moments first (first_distinct plan, begun)) in
      let balance = closed.1 in
      omega (arith, balance)
