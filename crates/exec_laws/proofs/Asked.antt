-- What each change makes of the asks for one goal's result: those that were taken, those that were answered, and those that wait.
use Rattle.std.proofs.Common.{◌≡◌, inl, inr, ℕ, suc, ℤ, ◌+◌, Bool, true, false, ◌&&◌, ◌==◌, if◌then◌else◌, List, [], ◌∷◌, ◌++◌, length, length-append, map, Option, None, Some, is_some, refl, sym, ap, subst, ◌∙◌, true≢false, arith}
use Rattle.std.specs.List.{AllByRecursion, IsDistinct, filter, find, fold, list_all}
use Rattle.std.proofs.lemmas.Bool.{eqb-true, eq-eqb, and_parts}
use Rattle.std.proofs.lemmas.List.Elements.{filter-append}
use Rattle.exec_goal.specs.Cancel.{Decided, is_moved, moved, table_after}
use Rattle.exec_goal.specs.State.{after, is_terminal, status_of}
use Rattle.exec_goal.specs.Table.{GoalRecord, told, later, answer_to, has_id, moved_by, after_event, asked_by}
use Rattle.exec_goal.specs.declared.state.State.{State}
use Rattle.exec_goal.specs.declared.state.State.TheVariants as state
use Rattle.exec_msg.specs.Numbers.{EntityNo, GoalId}
use Rattle.exec_msg.specs.Lists.{change_first}
use Rattle.exec_msg.specs.declared.goal.Acceptance.{Acceptance}
use Rattle.exec_msg.specs.declared.goal.Acceptance.TheVariants as acceptance
use Rattle.exec_msg.specs.declared.goal.Event.{Event}
use Rattle.exec_msg.specs.declared.goal.Event.TheVariants as event
use Rattle.exec_msg.specs.declared.goal.GoalStatus.{GoalStatus}
use Rattle.exec_msg.specs.declared.line.Line.{Line}
use Rattle.exec_msg.specs.declared.line.Line.TheVariants as line
use Rattle.exec_laws.proofs.Channels.{weigh}
use Rattle.exec_rules.proofs.Identifiers.{Distinct, HasDistinct, Makes, OldOrNew, old_or_new, changing, tasking, distinct_kept, filter_all, goal_arriving}
use Rattle.exec_rules.proofs.Keeping.{Moves, publish_kept, moves_kept, anywhere, is_plain, ids_changed, ids_answered}
use Rattle.exec_rules.proofs.Pairs.{all_weaker}
use Rattle.exec_laws.proofs.Views.{turned}
use Rattle.exec_rules.specs.Close.{accepted_lines, moved_lines, tell}
use Rattle.exec_laws.specs.Exchanges.{is_ask_taken, is_result_told, waiting_for, waiting_in}
use Rattle.exec_rules.specs.World.{WorldState, ServerEntry, is_server_at, add_line, add_lines, drop_line, lost_by, queued, push, goals_at, with_call, goals_in, next_arrival}
use Rattle.exec_rules.specs.declared.item.Item.{Item}
use Rattle.exec_rules.specs.declared.item.Item.TheVariants as item
use Rattle.exec_rules.proofs.Records.{ids}

-- ---- lines

-- how many lines pass a test
abbrev pub many : (Line → Bool) → List Line → ℕ
many test lines = length (filter test lines)

pub many_more : (test : Line → Bool) (lines more : List Line) → many test (lines ++ more) ≡ many test lines + many test more
many_more test lines more = ap (λ (some : List Line). length some) (filter-append test lines more) ∙ length-append (filter test lines) (filter test more)

pub one_line : (test : Line → Bool) (one : Line) → many test (one ∷ []) ≡ weigh (test one) 1
one_line test one = by (test one) refl
  where
    by : (b : Bool) → test one ≡ b → many test (one ∷ []) ≡ weigh (test one) 1
    by true e = rw e refl
    by false e = rw e refl

-- lines none of which passes a test
abbrev pub HasNone : (Line → Bool) → List Line → Type 0
HasNone test lines = AllByRecursion (λ one. test one ≡ false) lines

pub many_none : (test : Line → Bool) (lines : List Line) → HasNone test lines → many test lines ≡ 0
many_none test [] p = refl
many_none test (one ∷ lines) p = rw p.0 (many_none test lines p.1)

module _ (server : EntityNo) (id : GoalId) where
  -- neither an ask that is taken nor a result that is told
  abbrev pub IsOther : Line → Type 0
  IsOther one = (is_ask_taken server id one ≡ false) × (is_result_told server id one ≡ false)

  plain_other : (one : Line) → is_plain one ≡ true → IsOther one
  plain_other (line.Round number moment) e = absurd cc
  plain_other (line.Expire entity goal) e = (refl, refl)
  plain_other (line.Run entity of first aux goal) e = absurd cc
  plain_other (line.Drop entity of value) e = absurd cc
  plain_other (line.Pub topic value) e = absurd cc
  plain_other (line.Call client number value) e = (refl, refl)
  plain_other (line.Reply entity value) e = (refl, refl)
  plain_other (line.Goal client goal value) e = (refl, refl)
  plain_other (line.Cancel client goal stamp) e = (refl, refl)
  plain_other (line.Log entity value) e = (refl, refl)
  plain_other (line.Feedback entity goal value) e = (refl, refl)
  plain_other (line.Decide entity goal decision) e = (refl, refl)
  plain_other (line.State entity goal status) e = (refl, refl)
  plain_other (line.Code entity returned count) e = (refl, refl)
  plain_other (line.Ask client goal) e = (refl, refl)
  plain_other (line.Result entity goal status value) e = absurd cc
  plain_other (line.Pending client number) e = (refl, refl)
  plain_other (line.End number) e = (refl, refl)

  plain_others : (lines : List Line) → list_all is_plain lines ≡ true → AllByRecursion IsOther lines
  plain_others [] e = tt
  plain_others (one ∷ lines) e = let parts = and_parts (is_plain one) (list_all is_plain lines) e in (plain_other one parts.0, plain_others lines parts.1)

  -- ---- a world

  -- as many asks were taken as results were told and clients wait, and some more
  abbrev pub Balanced : ℕ → List Line → List GoalRecord → Type 0
  Balanced owed lines goals = many (is_ask_taken server id) lines ≡ many (is_result_told server id) lines + (length (waiting_in id goals) + owed)

  abbrev pub Owes : ℕ → WorldState → Type 0
  Owes owed world = HasDistinct world × Balanced owed world.lines (goals_at server world)

  pub others_balanced : (owed : ℕ) (lines more : List Line) (goals : List GoalRecord) → AllByRecursion IsOther more → Balanced owed lines goals → Balanced owed (lines ++ more) goals
  others_balanced owed lines more goals none p =
      let a = many_more (is_ask_taken server id) lines more in
      let b = many_more (is_result_told server id) lines more in
      let c = many_none (is_ask_taken server id) more (all_weaker IsOther (λ one. is_ask_taken server id one ≡ false) (λ one q. q.0) more none) in
      let d = many_none (is_result_told server id) more (all_weaker IsOther (λ one. is_result_told server id one ≡ false) (λ one q. q.1) more none) in
      omega (arith, a, b, c, d, p)

  pub lines_owe : (owed : ℕ) (lines : List Line) (world : WorldState) → AllByRecursion IsOther lines → Owes owed world → Owes owed (add_lines lines world)
  lines_owe owed lines world none p = (p.0, others_balanced owed world.lines lines (goals_at server world) none p.1)

  drops_other : (entity : EntityNo) (items : List Item) → AllByRecursion IsOther (map (drop_line entity) items)
  drops_other entity [] = tt
  drops_other entity (first ∷ items) = ((refl, refl), drops_other entity items)

  pub push_owes : (owed : ℕ) (entity : EntityNo) (new : Item) (world : WorldState) → Owes owed world → Owes owed (push entity new world)
  push_owes owed entity new world p = lines_owe owed (map (drop_line entity) (lost_by entity new world)) (queued entity new world) (drops_other entity (lost_by entity new world)) p

  -- ---- goals

  -- changes that leave who waits
  waiting_left : (other : GoalId) (change : GoalRecord → GoalRecord) → ((goal : GoalRecord) → (change goal).id ≡ goal.id) → ((goal : GoalRecord) → waiting_for (Some (change goal)) ≡ waiting_for (Some goal)) → (goals : List GoalRecord) → waiting_in id (change_first (has_id other) change goals) ≡ waiting_in id goals
  waiting_left other change same left [] = refl
  waiting_left other change same left (goal ∷ goals) = by (has_id other goal) (has_id id goal) refl refl (waiting_left other change same left goals)
    where
      by : (b c : Bool) → has_id other goal ≡ b → has_id id goal ≡ c → waiting_in id (change_first (has_id other) change goals) ≡ waiting_in id goals → waiting_in id (change_first (has_id other) change (goal ∷ goals)) ≡ waiting_in id (goal ∷ goals)
      by true true e f rest = rw (e, same goal, f) (left goal)
      by true false e f rest = rw (e, same goal, f) refl
      by false true e f rest = rw (e, f) refl
      by false false e f rest = rw (e, f) rest

  -- a change of another goal
  pub waiting_apart : (other : GoalId) (change : GoalRecord → GoalRecord) → ((goal : GoalRecord) → (change goal).id ≡ goal.id) → other == id ≡ false → (goals : List GoalRecord) → waiting_in id (change_first (has_id other) change goals) ≡ waiting_in id goals
  waiting_apart other change same apart [] = refl
  waiting_apart other change same apart (goal ∷ goals) = by (has_id other goal) (has_id id goal) refl refl (waiting_apart other change same apart goals)
    where
      by : (b c : Bool) → has_id other goal ≡ b → has_id id goal ≡ c → waiting_in id (change_first (has_id other) change goals) ≡ waiting_in id goals → waiting_in id (change_first (has_id other) change (goal ∷ goals)) ≡ waiting_in id (goal ∷ goals)
      by true true e f rest = absurd (true≢false (sym (eq-eqb other id (sym (eqb-true goal.id other e) ∙ eqb-true goal.id id f)) ∙ apart))
      by true false e f rest = rw (e, same goal, f) refl
      by false true e f rest = rw (e, f) refl
      by false false e f rest = rw (e, f) rest

  active_still : (by : Event) (at : State) → is_terminal (moved_by by at) ≡ is_terminal at → (goal : GoalRecord) → goal.state ≡ at → waiting_for (Some (after_event by goal)) ≡ waiting_for (Some goal)
  active_still by at same goal is = ap (λ (b : Bool). if b then [] else goal.askers) (ap (λ (s : State). is_terminal (moved_by by s)) is ∙ same ∙ ap (λ (s : State). is_terminal s) (sym is))

  pub executed_waits : (goal : GoalRecord) → waiting_for (Some (after_event event.Execute goal)) ≡ waiting_for (Some goal)
  executed_waits goal = active_still event.Execute goal.state (from goal.state) goal refl
    where
      from : (at : State) → is_terminal (moved_by event.Execute at) ≡ is_terminal at
      from state.Accepted = refl
      from state.Executing = refl
      from state.Canceling = refl
      from state.Succeeded = refl
      from state.Canceled = refl
      from state.Aborted = refl

  pub canceled_waits : (goal : GoalRecord) → waiting_for (Some (after_event event.CancelGoal goal)) ≡ waiting_for (Some goal)
  canceled_waits goal = active_still event.CancelGoal goal.state (from goal.state) goal refl
    where
      from : (at : State) → is_terminal (moved_by event.CancelGoal at) ≡ is_terminal at
      from state.Accepted = refl
      from state.Executing = refl
      from state.Canceling = refl
      from state.Succeeded = refl
      from state.Canceled = refl
      from state.Aborted = refl

  answered_waits : (decisions : List Decided) (goals : List GoalRecord) → waiting_in id (table_after decisions goals) ≡ waiting_in id goals
  answered_waits decisions [] = refl
  answered_waits decisions (goal ∷ goals) = by (is_moved decisions goal) (has_id id goal) refl refl (answered_waits decisions goals)
    where
      by : (b c : Bool) → is_moved decisions goal ≡ b → has_id id goal ≡ c → waiting_in id (table_after decisions goals) ≡ waiting_in id goals → waiting_in id (table_after decisions (goal ∷ goals)) ≡ waiting_in id (goal ∷ goals)
      by true true e f rest = rw (e, f) (canceled_waits goal)
      by true false e f rest = rw (e, f) rest
      by false true e f rest = rw (e, f) refl
      by false false e f rest = rw (e, f) rest

  pub accepted_waits : (new : GoalRecord) → new.askers ≡ [] → (goals : List GoalRecord) → waiting_in id (goals ++ new ∷ []) ≡ waiting_in id goals
  accepted_waits new none [] = by (has_id id new) (is_terminal new.state) refl refl
    where
      by : (b c : Bool) → has_id id new ≡ b → is_terminal new.state ≡ c → waiting_in id (new ∷ []) ≡ []
      by true true e f = rw (e, f) refl
      by true false e f = rw (e, f) none
      by false c e f = rw e refl
  accepted_waits new none (goal ∷ goals) = by (has_id id goal) refl (accepted_waits new none goals)
    where
      by : (b : Bool) → has_id id goal ≡ b → waiting_in id (goals ++ new ∷ []) ≡ waiting_in id goals → waiting_in id ((goal ∷ goals) ++ new ∷ []) ≡ waiting_in id (goal ∷ goals)
      by true e rest = rw e refl
      by false e rest = rw e rest

  -- nobody waits for a goal that isn't there
  nobody_waits : (goals : List GoalRecord) → AllByRecursion (λ other. id == other ≡ false) (ids goals) → waiting_in id goals ≡ []
  nobody_waits [] p = refl
  nobody_waits (goal ∷ goals) p = rw (turned id goal.id p.0) (nobody_waits goals p.1)

  -- what is forgotten has ended, and nobody waits for it
  pub kept_waits : (test : GoalRecord → Bool) → ((goal : GoalRecord) → test goal ≡ false → is_terminal goal.state ≡ true) → (goals : List GoalRecord) → Distinct (ids goals) → waiting_in id (filter test goals) ≡ waiting_in id goals
  unfolding IsDistinct
  kept_waits test final [] p = refl
  kept_waits test final (goal ∷ goals) p = by (test goal) (has_id id goal) refl refl (kept_waits test final goals p.1)
    where
      by : (b c : Bool) → test goal ≡ b → has_id id goal ≡ c → waiting_in id (filter test goals) ≡ waiting_in id goals → waiting_in id (filter test (goal ∷ goals)) ≡ waiting_in id (goal ∷ goals)
      by true true e f rest = rw (e, f) refl
      by true false e f rest = rw (e, f) rest
      by false true e f rest =
          rw (e, f, final goal e)
          (nobody_waits (filter test goals) (filter_all (λ other. id == other ≡ false) test goals (subst (λ (n : GoalId). AllByRecursion (λ other. n == other ≡ false) (ids goals)) (eqb-true goal.id id f) p.0)))
      by false false e f rest = rw (e, f) rest

  -- ---- a server that is changed

  pub served : {change : ServerEntry → ServerEntry} {goals : List GoalRecord → List GoalRecord} → Makes change goals → (other : EntityNo) (world : WorldState) →
      (other ≡ server → waiting_in id (goals (goals_at server world)) ≡ waiting_in id (goals_at server world)) → waiting_in id (goals_in server (change_first (is_server_at other) change world.servers)) ≡ waiting_in id (goals_at server world)
  served {change} {goals} m other world here = by (old_or_new m server other world.servers)
    where
      by : OldOrNew server other change goals world.servers → waiting_in id (goals_in server (change_first (is_server_at other) change world.servers)) ≡ waiting_in id (goals_at server world)
      by (inl same) = ap (λ (some : List GoalRecord). waiting_in id some) same
      by (inr new) = ap (λ (some : List GoalRecord). waiting_in id some) new.1 ∙ here new.0

  -- goals for which the same clients wait
  pub same_wait : (owed : ℕ) (lines : List Line) (before after : List GoalRecord) → waiting_in id after ≡ waiting_in id before → Balanced owed lines before → Balanced owed lines after
  same_wait owed lines before after same p = rw same p

  moved_other : (entity : EntityNo) (goals : List GoalRecord) (more : List Line) → AllByRecursion IsOther more → AllByRecursion IsOther (moved_lines entity goals ++ more)
  moved_other entity [] more p = p
  moved_other entity (goal ∷ goals) more p = ((refl, refl), moved_other entity goals more p)

  pub accepted_other : (entity : EntityNo) (goal : GoalId) (how : Acceptance) → AllByRecursion IsOther (accepted_lines entity goal how)
  accepted_other entity goal acceptance.Execute = ((refl, refl), ((refl, refl), tt))
  accepted_other entity goal acceptance.Defer = ((refl, refl), tt)

  pub owes_moves : (owed : ℕ) → Moves anywhere (Owes owed)
  owes_moves owed = record {
    lines_kept = λ lines world quiet p. lines_owe owed lines world (plain_others lines quiet.1.1) p;
    pushes_kept = λ entity new world well free message request result p. push_owes owed entity new world p;
    publications_kept = λ topic value world p. publish_kept {P = Owes owed} (λ entity sent before q. push_owes owed entity (item.Message sent) before q) topic value _ (lines_owe owed (line.Pub topic value ∷ []) world ((refl, refl), tt) p);
    calls_kept = λ number client value world found p. push_owes owed client.service (item.Request client.entity (client.calls + 1) value) (add_line (line.Call client.entity (client.calls + 1) value) (with_call client.entity world)) (lines_owe owed (line.Call client.entity (client.calls + 1) value ∷ []) (with_call client.entity world) ((refl, refl), tt) p);
    action_clients_known = λ number client world found p. refl;
    execution_kept = λ other goal world found p. (
      (moves_kept distinct_kept.basic).execution_kept other goal world found p.0,
      others_balanced owed world.lines (line.State other goal.id (status_of (after_event event.Execute goal).state) ∷ []) _ ((refl, refl), tt)
          (same_wait owed world.lines (goals_at server world) _ (served (changing (change_first (has_id goal.id) (after_event event.Execute)) (ids_changed goal.id (after_event event.Execute) (λ one. refl))) other world (λ is. waiting_left goal.id (after_event event.Execute) (λ one. refl) executed_waits (goals_at server world))) p.1),
    );
    answer_kept = λ other decisions returned count world p. (
      (moves_kept distinct_kept.basic).answer_kept other decisions returned count world p.0,
      others_balanced owed world.lines (moved_lines other (moved decisions (goals_at other world)) ++ line.Code other returned count ∷ []) _ (moved_other other (moved decisions (goals_at other world)) (line.Code other returned count ∷ []) ((refl, refl), tt))
          (same_wait owed world.lines (goals_at server world) _ (served (changing (table_after decisions) (ids_answered decisions)) other world (λ is. answered_waits decisions (goals_at server world))) p.1),
    );
    tasks_kept = λ other goal task world p. (distinct_kept.basic.tasks_kept other goal task world p.0, same_wait owed world.lines (goals_at server world) _ (served (tasking goal task) other world (λ is. refl)) p.1);
    arrivals_kept = λ other goal world p. (distinct_kept.basic.arrivals_kept other goal world p.0, same_wait owed world.lines (goals_at server world) _ (served (goal_arriving goal (next_arrival world)) other world (λ is. refl)) p.1);
    sending_kept = λ client world p. p;
    variables_kept = λ group variables world p. p;
  }

  -- ---- results

  -- whether a result is one of the goal's
  abbrev pub concerns : EntityNo → GoalId → Bool
  concerns other goal = (other == server) && (goal == id)

  pub told_owes : (owed : ℕ) (other : EntityNo) (goal : GoalId) (status : GoalStatus) (value : ℤ) (client : EntityNo) (world : WorldState) → Owes (weigh (concerns other goal) 1 + owed) world → Owes owed (tell other goal status value client world)
  told_owes owed other goal status value client world p =
      push_owes owed client (item.Result goal status value) (add_line (line.Result other goal status value) world) (p.0, balanced)
    where
      balanced : Balanced owed (world.lines ++ line.Result other goal status value ∷ []) (goals_at server world)
      balanced =
          let a = many_more (is_ask_taken server id) world.lines (line.Result other goal status value ∷ []) in
          let b = many_more (is_result_told server id) world.lines (line.Result other goal status value ∷ []) in
          let c = one_line (is_result_told server id) (line.Result other goal status value) in
          let d = p.1 in
          omega (arith, a, b, c, d)

  -- one result for each that asked
  pub all_told : (other : EntityNo) (goal : GoalId) (status : GoalStatus) (value : ℤ) (clients : List EntityNo) (world : WorldState) → Owes (weigh (concerns other goal) (length clients)) world →
      Owes 0 (fold (λ before client. tell other goal status value client before) world clients)
  all_told other goal status value [] world p = subst (λ (n : ℕ). Owes n world) (none (concerns other goal)) p
    where
      none : (b : Bool) → weigh b 0 ≡ 0
      none true = refl
      none false = refl
  all_told other goal status value (client ∷ clients) world p =
      all_told other goal status value clients (tell other goal status value client world)
      (told_owes (weigh (concerns other goal) (length clients)) other goal status value client world (subst (λ (n : ℕ). Owes n world) (one_more (concerns other goal)) p))
    where
      one_more : (b : Bool) → weigh b (suc (length clients)) ≡ weigh b 1 + weigh b (length clients)
      one_more true = omega arith
      one_more false = refl

  -- ---- asks

  pub noted : (goal : GoalId) (client : EntityNo) (goals : List GoalRecord) (found : GoalRecord) → find (has_id goal) goals ≡ Some found → is_terminal found.state ≡ false → goal == id ≡ true →
      length (waiting_in id (change_first (has_id goal) (asked_by client) goals)) ≡ length (waiting_in id goals) + 1
  noted goal client [] found is active same = absurd (true≢false (sym (ap (λ (o : Option GoalRecord). is_some o) is)))
  noted goal client (first ∷ goals) found is active same = by (has_id goal first) (has_id id first) refl refl (noted goal client goals found)
    where
      by : (b c : Bool) → has_id goal first ≡ b → has_id id first ≡ c → (find (has_id goal) goals ≡ Some found → is_terminal found.state ≡ false → goal == id ≡ true → length (waiting_in id (change_first (has_id goal) (asked_by client) goals)) ≡ length (waiting_in id goals) + 1) →
          length (waiting_in id (change_first (has_id goal) (asked_by client) (first ∷ goals))) ≡ length (waiting_in id (first ∷ goals)) + 1
      by true true e f rest =
          let here : Some first ≡ Some found = rw e at is in
          let one : first ≡ found = cc in
          let goes_on : is_terminal first.state ≡ false = ap (λ (g : GoalRecord). is_terminal g.state) one ∙ active in
          rw (e, f, goes_on) (length-append first.askers (client ∷ []))
      by true false e f rest = absurd (true≢false (sym (eq-eqb first.id id (eqb-true first.id goal e ∙ eqb-true goal id same)) ∙ f))
      by false true e f rest = absurd (true≢false (sym (eq-eqb first.id goal (eqb-true first.id id f ∙ sym (eqb-true goal id same))) ∙ e))
      by false false e f rest = let there : find (has_id goal) goals ≡ Some found = rw e at is in rw (e, f) (rest there active same)

  -- a goal whose result comes later hasn't ended
  pub comes_later : (found : Option GoalRecord) → answer_to found ≡ later → (goal : GoalRecord) × ((found ≡ Some goal) × (is_terminal goal.state ≡ false))
  comes_later None e = absurd cc
  comes_later (Some goal) e = by (is_terminal goal.state) refl
    where
      by : (b : Bool) → is_terminal goal.state ≡ b → (one : GoalRecord) × ((Some goal ≡ Some one) × (is_terminal one.state ≡ false))
      by true f = let wrong : told (status_of goal.state) goal.result ≡ later = rw f at e in absurd cc
      by false f = (goal, (refl, f))
