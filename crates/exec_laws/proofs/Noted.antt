-- How often an action client is noted for the result of a goal, over all servers.
use Rattle.std.proofs.Common.{◌≡◌, ℕ, ℤ, ◌+◌, Bool, true, false, not, ◌&&◌, ◌==◌, List, [], ◌∷◌, ◌++◌, map, Option, Some, is_some, refl, sym, ap, ◌∙◌, true≢false, arith}
use Rattle.std.specs.List.{filter, find}
use Rattle.std.proofs.lemmas.Bool.{eqb-true}
use Rattle.exec_goal.specs.Calls.{end_state, where_terminal}
use Rattle.exec_goal.specs.Cancel.{Decided, is_moved, table_after}
use Rattle.exec_goal.specs.State.{after, is_terminal}
use Rattle.exec_goal.specs.Table.{GoalRecord, has_id, after_event, after_end, asked_by, is_expired}
use Rattle.exec_goal.specs.declared.state.State.{State}
use Rattle.exec_msg.specs.Numbers.{EntityNo, GoalId, Moment}
use Rattle.exec_msg.specs.Lists.{change_first}
use Rattle.exec_msg.specs.declared.goal.Event.{Event}
use Rattle.exec_msg.specs.declared.goal.Event.TheVariants as event
use Rattle.exec_laws.proofs.Asked.{executed_waits, canceled_waits}
use Rattle.exec_laws.proofs.Called.{among, among_append}
use Rattle.exec_laws.proofs.Channels.{weigh, weighs_nothing}
use Rattle.exec_rules.proofs.Identifiers.{Makes}
use Rattle.exec_laws.proofs.Results.{ends_active}
use Rattle.exec_laws.proofs.Views.{forgotten_final}
use Rattle.exec_laws.specs.Exchanges.{waiting_for}
use Rattle.exec_rules.specs.Transcript.{server_expired}
use Rattle.exec_rules.specs.World.{ServerEntry, is_server_at, goals_in, records_of}
use Rattle.exec_rules.proofs.Records.{records_filtered}

module _ (client : EntityNo) (id : GoalId) where
  -- how often the client waits for a goal, where that is of the identifier
  abbrev note : GoalRecord → ℕ
  note goal = weigh (goal.id == id) (among client (waiting_for (Some goal)))

  abbrev pub notes : List GoalRecord → ℕ
  notes [] = 0
  notes (goal ∷ goals) = note goal + notes goals

  -- over all servers
  abbrev pub noted_by : List ServerEntry → ℕ
  noted_by [] = 0
  noted_by (entry ∷ servers) = notes (records_of entry.held) + noted_by servers

  -- ---- goals

  -- a change that leaves who waits
  note_left : (goal changed : GoalRecord) → changed.id ≡ goal.id → waiting_for (Some changed) ≡ waiting_for (Some goal) → note changed ≡ note goal
  note_left goal changed same waits = ap (λ (n : GoalId). weigh (n == id) (among client (waiting_for (Some changed)))) same ∙ ap (λ (some : List EntityNo). weigh (goal.id == id) (among client some)) waits

  notes_changed : (other : GoalId) (change : GoalRecord → GoalRecord) → ((goal : GoalRecord) → (change goal).id ≡ goal.id) → ((goal : GoalRecord) → waiting_for (Some (change goal)) ≡ waiting_for (Some goal)) → (goals : List GoalRecord) → notes (change_first (has_id other) change goals) ≡ notes goals
  notes_changed other change same waits [] = refl
  notes_changed other change same waits (goal ∷ goals) = by (has_id other goal) refl (notes_changed other change same waits goals)
    where
      by : (b : Bool) → has_id other goal ≡ b → notes (change_first (has_id other) change goals) ≡ notes goals → notes (change_first (has_id other) change (goal ∷ goals)) ≡ notes (goal ∷ goals)
      by true e rest = rw e (ap (λ (n : ℕ). n + notes goals) (note_left goal (change goal) (same goal) (waits goal)))
      by false e rest = rw e (ap (λ (n : ℕ). note goal + n) rest)

  pub notes_executed : (other : GoalId) (goals : List GoalRecord) → notes (change_first (has_id other) (after_event event.Execute) goals) ≡ notes goals
  notes_executed other goals = notes_changed other (after_event event.Execute) (λ goal. refl) (executed_waits client id) goals

  pub notes_answered : (decisions : List Decided) (goals : List GoalRecord) → notes (table_after decisions goals) ≡ notes goals
  notes_answered decisions [] = refl
  notes_answered decisions (goal ∷ goals) = by (is_moved decisions goal) refl (notes_answered decisions goals)
    where
      by : (b : Bool) → is_moved decisions goal ≡ b → notes (table_after decisions goals) ≡ notes goals → notes (table_after decisions (goal ∷ goals)) ≡ notes (goal ∷ goals)
      by true e rest =
          let first : note (after_event event.CancelGoal goal) ≡ note goal = note_left goal (after_event event.CancelGoal goal) refl (canceled_waits client id goal) in
          rw e (omega (arith, first, rest))
      by false e rest = rw e (ap (λ (n : ℕ). note goal + n) rest)

  -- a goal that nobody asked for yet is accepted
  pub notes_accepted : (goals : List GoalRecord) (new : GoalRecord) → new.askers ≡ [] → notes (goals ++ new ∷ []) ≡ notes goals
  notes_accepted [] new none = by (is_terminal new.state) (new.id == id) refl refl
    where
      by : (b c : Bool) → is_terminal new.state ≡ b → new.id == id ≡ c → note new + 0 ≡ 0
      by true true e f = rw (f, e) (omega arith)
      by false true e f = rw (f, e, none) (omega arith)
      by b false e f = rw f (omega arith)
  notes_accepted (goal ∷ goals) new none = let rest = notes_accepted goals new none in omega (arith, rest)

  -- a client is noted, where the goal hasn't ended
  pub notes_asked : (other : GoalId) (asker : EntityNo) (found : GoalRecord) (goals : List GoalRecord) → find (has_id other) goals ≡ Some found → is_terminal found.state ≡ false →
      notes (change_first (has_id other) (asked_by asker) goals) ≡ notes goals + weigh ((asker == client) && (other == id)) 1
  notes_asked other asker found [] is active = absurd (true≢false (sym (ap (λ (o : Option GoalRecord). is_some o) is)))
  notes_asked other asker found (goal ∷ goals) is active = by (has_id other goal) refl (notes_asked other asker found goals)
    where
      here : goal.id ≡ other → is_terminal goal.state ≡ false → note (asked_by asker goal) ≡ note goal + weigh ((asker == client) && (other == id)) 1
      here same goes_on = of (other == id) (asker == client) refl refl
        where
          of : (c d : Bool) → other == id ≡ c → asker == client ≡ d → note (asked_by asker goal) ≡ note goal + weigh ((asker == client) && (other == id)) 1
          of false true f g = rw (same, f, g) refl
          of false false f g = rw (same, f, g) refl
          of true true f g = let more = among_append client goal.askers (asker ∷ []) in let one : weigh (asker == client) 1 ≡ 1 = rw g refl in rw (same, f, goes_on, g) (omega (arith, more, one))
          of true false f g = let more = among_append client goal.askers (asker ∷ []) in let one : weigh (asker == client) 1 ≡ 0 = rw g refl in rw (same, f, goes_on, g) (omega (arith, more, one))

      by : (b : Bool) → has_id other goal ≡ b →
          (find (has_id other) goals ≡ Some found → is_terminal found.state ≡ false → notes (change_first (has_id other) (asked_by asker) goals) ≡ notes goals + weigh ((asker == client) && (other == id)) 1) →
          notes (change_first (has_id other) (asked_by asker) (goal ∷ goals)) ≡ notes (goal ∷ goals) + weigh ((asker == client) && (other == id)) 1
      by true e rest =
          let at : Some goal ≡ Some found = rw e at is in
          let one : goal ≡ found = cc in
          let first = here (eqb-true goal.id other e) (ap (λ (g : GoalRecord). is_terminal g.state) one ∙ active) in
          rw e (omega (arith, first))
      by false e rest =
          let there : find (has_id other) goals ≡ Some found = rw e at is in
          let more = rest there active in
          rw e (omega (arith, more))

  -- a goal ends: those that waited for it don't any more
  pub notes_ended : (other : GoalId) (by_event : Event) (value : ℤ) (moment : Moment) (reached : State) (found : GoalRecord) (goals : List GoalRecord) → end_state other by_event goals ≡ Some reached → find (has_id other) (change_first (has_id other) (after_end by_event value moment) goals) ≡ Some found →
      notes (change_first (has_id other) (after_end by_event value moment) goals) + weigh (other == id) (among client found.askers) ≡ notes goals
  notes_ended other by_event value moment reached found [] leads is = absurd cc
  notes_ended other by_event value moment reached found (goal ∷ goals) leads is = by (has_id other goal) refl (notes_ended other by_event value moment reached found goals)
    where
      by : (b : Bool) → has_id other goal ≡ b →
          (end_state other by_event goals ≡ Some reached → find (has_id other) (change_first (has_id other) (after_end by_event value moment) goals) ≡ Some found → notes (change_first (has_id other) (after_end by_event value moment) goals) + weigh (other == id) (among client found.askers) ≡ notes goals) →
          notes (change_first (has_id other) (after_end by_event value moment) (goal ∷ goals)) + weigh (other == id) (among client found.askers) ≡ notes (goal ∷ goals)
      by true e rest =
          let here : Some (after_end by_event value moment goal) ≡ Some found = rw (e, e) at is in
          let ends : where_terminal (after goal.state by_event) ≡ Some reached = rw e at leads in
          let states = ends_active goal.state by_event reached ends in
          let same : after_end by_event value moment goal ≡ found = cc in
          let asked : found.askers ≡ goal.askers = ap (λ (g : GoalRecord). g.askers) (sym same) in
          let named : goal.id ≡ other = eqb-true goal.id other e in
          let before : note goal ≡ weigh (other == id) (among client goal.askers) = rw (named, states.0) refl in
          let after_it : note (after_end by_event value moment goal) ≡ 0 = rw states.1 (weighs_nothing (goal.id == id)) in
          let told : weigh (other == id) (among client found.askers) ≡ weigh (other == id) (among client goal.askers) = ap (λ (some : List EntityNo). weigh (other == id) (among client some)) asked in
          rw e (omega (arith, before, after_it, told))
      by false e rest =
          let behind : end_state other by_event goals ≡ Some reached = rw e at leads in
          let there : find (has_id other) (change_first (has_id other) (after_end by_event value moment) goals) ≡ Some found = rw (e, e) at is in
          let more = rest behind there in
          rw e (omega (arith, more))

  -- what is forgotten has ended, and nobody waits for it
  notes_kept : (test : GoalRecord → Bool) → ((goal : GoalRecord) → test goal ≡ false → is_terminal goal.state ≡ true) → (goals : List GoalRecord) → notes (filter test goals) ≡ notes goals
  notes_kept test final [] = refl
  notes_kept test final (goal ∷ goals) = by (test goal) refl (notes_kept test final goals)
    where
      by : (b : Bool) → test goal ≡ b → notes (filter test goals) ≡ notes goals → notes (filter test (goal ∷ goals)) ≡ notes (goal ∷ goals)
      by true e rest = rw e (ap (λ (n : ℕ). note goal + n) rest)
      by false e rest =
          let first : note goal ≡ 0 = rw (final goal e) (weighs_nothing (goal.id == id)) in
          rw e (omega (arith, first, rest))

  -- ---- servers

  -- what a change makes of one server's goals it makes of all
  pub noted_changed : {change : ServerEntry → ServerEntry} {goals : List GoalRecord → List GoalRecord} → Makes change goals → notes (goals []) ≡ 0 → (server : EntityNo) (servers : List ServerEntry) (less more : ℕ) →
      notes (goals (goals_in server servers)) + less ≡ notes (goals_in server servers) + more → noted_by (change_first (is_server_at server) change servers) + less ≡ noted_by servers + more
  noted_changed m none server [] less more same = omega (arith, none, same)
  noted_changed {change} {goals} m none server (entry ∷ servers) less more same = by (is_server_at server entry) refl (noted_changed m none server servers less more)
    where
      by : (b : Bool) → is_server_at server entry ≡ b → (notes (goals (goals_in server servers)) + less ≡ notes (goals_in server servers) + more → noted_by (change_first (is_server_at server) change servers) + less ≡ noted_by servers + more) →
          noted_by (change_first (is_server_at server) change (entry ∷ servers)) + less ≡ noted_by (entry ∷ servers) + more
      by true e rest =
          let here : notes (goals (records_of entry.held)) + less ≡ notes (records_of entry.held) + more = rw e at same in
          let made : notes (records_of (change entry).held) ≡ notes (goals (records_of entry.held)) = ap (λ (some : List GoalRecord). notes some) (m.makes entry) in
          rw e (omega (arith, here, made))
      by false e rest =
          let there : notes (goals (goals_in server servers)) + less ≡ notes (goals_in server servers) + more = rw e at same in
          let behind = rest there in
          rw e (omega (arith, behind))

  pub noted_expired : (moment : Moment) (servers : List ServerEntry) → noted_by (map (server_expired moment) servers) ≡ noted_by servers
  noted_expired moment [] = refl
  noted_expired moment (entry ∷ servers) =
      let left = λ (goal : GoalRecord). not (is_expired moment entry.timeout goal) in
      let first = ap notes (records_filtered left entry.held) ∙ notes_kept left (forgotten_final moment entry.timeout) (records_of entry.held) in
      let rest = noted_expired moment servers in
      omega (arith, first, rest)
