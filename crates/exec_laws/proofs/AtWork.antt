-- Through a round, a goal that is polled stays at work until its poll ends it.
use Rattle.std.proofs.Common.{◌≡◌, inl, inr, ℤ, Bool, true, false, ◌==◌, List, [], ◌∷◌, ◌++◌, Option, None, Some, refl, sym, ap, subst, ◌∙◌, true≢false}
use Rattle.std.specs.List.{AllByRecursion}
use Rattle.std.proofs.lemmas.Bool.{eqb-true}
use Rattle.exec_goal.specs.Calls.{state_in}
use Rattle.exec_goal.specs.Cancel.{Decided, is_moved, table_after}
use Rattle.exec_goal.specs.Table.{GoalRecord, has_id, moved_by, after_event, after_end, new_goal}
use Rattle.exec_goal.specs.declared.state.State.{State}
use Rattle.exec_goal.specs.declared.state.State.TheVariants as state
use Rattle.exec_msg.specs.Numbers.{EntityNo, GoalId}
use Rattle.exec_msg.specs.Lists.{change_first}
use Rattle.exec_msg.specs.declared.goal.Event.{Event}
use Rattle.exec_msg.specs.declared.goal.Event.TheVariants as event
use Rattle.exec_msg.specs.declared.line.Line.TheVariants as line
use Rattle.exec_rules.proofs.Identifiers.{HasDistinct, Makes, OldOrNew, old_or_new, changing, tasking, accepting, distinct_kept, goal_arriving}
use Rattle.exec_rules.proofs.Keeping.{Moves, Tells, publish_kept, moves_kept, tells_kept, state_said, anywhere, ids_changed, ids_answered}
use Rattle.exec_rules.proofs.Running.{ended, end_kept, ends_told, asks_told, run_keeps, unclosed_keeps}
use Rattle.exec_laws.proofs.Statuses.{state_left, state_of_other, state_moved}
use Rattle.exec_rules.specs.Close.{with_ended, goal_at}
use Rattle.exec_laws.specs.Goals.{may_be_polled}
use Rattle.exec_rules.specs.Run.{unclosed}
use Rattle.exec_rules.specs.Run.{run}
use Rattle.exec_rules.specs.Transcript.{run_all}
use Rattle.exec_rules.specs.World.{WorldState, ServerEntry, is_server_at, add_line, goals_at, goals_in, next_arrival}
use Rattle.exec_rules.specs.declared.ready.Cause.TheVariants as cause
use Rattle.exec_rules.specs.declared.ready.Ready.{Ready}

-- ---- a goal's state

-- a goal of this identifier may be polled
abbrev pub AtWork : Bool → GoalId → List GoalRecord → Type 0
AtWork canceling id goals = may_be_polled canceling (state_in id goals) ≡ true

-- its state
pub record IsIn (canceling : Bool) (held : Option State) : Type 0 where
  pub at : State
  pub is : held ≡ Some at
  pub may : may_be_polled canceling (Some at) ≡ true

pub is_in : (canceling : Bool) (held : Option State) → may_be_polled canceling held ≡ true → IsIn canceling held
is_in true None e = absurd (true≢false (sym e))
is_in false None e = absurd (true≢false (sym e))
is_in canceling (Some at) e = record { at = at; is = refl; may = e }

-- neither an execution nor a cancellation takes it from its work
executed_at_work : (canceling : Bool) (at : State) → may_be_polled canceling (Some at) ≡ true → may_be_polled canceling (Some (moved_by event.Execute at)) ≡ true
executed_at_work true state.Accepted e = absurd cc
executed_at_work true state.Executing e = absurd cc
executed_at_work true state.Canceling e = refl
executed_at_work true state.Succeeded e = absurd cc
executed_at_work true state.Canceled e = absurd cc
executed_at_work true state.Aborted e = absurd cc
executed_at_work false state.Accepted e = absurd cc
executed_at_work false state.Executing e = refl
executed_at_work false state.Canceling e = refl
executed_at_work false state.Succeeded e = absurd cc
executed_at_work false state.Canceled e = absurd cc
executed_at_work false state.Aborted e = absurd cc

canceled_at_work : (canceling : Bool) (at : State) → may_be_polled canceling (Some at) ≡ true → may_be_polled canceling (Some (moved_by event.CancelGoal at)) ≡ true
canceled_at_work true state.Accepted e = absurd cc
canceled_at_work true state.Executing e = absurd cc
canceled_at_work true state.Canceling e = refl
canceled_at_work true state.Succeeded e = absurd cc
canceled_at_work true state.Canceled e = absurd cc
canceled_at_work true state.Aborted e = absurd cc
canceled_at_work false state.Accepted e = absurd cc
canceled_at_work false state.Executing e = refl
canceled_at_work false state.Canceling e = refl
canceled_at_work false state.Succeeded e = absurd cc
canceled_at_work false state.Canceled e = absurd cc
canceled_at_work false state.Aborted e = absurd cc

module _ (canceling : Bool) (id : GoalId) where
  -- the oldest accepted goal is executed
  after_execution : (goal : GoalId) (goals : List GoalRecord) → AtWork canceling id goals → AtWork canceling id (change_first (has_id goal) (after_event event.Execute) goals)
  after_execution goal goals p = by (goal == id) refl
    where
      by : (b : Bool) → goal == id ≡ b → AtWork canceling id (change_first (has_id goal) (after_event event.Execute) goals)
      by true e =
          let found : IsIn canceling (state_in id goals) = is_in canceling (state_in id goals) p in
          subst (λ (n : GoalId). AtWork canceling id (change_first (has_id n) (after_event event.Execute) goals)) (sym (eqb-true goal id e))
          (ap (λ (held : Option State). may_be_polled canceling held) (state_moved (after_event event.Execute) (λ one. refl) id event.Execute (λ one. refl) goals found.at found.is) ∙ executed_at_work canceling found.at found.may)
      by false e = ap (λ (held : Option State). may_be_polled canceling held) (state_of_other (after_event event.Execute) (λ one. refl) id goal e goals) ∙ p

  -- a cancel request is answered
  after_answers : (decisions : List Decided) (goals : List GoalRecord) → AtWork canceling id goals → AtWork canceling id (table_after decisions goals)
  after_answers decisions [] p = p
  after_answers decisions (goal ∷ goals) p = by (is_moved decisions goal) (has_id id goal) refl refl (after_answers decisions goals)
    where
      by : (b c : Bool) → is_moved decisions goal ≡ b → has_id id goal ≡ c → (AtWork canceling id goals → AtWork canceling id (table_after decisions goals)) → AtWork canceling id (table_after decisions (goal ∷ goals))
      by true true e f rest = let here : may_be_polled canceling (Some goal.state) ≡ true = rw f at p in rw (e, f) (canceled_at_work canceling goal.state here)
      by true false e f rest = let there : AtWork canceling id goals = rw f at p in rw (e, f) (rest there)
      by false true e f rest = let here : may_be_polled canceling (Some goal.state) ≡ true = rw f at p in rw (e, f) here
      by false false e f rest = let there : AtWork canceling id goals = rw f at p in rw (e, f) (rest there)

  -- one more goal is accepted
  after_acceptance : (goals : List GoalRecord) (new : GoalRecord) → AtWork canceling id goals → AtWork canceling id (goals ++ new ∷ [])
  after_acceptance [] new p = absurd (none canceling p)
    where
      none : (b : Bool) → may_be_polled b None ≡ true → ⊥
      none true e = true≢false (sym e)
      none false e = true≢false (sym e)
  after_acceptance (goal ∷ goals) new p = by (has_id id goal) refl (after_acceptance goals new)
    where
      by : (b : Bool) → has_id id goal ≡ b → (AtWork canceling id goals → AtWork canceling id (goals ++ new ∷ [])) → AtWork canceling id ((goal ∷ goals) ++ new ∷ [])
      by true e rest = let here : may_be_polled canceling (Some goal.state) ≡ true = rw e at p in rw e here
      by false e rest = let there : AtWork canceling id goals = rw e at p in rw e (rest there)

-- ---- worlds

module _ (server : EntityNo) (id : GoalId) (canceling : Bool) where
  -- no two goals of a server have one identifier, and a server's goal may be polled
  abbrev pub StaysAtWork : WorldState → Type 0
  StaysAtWork world = HasDistinct world × AtWork canceling id (goals_at server world)

  -- where some server's goals are changed
  changed : {change : ServerEntry → ServerEntry} {goals : List GoalRecord → List GoalRecord} → Makes change goals → (other : EntityNo) (world : WorldState) → AtWork canceling id (goals_at server world) →
      (other ≡ server → AtWork canceling id (goals (goals_at server world))) → AtWork canceling id (goals_in server (change_first (is_server_at other) change world.servers))
  changed {change} {goals} m other world p here = by (old_or_new m server other world.servers)
    where
      by : OldOrNew server other change goals world.servers → AtWork canceling id (goals_in server (change_first (is_server_at other) change world.servers))
      by (inl same) = subst (λ (some : List GoalRecord). AtWork canceling id some) (sym same) p
      by (inr new) = subst (λ (some : List GoalRecord). AtWork canceling id some) (sym new.1) (here new.0)

  at_work_moves : Moves anywhere StaysAtWork
  at_work_moves = record {
    lines_kept = λ lines world quiet p. p;
    pushes_kept = λ entity new world well free message request result p. p;
    publications_kept = λ topic value world p. publish_kept {P = StaysAtWork} (λ entity sent before q. q) topic value (add_line (line.Pub topic value) world) p;
    calls_kept = λ number client value world found p. p;
    action_clients_known = λ number client world found p. refl;
    execution_kept = λ other goal world found p. (
      (moves_kept distinct_kept.basic).execution_kept other goal world found p.0,
      changed (changing (change_first (has_id goal.id) (after_event event.Execute)) (ids_changed goal.id (after_event event.Execute) (λ one. refl))) other world p.1 (λ is. after_execution canceling id goal.id (goals_at server world) p.1),
    );
    answer_kept = λ other decisions returned count world p. (
      (moves_kept distinct_kept.basic).answer_kept other decisions returned count world p.0,
      changed (changing (table_after decisions) (ids_answered decisions)) other world p.1 (λ is. after_answers canceling id decisions (goals_at server world) p.1),
    );
    tasks_kept = λ other goal task world p. (distinct_kept.basic.tasks_kept other goal task world p.0, changed (tasking goal task) other world p.1 (λ is. p.1));
    arrivals_kept = λ other goal world p. (distinct_kept.basic.arrivals_kept other goal world p.0, changed (goal_arriving goal (next_arrival world)) other world p.1 (λ is. p.1));
    sending_kept = λ client world p. p;
    variables_kept = λ group variables world p. p;
  }

  at_work_tells : Tells StaysAtWork
  at_work_tells = record {
    results_kept = λ other goal status value client world p. p;
    notes_kept = λ other goal change world same unmoved p. (
      (tells_kept distinct_kept.basic).notes_kept other goal change world same unmoved p.0,
      changed (changing (change_first (has_id goal) change) (ids_changed goal change same)) other world p.1 (λ is. ap (λ (held : Option State). may_be_polled canceling held) (state_left change same id goal unmoved (goals_at server world)) ∙ p.1),
    );
  }

  -- a callback polls another goal, or none
  abbrev pub PollsAnother : Ready → Type 0
  PollsAnother one = (goal : GoalId) (value : ℤ) (asked : Bool) → one.cause ≡ cause.Woke goal value asked → one.entity ≡ server → goal == id ≡ false

  said_at_work : (other : EntityNo) (found : Option GoalRecord) (world : WorldState) → AtWork canceling id (goals_at server world) → AtWork canceling id (goals_at server (state_said other found world))
  said_at_work other None world p = p
  said_at_work other (Some goal) world p = p

  ended_at_work : (one : Ready) → PollsAnother one → (goal : GoalId) (value : ℤ) (asked : Bool) (by : Event) (result : ℤ) (world : WorldState) → one.cause ≡ cause.Woke goal value asked → StaysAtWork world → StaysAtWork (ended one.entity goal by result one.moment world)
  ended_at_work one other goal value asked by result world same p = (
    end_kept distinct_kept.basic one.entity goal by result one.moment world p.0,
    said_at_work one.entity (goal_at one.entity goal (with_ended one.entity goal by result one.moment world)) (with_ended one.entity goal by result one.moment world)
        (changed (changing (change_first (has_id goal) (after_end by result one.moment)) (ids_changed goal (after_end by result one.moment) (λ one. refl))) one.entity world p.1 (λ is. ap (λ (held : Option State). may_be_polled canceling held) (state_of_other (after_end by result one.moment) (λ record_of. refl) id goal (other goal value asked same is) (goals_at server world)) ∙ p.1)),
  )

  -- so it stays at work while such callbacks run
  others_run : (one : Ready) (world : WorldState) → PollsAnother one → StaysAtWork world → StaysAtWork (run one world)
  others_run one world other p =
      run_keeps at_work_moves one (λ before none q. q)
      (λ request how before same room q. (
        distinct_kept.accepts_kept one.entity one.moment how request before room q.0,
        changed (accepting (next_arrival before) one.moment how request) one.entity before q.1 (λ is. after_acceptance canceling id (goals_at server before) (new_goal request.id request.value one.moment how) q.1),
      ))
      (ends_told at_work_moves at_work_tells one (λ goal value asked by result reached before same leads q. ended_at_work one other goal value asked by result before same q))
      (asks_told at_work_moves at_work_tells one (λ before q. q))
      (λ entity new before answers q. q) world p

  pub all_others_run : (list : List Ready) (world : WorldState) → AllByRecursion PollsAnother list → StaysAtWork world → StaysAtWork (run_all list world)
  all_others_run [] world others p = p
  all_others_run (one ∷ list) world others p = all_others_run list (run one world) others.1 (others_run one world others.0 p)

  -- and in its own poll until that is closed
  pub stays_unclosed : (one : Ready) (world : WorldState) → StaysAtWork world → StaysAtWork (unclosed one world)
  stays_unclosed one world p = unclosed_keeps at_work_moves one world p
