-- What each change makes of one goal's statuses and state.
use Rattle.std.proofs.Common.{◌≡◌, ◌⊎◌, inl, inr, ℕ, ℤ, Bool, true, false, ◌==◌, List, [], ◌∷◌, ◌++◌, Option, None, Some, is_some, refl, sym, ap, subst, ◌∙◌, true≢false, append_assoc, not}
use Rattle.std.specs.List.{AllByRecursion, IsDistinct, filter, find}
use Rattle.std.specs.Option.{option_map, unwrap_or}
use Rattle.std.proofs.lemmas.Bool.{eqb-true, eq-eqb, and_parts, not-false}
use Rattle.std.proofs.lemmas.Grind.{flat_map-append}
use Rattle.std.proofs.lemmas.List.{append-nil}
use Rattle.exec_goal.specs.Calls.{state_in, end_state}
use Rattle.exec_goal.specs.Cancel.{Decided, is_moved, moved, is_accepted_for, table_after}
use Rattle.exec_goal.specs.State.{Transition, after, status_of, is_cancelable, is_accepted, is_terminal, execute, cancel_accepted, cancel_executing}
use Rattle.exec_goal.specs.Table.{GoalRecord, has_id, holds_id, moved_by, after_event, after_end, accepted_state, new_goal, is_expired, unexpired}
use Rattle.exec_goal.specs.declared.state.State.{State}
use Rattle.exec_goal.specs.declared.state.State.TheVariants as state
use Rattle.exec_msg.specs.Lists.{change_first}
use Rattle.exec_msg.specs.declared.goal.Acceptance.{Acceptance}
use Rattle.exec_msg.specs.declared.goal.Acceptance.TheVariants as acceptance
use Rattle.exec_msg.specs.declared.goal.Event.{Event}
use Rattle.exec_msg.specs.declared.goal.Event.TheVariants as event
use Rattle.exec_msg.specs.declared.goal.GoalStatus.{GoalStatus}
use Rattle.exec_msg.specs.declared.goal.GoalStatus.TheVariants as status
use Rattle.exec_msg.specs.declared.goal.ReturnCode.{ReturnCode}
use Rattle.exec_msg.specs.declared.line.Line.{Line}
use Rattle.exec_msg.specs.declared.line.Line.TheVariants as line
use Rattle.exec_rules.proofs.Identifiers.{Distinct, distinct_more, filter_all, filter_distinct}
use Rattle.exec_rules.proofs.Keeping.{ids_changed, ids_answered}
use Rattle.exec_laws.proofs.Statuses.{Told, told_step, told_new, told_gone, state_of_other, state_moved, found_state, none_in, state_behind, state_before, EndsIn, ends_in}
use Rattle.exec_rules.specs.Close.{GoalRequest, accepted_lines, moved_lines}
use Rattle.exec_rules.specs.Lines.{statuses_of}
use Rattle.exec_msg.specs.Numbers.{EntityNo, GoalId, Moment}
use Rattle.exec_rules.proofs.Running.{found_test}
use Rattle.exec_rules.proofs.Records.{ids}

-- ---- one goal's statuses and state

-- the statuses in these lines are lawful and fit the state that is held, and a server's goals have different identifiers
pub record Fits (server : EntityNo) (id : GoalId) (lines : List Line) (goals : List GoalRecord) : Type 0 where
  pub told : Told (statuses_of server id lines) (state_in id goals)
  pub distinct : Distinct (ids goals)

-- what a line of a state says of a goal
said_here : (server : EntityNo) (id : GoalId) (one : GoalStatus) → statuses_of server id (line.State server id one ∷ []) ≡ one ∷ []
said_here server id one = rw (eq-eqb server server refl, eq-eqb id id refl) refl

pub said_of_other_server : (server : EntityNo) (id : GoalId) (other : EntityNo) (goal : GoalId) (one : GoalStatus) → other == server ≡ false → statuses_of server id (line.State other goal one ∷ []) ≡ []
said_of_other_server server id other goal one apart = rw apart refl

said_of_other_goal : (server : EntityNo) (id goal : GoalId) (one : GoalStatus) → goal == id ≡ false → statuses_of server id (line.State server goal one ∷ []) ≡ []
said_of_other_goal server id goal one apart = rw (eq-eqb server server refl, apart) refl

pub turned : (a b : ℕ) → a == b ≡ false → b == a ≡ false
turned a b apart = by (b == a) refl
  where
    by : (t : Bool) → b == a ≡ t → b == a ≡ false
    by true same = absurd (true≢false (sym (eq-eqb a b (sym (eqb-true b a same))) ∙ apart))
    by false e = e

-- ---- lines of acceptances

module _ (server : EntityNo) (id : GoalId) where
  -- an accepted goal's lines lead from none to its state
  told_accepted : (goal : GoalId) (how : Acceptance) (said : List GoalStatus) → goal == id ≡ true → Told said None → Told (said ++ statuses_of server id (accepted_lines server goal how)) (Some (accepted_state how))
  told_accepted goal acceptance.Execute said f p =
      rw (eq-eqb server server refl, f)
      (subst (λ (all : List GoalStatus). Told all (Some state.Executing)) (append_assoc said (status.Accepted ∷ []) (status.Executing ∷ []))
      (told_step (said ++ status.Accepted ∷ []) state.Accepted event.Execute state.Executing execute (told_new said p)))
  told_accepted goal acceptance.Defer said f p = rw (eq-eqb server server refl, f) (told_new said p)

  accepted_apart : (goal : GoalId) (how : Acceptance) → goal == id ≡ false → statuses_of server id (accepted_lines server goal how) ≡ []
  accepted_apart goal acceptance.Execute apart = rw (eq-eqb server server refl, apart) refl
  accepted_apart goal acceptance.Defer apart = rw (eq-eqb server server refl, apart) refl

pub accepted_elsewhere : (server : EntityNo) (id : GoalId) (other : EntityNo) (goal : GoalId) (how : Acceptance) → other == server ≡ false → statuses_of server id (accepted_lines other goal how) ≡ []
accepted_elsewhere server id other goal acceptance.Execute apart = rw apart refl
accepted_elsewhere server id other goal acceptance.Defer apart = rw apart refl

-- ---- what a cancel request makes of a goal

cancel_moves : (at : State) → is_cancelable at ≡ true → moved_by event.CancelGoal at ≡ state.Canceling
cancel_moves state.Accepted e = refl
cancel_moves state.Executing e = refl
cancel_moves state.Canceling e = absurd cc
cancel_moves state.Succeeded e = absurd cc
cancel_moves state.Canceled e = absurd cc
cancel_moves state.Aborted e = absurd cc

cancel_step : (before : State) → is_cancelable before ≡ true → Transition before event.CancelGoal state.Canceling
cancel_step state.Accepted e = cancel_accepted
cancel_step state.Executing e = cancel_executing
cancel_step state.Canceling e = absurd cc
cancel_step state.Succeeded e = absurd cc
cancel_step state.Canceled e = absurd cc
cancel_step state.Aborted e = absurd cc

-- it is canceling from now on, and a line says so
record IsMoved (server : EntityNo) (id : GoalId) (decisions : List Decided) (goals : List GoalRecord) : Type 0 where
  before : State
  may : is_cancelable before ≡ true
  was : state_in id goals ≡ Some before
  says : statuses_of server id (moved_lines server (moved decisions goals)) ≡ status.Canceling ∷ []
  is : state_in id (table_after decisions goals) ≡ Some state.Canceling

-- or nothing
abbrev IsAnswered : EntityNo → GoalId → List Decided → List GoalRecord → Type 0
IsAnswered server id decisions goals =
    ((statuses_of server id (moved_lines server (moved decisions goals)) ≡ []) × (state_in id (table_after decisions goals) ≡ state_in id goals))
    ⊎ IsMoved server id decisions goals

-- none of other goals is of the identifier
none_said : (server : EntityNo) (id : GoalId) (decisions : List Decided) (goals : List GoalRecord) → AllByRecursion (λ other. id == other ≡ false) (ids goals) → statuses_of server id (moved_lines server (moved decisions goals)) ≡ []
none_said server id decisions [] p = refl
none_said server id decisions (goal ∷ goals) p = by (is_moved decisions goal) refl (none_said server id decisions goals p.1)
  where
    by : (b : Bool) → is_moved decisions goal ≡ b → statuses_of server id (moved_lines server (moved decisions goals)) ≡ [] → statuses_of server id (moved_lines server (moved decisions (goal ∷ goals))) ≡ []
    by true e rest = rw (e, eq-eqb server server refl, turned id goal.id p.0) rest
    by false e rest = rw e rest

answered : (server : EntityNo) (id : GoalId) (decisions : List Decided) (goals : List GoalRecord) → Distinct (ids goals) → IsAnswered server id decisions goals
unfolding IsDistinct
answered server id decisions [] p = inl (refl, refl)
answered server id decisions (goal ∷ goals) p = by (is_moved decisions goal) (goal.id == id) refl refl (answered server id decisions goals p.1)
  where
    none : goal.id == id ≡ true → statuses_of server id (moved_lines server (moved decisions goals)) ≡ []
    none f = none_said server id decisions goals (subst (λ (at : GoalId). AllByRecursion (λ other. at == other ≡ false) (ids goals)) (eqb-true goal.id id f) p.0)

    lifted : (b : Bool) → is_moved decisions goal ≡ b → goal.id == id ≡ false → IsAnswered server id decisions goals → IsAnswered server id decisions (goal ∷ goals)
    lifted true e f (inl q) = inl (rw (e, eq-eqb server server refl, f) q.0, rw (e, f) q.1)
    lifted true e f (inr q) = inr (record { before = q.before; may = q.may; was = rw f q.was; says = rw (e, eq-eqb server server refl, f) q.says; is = rw (e, f) q.is })
    lifted false e f (inl q) = inl (rw e q.0, rw (e, f) q.1)
    lifted false e f (inr q) = inr (record { before = q.before; may = q.may; was = rw f q.was; says = rw e q.says; is = rw (e, f) q.is })

    by : (b c : Bool) → is_moved decisions goal ≡ b → goal.id == id ≡ c → IsAnswered server id decisions goals → IsAnswered server id decisions (goal ∷ goals)
    by true true e f rest =
        let may : is_cancelable goal.state ≡ true = (and_parts (is_accepted_for decisions goal.id) (is_cancelable goal.state) e).1 in
        inr (record {
          before = goal.state;
          may = may;
          was = rw f refl;
          says = rw (e, eq-eqb server server refl, f, none f) refl;
          is = rw (e, f) (ap (λ (at : State). Some at) (cancel_moves goal.state may));
        })
    by false true e f rest = inl (rw e (none f), rw (e, f) refl)
    by b false e f rest = lifted b e f rest

pub apart_said : (server : EntityNo) (id : GoalId) (other : EntityNo) (goals : List GoalRecord) → other == server ≡ false → statuses_of server id (moved_lines other goals) ≡ []
apart_said server id other [] apart = refl
apart_said server id other (goal ∷ goals) apart = rw apart (apart_said server id other goals apart)

-- ---- what an expiry makes of it

none_of_all : (id : GoalId) (goals : List GoalRecord) → AllByRecursion (λ other. id == other ≡ false) (ids goals) → state_in id goals ≡ None
none_of_all id [] p = refl
none_of_all id (goal ∷ goals) p = rw (turned id goal.id p.0) (none_of_all id goals p.1)

abbrev KeptOrGone : GoalId → (GoalRecord → Bool) → List GoalRecord → Type 0
KeptOrGone id test goals =
    (state_in id (filter test goals) ≡ state_in id goals) ⊎ ((state_in id (filter test goals) ≡ None) × ((at : State) × ((state_in id goals ≡ Some at) × (is_terminal at ≡ true))))

kept_or_gone : (id : GoalId) (test : GoalRecord → Bool) → ((goal : GoalRecord) → test goal ≡ false → is_terminal goal.state ≡ true) → (goals : List GoalRecord) → Distinct (ids goals) → KeptOrGone id test goals
unfolding IsDistinct
kept_or_gone id test final [] p = inl refl
kept_or_gone id test final (goal ∷ goals) p = by (test goal) (has_id id goal) refl refl (kept_or_gone id test final goals p.1)
  where
    by : (b c : Bool) → test goal ≡ b → has_id id goal ≡ c → KeptOrGone id test goals → KeptOrGone id test (goal ∷ goals)
    by true true e f rest = inl (rw (e, f) refl)
    by true false e f (inl q) = inl (rw (e, f) q)
    by true false e f (inr q) = inr (rw (e, f) q.0, (q.1.0, (rw f q.1.1.0, q.1.1.1)))
    by false true e f rest =
        inr (
          rw e (none_of_all id (filter test goals) (filter_all (λ other. id == other ≡ false) test goals (subst (λ (n : GoalId). AllByRecursion (λ other. n == other ≡ false) (ids goals)) (eqb-true goal.id id f) p.0))),
          (goal.state, (rw f refl, final goal e)),
        )
    by false false e f (inl q) = inl (rw (e, f) q)
    by false false e f (inr q) = inr (rw e q.0, (q.1.0, (rw f q.1.1.0, q.1.1.1)))

pub forgotten_final : (moment : Moment) (timeout : Option ℕ) (goal : GoalRecord) → not (is_expired moment timeout goal) ≡ false → is_terminal goal.state ≡ true
forgotten_final moment timeout goal e = by timeout (not-false (is_expired moment timeout goal) e)
  where
    by : (some : Option ℕ) → is_expired moment some goal ≡ true → is_terminal goal.state ≡ true
    by None f = absurd (true≢false (sym f))
    by (Some ticks) f = (and_parts (is_terminal goal.state) _ f).0

-- ---- ends

-- a goal that ends is found then
pub ended_found : (goals : List GoalRecord) (goal : GoalId) (by : Event) (value : ℤ) (moment : Moment) (reached : State) → end_state goal by goals ≡ Some reached → find (has_id goal) (change_first (has_id goal) (after_end by value moment) goals) ≡ None → ⊥
ended_found goals goal by value moment reached leads none =
    let from : EndsIn (state_in goal goals) by reached = ends_in (state_in goal goals) by reached leads in
    true≢false (ap (λ (o : Option State). is_some o) (sym (state_moved (after_end by value moment) (λ one. refl) goal by (λ one. refl) goals from.at from.is) ∙ ap (λ (o : Option GoalRecord). option_map (λ one. one.state) o) none))

-- ---- changes

module _ (server : EntityNo) (id : GoalId) where
  -- more lines that say these statuses, and goals among which it has this state
  fits_by : (lines more : List Line) (goals : List GoalRecord) (said : List GoalStatus) (at : Option State) → statuses_of server id more ≡ said → state_in id goals ≡ at → Distinct (ids goals) → Told (statuses_of server id lines ++ said) at → Fits server id (lines ++ more) goals
  fits_by lines more goals said at says is distinct told = record {
    told = subst (λ (all : List GoalStatus). Told all (state_in id goals)) (sym (flat_map-append _ lines more ∙ ap (λ (new : List GoalStatus). statuses_of server id lines ++ new) says))
        (subst (λ (held : Option State). Told (statuses_of server id lines ++ said) held) (sym is) told);
    distinct = distinct;
  }

  module _ (lines : List Line) (goals : List GoalRecord) (f : Fits server id lines goals) where
    -- goals that leave its state
    pub fits_left : (next : List GoalRecord) → state_in id next ≡ state_in id goals → Distinct (ids next) → Fits server id lines next
    fits_left next same distinct = record { told = subst (λ (held : Option State). Told (statuses_of server id lines) held) (sym same) f.told; distinct = distinct }

    -- with lines that say nothing of it
    pub fits_quiet : (more : List Line) (next : List GoalRecord) → statuses_of server id more ≡ [] → state_in id next ≡ state_in id goals → Distinct (ids next) → Fits server id (lines ++ more) next
    fits_quiet more next quiet same distinct =
        fits_by lines more next [] (state_in id goals) quiet same distinct (subst (λ (all : List GoalStatus). Told all (state_in id goals)) (sym (append-nil (statuses_of server id lines))) f.told)

    -- a transition, with the line that says so
    fits_step : (more : List Line) (next : List GoalRecord) (before : State) (by : Event) (reached : State) → Transition before by reached → state_in id goals ≡ Some before → statuses_of server id more ≡ status_of reached ∷ [] → state_in id next ≡ Some reached → ids next ≡ ids goals → Fits server id (lines ++ more) next
    fits_step more next before by reached moves was says is same =
        fits_by lines more next (status_of reached ∷ []) (Some reached) says is (subst (λ (some : List GoalId). Distinct some) (sym same) f.distinct)
        (told_step (statuses_of server id lines) before by reached moves (subst (λ (held : Option State). Told (statuses_of server id lines) held) was f.told))

    -- an event of the goal of an identifier, with the line of its state
    fits_event : (goal : GoalId) (change : GoalRecord → GoalRecord) (by : Event) (before reached : State) → ((one : GoalRecord) → (change one).id ≡ one.id) → ((one : GoalRecord) → (change one).state ≡ moved_by by one.state) →
        Transition before by reached → moved_by by before ≡ reached → state_in goal goals ≡ Some before → Fits server id (lines ++ line.State server goal (status_of reached) ∷ []) (change_first (has_id goal) change goals)
    fits_event goal change by before reached named moves step leads was = where_same (goal == id) refl
      where
        where_same : (b : Bool) → goal == id ≡ b → Fits server id (lines ++ line.State server goal (status_of reached) ∷ []) (change_first (has_id goal) change goals)
        where_same true e =
            let same : goal ≡ id = eqb-true goal id e in
            let is : state_in goal (change_first (has_id goal) change goals) ≡ Some reached = state_moved change named goal by moves goals before was ∙ ap (λ (at : State). Some at) leads in
            fits_step (line.State server goal (status_of reached) ∷ []) (change_first (has_id goal) change goals) before by reached step
            (subst (λ (n : GoalId). state_in n goals ≡ Some before) same was)
            (ap (λ (n : GoalId). statuses_of server id (line.State server n (status_of reached) ∷ [])) same ∙ said_here server id (status_of reached))
            (ap (λ (n : GoalId). state_in n (change_first (has_id goal) change goals)) (sym same) ∙ is)
            (ids_changed goal change named goals)
        where_same false e =
            fits_quiet (line.State server goal (status_of reached) ∷ []) (change_first (has_id goal) change goals) (said_of_other_goal server id goal (status_of reached) e)
            (state_of_other change named id goal e goals) (subst (λ (some : List GoalId). Distinct some) (sym (ids_changed goal change named goals)) f.distinct)

    -- ---- executions and ends

    -- the oldest goal that is accepted is executed
    pub fits_executed : (goal : GoalRecord) → find (λ one. is_accepted one.state) goals ≡ Some goal → Fits server id (lines ++ line.State server goal.id (status_of (moved_by event.Execute goal.state)) ∷ []) (change_first (has_id goal.id) (after_event event.Execute) goals)
    fits_executed goal found =
        let accepted : goal.state ≡ state.Accepted = accepted_is goal.state (found_test (λ one. is_accepted one.state) goals goal found) in
        subst (λ (at : State). Fits server id (lines ++ line.State server goal.id (status_of (moved_by event.Execute at)) ∷ []) (change_first (has_id goal.id) (after_event event.Execute) goals)) (sym accepted)
        (fits_event goal.id (after_event event.Execute) event.Execute state.Accepted state.Executing (λ one. refl) (λ one. refl) execute refl
        (found_state (λ one. is_accepted one.state) goals goal f.distinct found ∙ ap (λ (at : State). Some at) accepted))
      where
        accepted_is : (at : State) → is_accepted at ≡ true → at ≡ state.Accepted
        accepted_is state.Accepted e = refl
        accepted_is state.Executing e = absurd cc
        accepted_is state.Canceling e = absurd cc
        accepted_is state.Succeeded e = absurd cc
        accepted_is state.Canceled e = absurd cc
        accepted_is state.Aborted e = absurd cc

    -- a goal ends, where the event leads to a terminal state
    pub fits_ended : ((before : State) (by : Event) (reached : State) → after before by ≡ Some reached → Transition before by reached) → (goal : GoalId) (by : Event) (value : ℤ) (moment : Moment) (reached : State) (found : GoalRecord) → end_state goal by goals ≡ Some reached →
        find (has_id goal) (change_first (has_id goal) (after_end by value moment) goals) ≡ Some found → Fits server id (lines ++ line.State server found.id (status_of found.state) ∷ []) (change_first (has_id goal) (after_end by value moment) goals)
    fits_ended moves goal by value moment reached found leads is =
        let from : EndsIn (state_in goal goals) by reached = ends_in (state_in goal goals) by reached leads in
        let to : moved_by by from.at ≡ reached = ap (λ (o : Option State). unwrap_or o from.at) from.leads in
        let named : found.id ≡ goal = eqb-true found.id goal (found_test (has_id goal) (change_first (has_id goal) (after_end by value moment) goals) found is) in
        let ended : Some found.state ≡ Some reached =
        sym (ap (λ (o : Option GoalRecord). option_map (λ one. one.state) o) is)
        ∙ state_moved (after_end by value moment) (λ one. refl) goal by (λ one. refl) goals from.at from.is ∙ ap (λ (at : State). Some at) to in
        subst (λ (n : GoalId). Fits server id (lines ++ line.State server n (status_of found.state) ∷ []) (change_first (has_id goal) (after_end by value moment) goals)) (sym named)
        (subst (λ (at : State). Fits server id (lines ++ line.State server goal (status_of at) ∷ []) (change_first (has_id goal) (after_end by value moment) goals)) (sym (ap (λ (o : Option State). unwrap_or o reached) ended))
        (fits_event goal (after_end by value moment) by from.at reached (λ one. refl) (λ one. refl) (moves from.at by reached from.leads) to from.is))

    -- ---- acceptance

    pub fits_accepted : (request : GoalRequest) (moment : Moment) (how : Acceptance) → holds_id request.id goals ≡ false → Fits server id (lines ++ accepted_lines server request.id how) (goals ++ new_goal request.id request.value moment how ∷ [])
    fits_accepted request moment how fresh = where_same (request.id == id) refl
      where
        where_same : (b : Bool) → request.id == id ≡ b → Fits server id (lines ++ accepted_lines server request.id how) (goals ++ new_goal request.id request.value moment how ∷ [])
        where_same true e =
            let none : state_in id goals ≡ None = ap (λ (n : GoalId). state_in n goals) (sym (eqb-true request.id id e)) ∙ none_in request.id goals fresh in
            fits_by lines (accepted_lines server request.id how) (goals ++ new_goal request.id request.value moment how ∷ []) (statuses_of server id (accepted_lines server request.id how)) (Some (accepted_state how)) refl
            (state_behind id goals (new_goal request.id request.value moment how) none ∙ rw e refl)
            (distinct_more goals (new_goal request.id request.value moment how) f.distinct fresh)
            (told_accepted server id request.id how (statuses_of server id lines) e (subst (λ (held : Option State). Told (statuses_of server id lines) held) none f.told))
        where_same false e =
            fits_quiet (accepted_lines server request.id how) (goals ++ new_goal request.id request.value moment how ∷ []) (accepted_apart server id request.id how e)
            (state_before id goals (new_goal request.id request.value moment how) e) (distinct_more goals (new_goal request.id request.value moment how) f.distinct fresh)

    -- ---- cancel requests

    -- the goals that a cancel request moves, and what it makes of the others
    pub fits_answered : (decisions : List Decided) (returned : ReturnCode) (count : ℕ) → Fits server id (lines ++ (moved_lines server (moved decisions goals) ++ line.Code server returned count ∷ [])) (table_after decisions goals)
    fits_answered decisions returned count = by (answered server id decisions goals f.distinct)
      where
        said : statuses_of server id (moved_lines server (moved decisions goals) ++ line.Code server returned count ∷ []) ≡ statuses_of server id (moved_lines server (moved decisions goals))
        said = flat_map-append _ (moved_lines server (moved decisions goals)) (line.Code server returned count ∷ []) ∙ append-nil (statuses_of server id (moved_lines server (moved decisions goals)))

        by : IsAnswered server id decisions goals → Fits server id (lines ++ (moved_lines server (moved decisions goals) ++ line.Code server returned count ∷ [])) (table_after decisions goals)
        by (inl q) =
            fits_quiet (moved_lines server (moved decisions goals) ++ line.Code server returned count ∷ []) (table_after decisions goals) (said ∙ q.0) q.1
            (subst (λ (some : List GoalId). Distinct some) (sym (ids_answered decisions goals)) f.distinct)
        by (inr q) =
            fits_step (moved_lines server (moved decisions goals) ++ line.Code server returned count ∷ []) (table_after decisions goals) q.before event.CancelGoal state.Canceling (cancel_step q.before q.may) q.was (said ∙ q.says) q.is (ids_answered decisions goals)

    -- ---- expiry

    pub fits_expired : (moment : Moment) (timeout : Option ℕ) → Fits server id lines (unexpired moment timeout goals)
    fits_expired moment timeout = by (kept_or_gone id (λ goal. not (is_expired moment timeout goal)) (forgotten_final moment timeout) goals f.distinct)
      where
        by : KeptOrGone id (λ goal. not (is_expired moment timeout goal)) goals → Fits server id lines (unexpired moment timeout goals)
        by (inl e) = fits_left (unexpired moment timeout goals) e (filter_distinct (λ goal. not (is_expired moment timeout goal)) goals f.distinct)
        by (inr q) = record {
          told = subst (λ (held : Option State). Told (statuses_of server id lines) held) (sym q.0) (told_gone (statuses_of server id lines) q.1.0 q.1.1.1 (subst (λ (held : Option State). Told (statuses_of server id lines) held) q.1.1.0 f.told));
          distinct = filter_distinct (λ goal. not (is_expired moment timeout goal)) goals f.distinct;
        }
