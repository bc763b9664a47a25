-- The statuses of one goal in the lines, and the state that its server holds.
use Rattle.std.proofs.Common.{◌≡◌, inl, inr, Bool, true, false, ◌==◌, List, [], ◌∷◌, ◌++◌, Option, None, Some, is_some, refl, sym, ap, subst, ◌∙◌, true≢false}
use Rattle.std.specs.List.{AllByRecursion, IsDistinct, find}
use Rattle.std.specs.Option.{unwrap_or}
use Rattle.std.proofs.lemmas.Bool.{eqb-true, eq-eqb, or_parts}
use Rattle.exec_goal.specs.Calls.{state_in, moved_to, where_terminal}
use Rattle.exec_goal.specs.State.{Transition, after, status_of, is_terminal}
use Rattle.exec_goal.specs.Table.{GoalRecord, has_id, holds_id, moved_by}
use Rattle.exec_goal.specs.declared.state.State.{State}
use Rattle.exec_goal.specs.declared.state.State.TheVariants as state
use Rattle.exec_msg.specs.Lists.{change_first}
use Rattle.exec_msg.specs.declared.goal.Event.{Event}
use Rattle.exec_msg.specs.declared.goal.GoalStatus.{GoalStatus}
use Rattle.exec_msg.specs.declared.goal.GoalStatus.TheVariants as status
use Rattle.exec_rules.proofs.Identifiers.{Distinct}
use Rattle.exec_msg.specs.Numbers.{GoalId}
use Rattle.exec_laws.specs.Goals.{IsFinal, MayCome, AreLawful}
use Rattle.exec_rules.specs.World.{}
use Rattle.exec_rules.proofs.Records.{ids}

-- ---- statuses

-- the last status, or what came before them
abbrev pub last_of : Option GoalStatus → List GoalStatus → Option GoalStatus
last_of last [] = last
last_of last (one ∷ more) = last_of (Some one) more

-- the last status is that of the goal that is held, and final where none is
abbrev pub Matches : Option GoalStatus → Option State → Type 0
Matches last (Some at) = last ≡ Some (status_of at)
Matches None None = Unit {0}
Matches (Some last) None = IsFinal last

abbrev pub Told : List GoalStatus → Option State → Type 0
Told said held = AreLawful None said × Matches (last_of None said) held

lawful_more : (first : Option GoalStatus) (said : List GoalStatus) (one : GoalStatus) → AreLawful first said → MayCome (last_of first said) one → AreLawful first (said ++ one ∷ [])
lawful_more first [] one p may = (may, tt)
lawful_more first (next ∷ said) one p may = (p.0, lawful_more (Some next) said one p.1 may)

last_more : (first : Option GoalStatus) (said : List GoalStatus) (one : GoalStatus) → last_of first (said ++ one ∷ []) ≡ Some one
last_more first [] one = refl
last_more first (next ∷ said) one = last_more (Some next) said one

told_more : (said : List GoalStatus) (held : Option State) (at : State) → Told said held → MayCome (last_of None said) (status_of at) → Told (said ++ status_of at ∷ []) (Some at)
told_more said held at p may = (lawful_more None said (status_of at) p.0 may, last_more None said (status_of at))

-- a transition has a status that may come next
pub told_step : (said : List GoalStatus) (before : State) (by : Event) (next : State) → Transition before by next → Told said (Some before) → Told (said ++ status_of next ∷ []) (Some next)
told_step said before by next moves p =
    told_more said (Some before) next p
    (subst (λ (last : Option GoalStatus). MayCome last (status_of next)) (sym p.1)
    (inl (record { source = before; by = by; target = next; moves = moves; comes_from = refl; goes_to = refl })))

may_begin : (last : Option GoalStatus) → Matches last None → MayCome last status.Accepted
may_begin None p = refl
may_begin (Some last) p = inr (p, refl)

-- and so has an acceptance where no such goal is held
pub told_new : (said : List GoalStatus) → Told said None → Told (said ++ status.Accepted ∷ []) (Some state.Accepted)
told_new said p = told_more said None state.Accepted p (may_begin (last_of None said) p.1)

final_status : (at : State) → is_terminal at ≡ true → IsFinal (status_of at)
final_status state.Accepted e = absurd cc
final_status state.Executing e = absurd cc
final_status state.Canceling e = absurd cc
final_status state.Succeeded e = inl refl
final_status state.Canceled e = inr (inl refl)
final_status state.Aborted e = inr (inr refl)

-- a goal that ended may be forgotten
pub told_gone : (said : List GoalStatus) (at : State) → is_terminal at ≡ true → Told said (Some at) → Told said None
told_gone said at final p = (p.0, subst (λ (last : Option GoalStatus). Matches last None) (sym p.1) (final_status at final))

-- ---- the state that is held

-- changes of goals under their identifiers
module _ (change : GoalRecord → GoalRecord) (same : (goal : GoalRecord) → (change goal).id ≡ goal.id) where
  -- a change that leaves states
  pub state_left : (id other : GoalId) → ((goal : GoalRecord) → (change goal).state ≡ goal.state) → (goals : List GoalRecord) → state_in id (change_first (has_id other) change goals) ≡ state_in id goals
  state_left id other unmoved [] = refl
  state_left id other unmoved (goal ∷ goals) = by (has_id other goal) (has_id id goal) refl refl (state_left id other unmoved goals)
    where
      by : (b c : Bool) → has_id other goal ≡ b → has_id id goal ≡ c → state_in id (change_first (has_id other) change goals) ≡ state_in id goals → state_in id (change_first (has_id other) change (goal ∷ goals)) ≡ state_in id (goal ∷ goals)
      by true true e f rest = rw (e, same goal, f, unmoved goal) refl
      by true false e f rest = rw (e, same goal, f) refl
      by false true e f rest = rw (e, f) refl
      by false false e f rest = rw (e, f) rest

  -- a change of another goal
  pub state_of_other : (id other : GoalId) → other == id ≡ false → (goals : List GoalRecord) → state_in id (change_first (has_id other) change goals) ≡ state_in id goals
  state_of_other id other apart [] = refl
  state_of_other id other apart (goal ∷ goals) = by (has_id other goal) (has_id id goal) refl refl (state_of_other id other apart goals)
    where
      by : (b c : Bool) → has_id other goal ≡ b → has_id id goal ≡ c → state_in id (change_first (has_id other) change goals) ≡ state_in id goals → state_in id (change_first (has_id other) change (goal ∷ goals)) ≡ state_in id (goal ∷ goals)
      by true true e f rest = absurd (true≢false (sym (eq-eqb other id (sym (eqb-true goal.id other e) ∙ eqb-true goal.id id f)) ∙ apart))
      by true false e f rest = rw (e, same goal, f) refl
      by false true e f rest = rw (e, f) refl
      by false false e f rest = rw (e, f) rest

  -- an event moves it
  pub state_moved : (id : GoalId) (by_event : Event) → ((goal : GoalRecord) → (change goal).state ≡ moved_by by_event goal.state) → (goals : List GoalRecord) (before : State) → state_in id goals ≡ Some before → state_in id (change_first (has_id id) change goals) ≡ Some (moved_by by_event before)
  state_moved id by_event moves [] before e = absurd (true≢false (sym (ap (λ (o : Option State). is_some o) e)))
  state_moved id by_event moves (goal ∷ goals) before found = by (has_id id goal) refl (state_moved id by_event moves goals before)
    where
      by : (b : Bool) → has_id id goal ≡ b → (state_in id goals ≡ Some before → state_in id (change_first (has_id id) change goals) ≡ Some (moved_by by_event before)) → state_in id (change_first (has_id id) change (goal ∷ goals)) ≡ Some (moved_by by_event before)
      by true e rest =
          let here : Some goal.state ≡ Some before = rw e at found in
          rw (e, same goal, e, moves goal) (ap (λ (o : Option State). Some (moved_by by_event (unwrap_or o before))) here)
      by false e rest = let there : state_in id goals ≡ Some before = rw e at found in rw (e, e) (rest there)

-- among goals of different identifiers, one that is found is the one of its identifier
found_apart : (id : GoalId) (test : GoalRecord → Bool) (goals : List GoalRecord) (goal : GoalRecord) → AllByRecursion (λ other. id == other ≡ false) (ids goals) → find test goals ≡ Some goal → id == goal.id ≡ false
found_apart id test [] goal p found = absurd (true≢false (sym (ap (λ (o : Option GoalRecord). is_some o) found)))
found_apart id test (one ∷ goals) goal p found = by (test one) refl (found_apart id test goals goal p.1)
  where
    by : (b : Bool) → test one ≡ b → (find test goals ≡ Some goal → id == goal.id ≡ false) → id == goal.id ≡ false
    by true e rest =
        let here : Some one ≡ Some goal = rw e at found in
        subst (λ (x : GoalRecord). id == x.id ≡ false) (ap (λ (o : Option GoalRecord). unwrap_or o one) here) p.0
    by false e rest = let there : find test goals ≡ Some goal = rw e at found in rest there

pub found_state : (test : GoalRecord → Bool) (goals : List GoalRecord) (goal : GoalRecord) → Distinct (ids goals) → find test goals ≡ Some goal → state_in goal.id goals ≡ Some goal.state
unfolding IsDistinct
found_state test [] goal p found = absurd (true≢false (sym (ap (λ (o : Option GoalRecord). is_some o) found)))
found_state test (one ∷ goals) goal p found = by (test one) refl (found_state test goals goal p.1)
  where
    by : (b : Bool) → test one ≡ b → (find test goals ≡ Some goal → state_in goal.id goals ≡ Some goal.state) → state_in goal.id (one ∷ goals) ≡ Some goal.state
    by true e rest =
        let here : Some one ≡ Some goal = rw e at found in
        let same : one ≡ goal = ap (λ (o : Option GoalRecord). unwrap_or o one) here in
        subst (λ (x : GoalRecord). state_in x.id (one ∷ goals) ≡ Some x.state) same (rw (eq-eqb one.id one.id refl) refl)
    by false e rest =
        let there : find test goals ≡ Some goal = rw e at found in
        rw (found_apart one.id test goals goal p.0 there) (rest there)

-- no goal of an identifier has a state
pub none_in : (id : GoalId) (goals : List GoalRecord) → holds_id id goals ≡ false → state_in id goals ≡ None
none_in id [] e = refl
none_in id (goal ∷ goals) e =
    let parts = or_parts (has_id id goal) (holds_id id goals) e in
    rw parts.0 (none_in id goals parts.1)

-- one more goal is found behind the others
pub state_behind : (id : GoalId) (goals : List GoalRecord) (new : GoalRecord) → state_in id goals ≡ None → state_in id (goals ++ new ∷ []) ≡ state_in id (new ∷ [])
state_behind id [] new e = refl
state_behind id (goal ∷ goals) new e = by (has_id id goal) refl (state_behind id goals new)
  where
    by : (b : Bool) → has_id id goal ≡ b → (state_in id goals ≡ None → state_in id (goals ++ new ∷ []) ≡ state_in id (new ∷ [])) → state_in id ((goal ∷ goals) ++ new ∷ []) ≡ state_in id (new ∷ [])
    by true f rest = let here : Some goal.state ≡ None = rw f at e in absurd (true≢false (ap (λ (o : Option State). is_some o) here))
    by false f rest = let there : state_in id goals ≡ None = rw f at e in rw f (rest there)

pub state_before : (id : GoalId) (goals : List GoalRecord) (new : GoalRecord) → has_id id new ≡ false → state_in id (goals ++ new ∷ []) ≡ state_in id goals
state_before id [] new apart = rw apart refl
state_before id (goal ∷ goals) new apart = by (has_id id goal) refl (state_before id goals new apart)
  where
    by : (b : Bool) → has_id id goal ≡ b → state_in id (goals ++ new ∷ []) ≡ state_in id goals → state_in id ((goal ∷ goals) ++ new ∷ []) ≡ state_in id (goal ∷ goals)
    by true e rest = rw e refl
    by false e rest = rw e rest

-- ---- ends

-- a goal ends in a state from one that is held
pub record EndsIn (held : Option State) (by : Event) (reached : State) : Type 0 where
  pub at : State
  pub is : held ≡ Some at
  pub leads : after at by ≡ Some reached

pub ends_in : (held : Option State) (by : Event) (reached : State) → where_terminal (moved_to by held) ≡ Some reached → EndsIn held by reached
ends_in None by reached e = absurd (true≢false (sym (ap (λ (o : Option State). is_some o) e)))
ends_in (Some at) by reached e = from (after at by) refl e
  where
    from : (o : Option State) → after at by ≡ o → where_terminal o ≡ Some reached → EndsIn (Some at) by reached
    from None f g = absurd (true≢false (sym (ap (λ (o : Option State). is_some o) g)))
    from (Some next) f g = where_it (is_terminal next) refl
      where
        where_it : (b : Bool) → is_terminal next ≡ b → EndsIn (Some at) by reached
        where_it true h = let same : Some next ≡ Some reached = rw h at g in record { at = at; is = refl; leads = f ∙ same }
        where_it false h = let none : None ≡ Some reached = rw h at g in absurd (true≢false (sym (ap (λ (o : Option State). is_some o) none)))
