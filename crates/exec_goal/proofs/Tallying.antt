-- How a table's tally follows what is done to its goals.
use Rattle.std.proofs.Common.{◌≡◌, ℕ, zero, suc, ◌+◌, ◌≤◌, ◌<◌, ◌^◌, ◌==◌, ◌&&◌, List, [], ◌∷◌, ◌++◌, length, map, Bool, true, false, not, cond, nat_le, if◌then◌else◌, Option, None, Some, slice_get, slice_set, remove, get_or, refl, ap, sym, subst, ◌∙◌, arith}
use Rattle.std.specs.List.{filter, find, AllByRecursion}
use Rattle.std.specs.Map.{lookup, set_value}
use Rattle.std.specs.Option.{option_map, unwrap_or}
use Rattle.std.proofs.lemmas.Bool.{and_parts, both_ways, not-false, leb-true, leb-false, le-leb}
use Rattle.std.proofs.lemmas.List.{length-map, map_push, map-set}
use Rattle.std.proofs.lemmas.Option.{get_or_from_slice_get, slice_get_within, slice_get-map}
use Rattle.indexmap.proofs.SetLemmas.{map-remove}
use Rattle.indexmap.specs.IndexMap.{set_value_at}
use Rattle.exec_msg.specs.Lists.{change_first}
use Rattle.exec_msg.specs.declared.limits.TheConstants.{GOALS}
use Rattle.exec_goal.proofs.Entries.{found-in, changed-in, change_first-same}
use Rattle.exec_goal.proofs.Looping.{records-set_value_at, last-there, set-last}
use Rattle.exec_goal.specs.inner.Places.{IsFirst}
use Rattle.exec_goal.specs.inner.Held.{record_of, records_of}
use Rattle.exec_goal.specs.Cancel.{after_answer_by}
use Rattle.exec_goal.specs.Info.{info_of}
use Rattle.exec_goal.proofs.Moving.{transition_from}
use Rattle.exec_goal.specs.State.{Transition, execute, cancel_accepted, cancel_executing, succeed, abort, succeed_canceling, abort_canceling, canceled, after, is_accepted, is_cancelable, is_worked_on, is_terminal}
use Rattle.exec_msg.specs.declared.goal.Event.{Event}
use Rattle.exec_msg.specs.declared.goal.Event.TheVariants as event
use Rattle.exec_goal.specs.Table.{GoalRecord, after_event, moved_by, has_id, working, is_expired, unexpired}
use Rattle.exec_goal.specs.declared.held.GoalEntry.{GoalEntry}
use Rattle.exec_goal.specs.declared.info.GoalInfo.{GoalInfo}
use Rattle.exec_goal.specs.declared.state.State.{State}
use Rattle.exec_goal.specs.declared.state.State.TheVariants as state
use Rattle.exec_goal.specs.declared.tally.Tally.{Tally}
use Rattle.exec_goal.specs.inner.Tally.{one_where, first_with, ended_with, CountsMove, TellsState, EndsFrom, NoneBefore, IsTallied}

-- ---- how many goals are worked on

counted_by : (b : Bool) (goal : GoalRecord) (rest : List GoalRecord) → length (cond b (goal ∷ rest) rest) ≡ one_where b + length rest
counted_by true goal rest = omega arith
counted_by false goal rest = omega arith

pub working-cons : (goal : GoalRecord) (goals : List GoalRecord) → working (goal ∷ goals) ≡ one_where (is_worked_on goal.state) + working goals
working-cons goal goals = counted_by (is_worked_on goal.state) goal (filter (λ goal. is_worked_on goal.state) goals)

at_most_one : (b : Bool) → one_where b ≤ 1
at_most_one true = omega arith
at_most_one false = omega arith

-- they are goals of the table
pub working-within : (goals : List GoalRecord) → working goals ≤ length goals
working-within [] = omega arith
working-within (goal ∷ goals) = omega (arith, working-cons goal goals, at_most_one (is_worked_on goal.state), working-within goals)

working-append : (goals : List GoalRecord) (goal : GoalRecord) → working (goals ++ goal ∷ []) ≡ working goals + one_where (is_worked_on goal.state)
working-append [] goal = omega (arith, working-cons goal [])
working-append (first ∷ goals) goal = omega (arith, working-cons first (goals ++ goal ∷ []), working-cons first goals, working-append goals goal)

-- no more are worked on than a number can say
pub tallied-fits : (tally : Tally) (goals : List GoalRecord) → IsTallied tally goals → tally.working < 2 ^ 63
tallied-fits tally goals tallied = omega (arith, tallied.counted, working-within goals, tallied.within)

-- ---- ends

weaker_by : (b : Bool) (first ended at : ℕ) → nat_le first ended ≡ b → first ≤ at → (if b then first else ended) ≤ at
weaker_by true first ended at is below = below
weaker_by false first ended at is below = omega (arith, leb-false first ended is, below)

-- an earlier first end is one as well
pub ends-weaker : (b : Bool) (ended : ℕ) (first : Option ℕ) (goal : GoalRecord) → EndsFrom first goal → EndsFrom (first_with b ended first) goal
ends-weaker false ended first goal ends = ends
ends-weaker true ended None goal ends = λ is. absurd cc
ends-weaker true ended (Some first) goal ends = λ is. weaker_by (nat_le first ended) first ended goal.ended refl (ends is)

all-weaker : (b : Bool) (ended : ℕ) (first : Option ℕ) (goals : List GoalRecord) → AllByRecursion (EndsFrom first) goals → AllByRecursion (EndsFrom (first_with b ended first)) goals
all-weaker b ended first [] ends = tt
all-weaker b ended first (goal ∷ goals) ends = (ends-weaker b ended first goal ends.0, all-weaker b ended first goals ends.1)

within_by : (b : Bool) (first ended : ℕ) → nat_le first ended ≡ b → (if b then first else ended) ≤ ended
within_by true first ended is = leb-true first ended is
within_by false first ended is = omega arith

-- a first end that knows of a goal's end
pub ends-here : (b : Bool) (first : Option ℕ) (goal : GoalRecord) → is_terminal goal.state ≡ b → EndsFrom (first_with b goal.ended first) goal
ends-here true None goal is = λ _. omega arith
ends-here true (Some first) goal is = λ _. within_by (nat_le first goal.ended) first goal.ended refl
ends-here false None goal is = is
ends-here false (Some first) goal is = λ ended. absurd cc

-- ---- a goal is put in another's place

-- the second list is the first with one goal in another's place
pub data Replaced (old new : GoalRecord) : List GoalRecord → List GoalRecord → Type 0 where
  here : (goals : List GoalRecord) → Replaced old new (old ∷ goals) (new ∷ goals)
  later : (goal : GoalRecord) (goals others : List GoalRecord) → Replaced old new goals others → Replaced old new (goal ∷ goals) (goal ∷ others)

module _ (old new : GoalRecord) where
  replaced-working : (goals others : List GoalRecord) → Replaced old new goals others →
      working others + one_where (is_worked_on old.state) ≡ working goals + one_where (is_worked_on new.state)
  replaced-working _ _ (here goals) = omega (arith, working-cons old goals, working-cons new goals)
  replaced-working _ _ (later goal goals others replaced) = omega (arith, working-cons goal goals, working-cons goal others, replaced-working goals others replaced)

  replaced-counted : (goals others : List GoalRecord) → Replaced old new goals others → one_where (is_worked_on old.state) ≤ working goals
  replaced-counted _ _ (here goals) = omega (arith, working-cons old goals)
  replaced-counted _ _ (later goal goals others replaced) = omega (arith, working-cons goal goals, replaced-counted goals others replaced)

  replaced-length : (goals others : List GoalRecord) → Replaced old new goals others → length others ≡ length goals
  replaced-length _ _ (here goals) = refl
  replaced-length _ _ (later goal goals others replaced) = ap suc (replaced-length goals others replaced)

  replaced-ends : (b : Bool) (ended : ℕ) (first : Option ℕ) (goals others : List GoalRecord) → EndsFrom (first_with b ended first) new → Replaced old new goals others →
      AllByRecursion (EndsFrom first) goals → AllByRecursion (EndsFrom (first_with b ended first)) others
  replaced-ends b ended first _ _ ends-new (here goals) ends = (ends-new, all-weaker b ended first goals ends.1)
  replaced-ends b ended first _ _ ends-new (later goal goals others replaced) ends = (ends-weaker b ended first goal ends.0, replaced-ends b ended first goals others ends-new replaced ends.1)

  replaced-infos : (goals others : List GoalRecord) → Replaced old new goals others → info_of new ≡ info_of old → map info_of others ≡ map info_of goals
  replaced-infos _ _ (here goals) same = ap (λ info. info ∷ map info_of goals) same
  replaced-infos _ _ (later goal goals others replaced) same = ap (λ infos. info_of goal ∷ infos) (replaced-infos goals others replaced same)

  replaced-before : (test : State → Bool) → (test old.state ≡ false → test new.state ≡ false) → (place : ℕ) (goals others : List GoalRecord) → Replaced old new goals others → NoneBefore test place goals → NoneBefore test place others
  replaced-before test executed zero _ _ (here goals) waiting = tt
  replaced-before test executed (suc place) _ _ (here goals) waiting = (executed waiting.0, waiting.1)
  replaced-before test executed zero _ _ (later goal goals others replaced) waiting = tt
  replaced-before test executed (suc place) _ _ (later goal goals others replaced) waiting = (waiting.0, replaced-before test executed place goals others replaced waiting.1)

  -- the tally after it
  pub tallied-replaced : (before after : Tally) (goals others : List GoalRecord) → Replaced old new goals others → (is_accepted old.state ≡ false → is_accepted new.state ≡ false) → NoneBefore is_terminal after.ended_from others → CountsMove old.state new.state new.ended before after →
      after.infos.items ≡ map info_of others → IsTallied before goals → IsTallied after others
  tallied-replaced before after goals others replaced executed ended counts infos tallied = record {
    counted = omega (arith, tallied.counted, counts.working, replaced-working goals others replaced);
    ends = subst (λ first. AllByRecursion (EndsFrom first) others) (sym counts.first)
        (replaced-ends (is_terminal new.state) new.ended before.first_end goals others (ends-here (is_terminal new.state) before.first_end new refl) replaced tallied.ends);
    waiting = subst (λ (place : ℕ). NoneBefore is_accepted place others) (sym counts.waiting) (replaced-before is_accepted executed before.waiting_from goals others replaced tallied.waiting);
    ended = ended;
    infos = infos;
    within = omega (arith, tallied.within, replaced-length goals others replaced);
  }

  -- the goal that is replaced is counted
  pub tallied-counted : (tally : Tally) (goals others : List GoalRecord) → Replaced old new goals others → IsTallied tally goals → one_where (is_worked_on old.state) ≤ tally.working
  tallied-counted tally goals others replaced tallied = omega (arith, tallied.counted, replaced-counted goals others replaced)

replaced_by : (b : Bool) (test : GoalRecord → Bool) (change : GoalRecord → GoalRecord) (old goal : GoalRecord) (goals : List GoalRecord) → cond b (Some goal) (find test goals) ≡ Some old →
    (find test goals ≡ Some old → Replaced old (change old) goals (change_first test change goals)) →
    Replaced old (change old) (goal ∷ goals) (if b then change goal ∷ goals else goal ∷ change_first test change goals)
replaced_by true test change old goal goals found others =
    let same : goal ≡ old = cc in
    subst (λ goal. Replaced old (change old) (goal ∷ goals) (change goal ∷ goals)) (sym same) (here goals)
replaced_by false test change old goal goals found others = later goal goals (change_first test change goals) (others found)

-- the first goal that passes a test is changed
pub replaced-first : (test : GoalRecord → Bool) (change : GoalRecord → GoalRecord) (old : GoalRecord) (goals : List GoalRecord) → find test goals ≡ Some old →
    Replaced old (change old) goals (change_first test change goals)
replaced-first test change old [] found = absurd cc
replaced-first test change old (goal ∷ goals) found = replaced_by (test goal) test change old goal goals found (replaced-first test change old goals)

-- a goal at a place is changed
pub replaced-at : (old new : GoalRecord) (goals : List GoalRecord) (i : ℕ) → slice_get goals i ≡ Some old → Replaced old new goals (slice_set goals i new)
replaced-at old new [] i is = absurd cc
replaced-at old new (goal ∷ goals) zero is =
    let same : goal ≡ old = cc in
    subst (λ goal. Replaced old new (goal ∷ goals) (new ∷ goals)) (sym same) (here goals)
replaced-at old new (goal ∷ goals) (suc i) is = later goal goals (slice_set goals i new) (replaced-at old new goals i is)

-- ---- what is told

-- what is told of a goal at a place that is of another state
pub tells-in : (i : ℕ) (old new : GoalRecord) (goals : List GoalRecord) (infos after : List GoalInfo) → slice_get goals i ≡ Some old → info_of new ≡ record (info_of old) { state = new.state } →
    TellsState i new.state infos after → infos ≡ map info_of goals → after ≡ map info_of (slice_set goals i new)
tells-in i old new goals infos after there other tells are =
    let at : slice_get infos i ≡ Some (info_of old) = ap (λ (infos : List GoalInfo). slice_get infos i) are ∙ slice_get-map info_of goals i ∙ ap (option_map info_of) there in
    tells (info_of old)
    ∙ ap (λ (info : GoalInfo). slice_set infos i (record info { state = new.state })) (get_or_from_slice_get infos i (info_of old) (info_of old) at)
    ∙ ap (λ (infos : List GoalInfo). slice_set infos i (record (info_of old) { state = new.state })) are
    ∙ ap (slice_set (map info_of goals) i) (sym other)
    ∙ sym (map-set info_of goals i new)

-- ---- a goal is accepted, or forgotten

ends-append : (first : Option ℕ) (goals : List GoalRecord) (goal : GoalRecord) → AllByRecursion (EndsFrom first) goals → EndsFrom first goal → AllByRecursion (EndsFrom first) (goals ++ goal ∷ [])
ends-append first [] goal ends last = (last, tt)
ends-append first (one ∷ goals) goal ends last = (ends.0, ends-append first goals goal ends.1 last)

length-append : (goals : List GoalRecord) (goal : GoalRecord) → length (goals ++ goal ∷ []) ≡ suc (length goals)
length-append [] goal = refl
length-append (one ∷ goals) goal = ap suc (length-append goals goal)

-- what is told of a new goal behind the others
told_behind : (place : ℕ) (goals : List GoalRecord) (goal : GoalRecord) (old new : List GoalInfo) → place ≡ length goals → TellsState place goal.state (old ++ info_of goal ∷ []) new → old ≡ map info_of goals → new ≡ map info_of (goals ++ goal ∷ [])
told_behind place goals goal old new last tells are =
    let all = goals ++ goal ∷ [] in
    let told : old ++ info_of goal ∷ [] ≡ map info_of all = ap (λ infos. infos ++ info_of goal ∷ []) are ∙ sym (map_push info_of goals goal) in
    let there : slice_get all place ≡ Some goal = ap (slice_get all) last ∙ last-there goals goal in
    tells-in place goal goal all (old ++ info_of goal ∷ []) new there refl tells told ∙ ap (map info_of) (ap (λ (i : ℕ). slice_set all i goal) last ∙ set-last goals goal goal)

pub before-within : (test : State → Bool) (place : ℕ) (goals : List GoalRecord) → NoneBefore test place goals → place ≤ length goals
before-within test zero goals none = omega arith
before-within test (suc place) [] none = absurd none
before-within test (suc place) (goal ∷ goals) none = omega (arith, before-within test place goals none.1)

later_ended : (b : Bool) (place from : ℕ) → from ≤ place → ended_with b place from ≡ from
later_ended true place from below = ap (λ (b : Bool). if b then from else place) (le-leb from place below)
later_ended false place from below = refl

before-append : (test : State → Bool) (place : ℕ) (goals : List GoalRecord) (goal : GoalRecord) → NoneBefore test place goals → NoneBefore test place (goals ++ goal ∷ [])
before-append test zero goals goal waiting = tt
before-append test (suc place) [] goal waiting = absurd waiting
before-append test (suc place) (one ∷ goals) goal waiting = (waiting.0, before-append test place goals goal waiting.1)

-- a new goal, which counts as one that was ACCEPTED
pub tallied-accepted : (before after : Tally) (goals : List GoalRecord) (goal : GoalRecord) (place : ℕ) → place ≡ length goals → length goals < GOALS → after.ended_from ≡ ended_with (is_terminal goal.state) place before.ended_from → CountsMove state.Accepted goal.state goal.ended before after →
    TellsState place goal.state (before.infos.items ++ info_of goal ∷ []) after.infos.items → IsTallied before goals → IsTallied after (goals ++ goal ∷ [])
tallied-accepted before after goals goal place last room ended counts tells tallied = record {
  counted = omega (arith, tallied.counted, counts.working, working-append goals goal);
  ends = subst (λ first. AllByRecursion (EndsFrom first) (goals ++ goal ∷ [])) (sym counts.first)
      (ends-append (first_with (is_terminal goal.state) goal.ended before.first_end) goals goal (all-weaker (is_terminal goal.state) goal.ended before.first_end goals tallied.ends)
      (ends-here (is_terminal goal.state) before.first_end goal refl));
  waiting = subst (λ (place : ℕ). NoneBefore is_accepted place (goals ++ goal ∷ [])) (sym counts.waiting) (before-append is_accepted before.waiting_from goals goal tallied.waiting);
  ended = subst (λ (from : ℕ). NoneBefore is_terminal from (goals ++ goal ∷ [])) (sym (ended ∙ later_ended (is_terminal goal.state) place before.ended_from (omega (arith, last, before-within is_terminal before.ended_from goals tallied.ended)))) (before-append is_terminal before.ended_from goals goal tallied.ended);
  infos = told_behind place goals goal before.infos.items after.infos.items last tells tallied.infos;
  within = omega (arith, room, length-append goals goal);
}

-- no event leads to ACCEPTED
pub never_anew : (before : State) (by : Event) (next : State) → after before by ≡ Some next → is_accepted next ≡ false
never_anew before by next is = entered before by next (transition_from before by next is)
  where
    entered : (before : State) (by : Event) (next : State) → Transition before by next → is_accepted next ≡ false
    entered before by next execute = refl
    entered before by next cancel_accepted = refl
    entered before by next cancel_executing = refl
    entered before by next succeed = refl
    entered before by next abort = refl
    entered before by next succeed_canceling = refl
    entered before by next abort_canceling = refl
    entered before by next canceled = refl

moved_on : (by : Event) (before : State) → is_accepted before ≡ false → is_accepted (moved_by by before) ≡ false
moved_on by before executed = where_to (after before by) refl
  where
    where_to : (reached : Option State) → after before by ≡ reached → is_accepted (unwrap_or reached before) ≡ false
    where_to None is = executed
    where_to (Some next) is = never_anew before by next is

-- an answer to a cancel request leaves what is told of a goal but for its state
pub answered-info : (accepted : Bool) (goal : GoalRecord) → info_of (after_answer_by (λ _. accepted) goal) ≡ record (info_of goal) { state = (after_answer_by (λ _. accepted) goal).state }
answered-info accepted goal = by (accepted && is_cancelable goal.state)
  where
    by : (moves : Bool) → info_of (if moves then after_event event.CancelGoal goal else goal) ≡ record (info_of goal) { state = (if moves then after_event event.CancelGoal goal else goal).state }
    by true = refl
    by false = refl

-- nor is it accepted anew
pub answered-executed : (accepted : Bool) (goal : GoalRecord) → is_accepted goal.state ≡ false → is_accepted (after_answer_by (λ _. accepted) goal).state ≡ false
answered-executed accepted goal executed = by (accepted && is_cancelable goal.state)
  where
    by : (moves : Bool) → is_accepted (if moves then after_event event.CancelGoal goal else goal).state ≡ false
    by true = moved_on event.CancelGoal goal.state executed
    by false = executed

idle_ended : (before : State) → is_terminal before ≡ true → one_where (is_worked_on before) ≡ 0
idle_ended state.Accepted is = absurd cc
idle_ended state.Executing is = absurd cc
idle_ended state.Canceling is = absurd cc
idle_ended state.Succeeded is = refl
idle_ended state.Canceled is = refl
idle_ended state.Aborted is = refl

removed-working : (goals : List GoalRecord) (i : ℕ) → i < length goals → ((d : GoalRecord) → is_terminal (get_or goals i d).state ≡ true) → working (remove goals i) ≡ working goals
removed-working [] i within ended = absurd (omega (arith, within))
removed-working (goal ∷ goals) zero within ended = omega (arith, working-cons goal goals, idle_ended goal.state (ended goal))
removed-working (goal ∷ goals) (suc i) within ended =
    omega (arith, working-cons goal goals, working-cons goal (remove goals i), removed-working goals i (omega (arith, within)) (λ d. ended d))

removed-ends : (first : Option ℕ) (goals : List GoalRecord) (i : ℕ) → AllByRecursion (EndsFrom first) goals → AllByRecursion (EndsFrom first) (remove goals i)
removed-ends first [] zero ends = tt
removed-ends first [] (suc i) ends = tt
removed-ends first (goal ∷ goals) zero ends = ends.1
removed-ends first (goal ∷ goals) (suc i) ends = (ends.0, removed-ends first goals i ends.1)

removed-length : (goals : List GoalRecord) (i : ℕ) → length (remove goals i) ≤ length goals
removed-length [] zero = omega arith
removed-length [] (suc i) = omega arith
removed-length (goal ∷ goals) zero = omega arith
removed-length (goal ∷ goals) (suc i) = omega (arith, removed-length goals i)

-- a goal in a state that passes the test is taken out
before-removed : (test : State → Bool) (place : ℕ) (goals : List GoalRecord) (i : ℕ) → i < length goals → ((d : GoalRecord) → test (get_or goals i d).state ≡ true) → NoneBefore test place goals → NoneBefore test place (remove goals i)
before-removed test zero goals i within passes none = tt
before-removed test (suc place) [] i within passes none = absurd none
before-removed test (suc place) (goal ∷ goals) zero within passes none = absurd (both_ways (test goal.state) none.0 (passes goal))
before-removed test (suc place) (goal ∷ goals) (suc i) within passes none = (none.0, before-removed test place goals i (omega (arith, within)) passes none.1)

-- a goal that has expired is taken out
pub tallied-removed : (moment timeout : ℕ) (tally after : Tally) (goals : List GoalRecord) (i : ℕ) → IsFirst (is_expired moment (Some timeout)) goals i →
    after.working ≡ tally.working → after.first_end ≡ tally.first_end → after.waiting_from ≡ 0 → after.ended_from ≡ tally.ended_from → after.infos.items ≡ remove tally.infos.items i → IsTallied tally goals → IsTallied after (remove goals i)
tallied-removed moment timeout tally after goals i first working same anew from infos tallied =
    let ended : (d : GoalRecord) → is_terminal (get_or goals i d).state ≡ true =
    λ d. (and_parts (is_terminal (get_or goals i d).state) (nat_le ((get_or goals i d).ended + timeout) moment) (first.passes d)).0 in
    record {
      counted = omega (arith, working, tallied.counted, removed-working goals i first.within ended);
      ends = subst (λ first. AllByRecursion (EndsFrom first) (remove goals i)) (sym same) (removed-ends tally.first_end goals i tallied.ends);
      waiting = subst (λ (place : ℕ). NoneBefore is_accepted place (remove goals i)) (sym anew) tt;
      ended = subst (λ (place : ℕ). NoneBefore is_terminal place (remove goals i)) (sym from) (before-removed is_terminal tally.ended_from goals i first.within ended tallied.ended);
      infos = infos ∙ ap (λ (infos : List GoalInfo). remove infos i) tallied.infos ∙ sym (map-remove info_of goals i);
      within = omega (arith, tallied.within, removed-length goals i);
    }

-- what isn't worked on isn't counted
kept_working : (b : Bool) (goal : GoalRecord) (goals kept : List GoalRecord) → (b ≡ false → one_where (is_worked_on goal.state) ≡ 0) → working kept ≡ working goals → working (cond b (goal ∷ kept) kept) ≡ working (goal ∷ goals)
kept_working true goal goals kept idle same = omega (arith, working-cons goal goals, working-cons goal kept, same)
kept_working false goal goals kept idle same = omega (arith, working-cons goal goals, idle refl, same)

kept_ends : (b : Bool) (first : Option ℕ) (goal : GoalRecord) (kept : List GoalRecord) → EndsFrom first goal → AllByRecursion (EndsFrom first) kept → AllByRecursion (EndsFrom first) (cond b (goal ∷ kept) kept)
kept_ends true first goal kept ends others = (ends, others)
kept_ends false first goal kept ends others = others

kept_length : (b : Bool) (goal : GoalRecord) (kept : List GoalRecord) → length (cond b (goal ∷ kept) kept) ≤ suc (length kept)
kept_length true goal kept = omega arith
kept_length false goal kept = omega arith

module _ (moment timeout : ℕ) where
  unexpired-working : (goals : List GoalRecord) → working (unexpired moment (Some timeout) goals) ≡ working goals
  unexpired-working [] = refl
  unexpired-working (goal ∷ goals) =
      kept_working (not (is_expired moment (Some timeout) goal)) goal goals (unexpired moment (Some timeout) goals)
      (λ is. idle_ended goal.state (and_parts (is_terminal goal.state) (nat_le (goal.ended + timeout) moment) (not-false (is_expired moment (Some timeout) goal) is)).0)
      (unexpired-working goals)

  unexpired-ends : (first : Option ℕ) (goals : List GoalRecord) → AllByRecursion (EndsFrom first) goals → AllByRecursion (EndsFrom first) (unexpired moment (Some timeout) goals)
  unexpired-ends first [] ends = tt
  unexpired-ends first (goal ∷ goals) ends = kept_ends (not (is_expired moment (Some timeout) goal)) first goal (unexpired moment (Some timeout) goals) ends.0 (unexpired-ends first goals ends.1)

  pub unexpired-length : (goals : List GoalRecord) → length (unexpired moment (Some timeout) goals) ≤ length goals
  unexpired-length [] = omega arith
  unexpired-length (goal ∷ goals) = omega (arith, kept_length (not (is_expired moment (Some timeout) goal)) goal (unexpired moment (Some timeout) goals), unexpired-length goals)

  -- all goals that have expired are taken out
  pub tallied-unexpired : (tally after : Tally) (goals left : List GoalRecord) → left ≡ unexpired moment (Some timeout) goals → after.working ≡ tally.working → after.first_end ≡ tally.first_end → after.waiting_from ≡ 0 → after.ended_from ≡ 0 →
      after.infos.items ≡ map info_of left → IsTallied tally goals → IsTallied after left
  tallied-unexpired tally after goals left are counts same anew from infos tallied = record {
    counted = omega (arith, counts, tallied.counted, unexpired-working goals, ap working are);
    ends = subst (λ left. AllByRecursion (EndsFrom after.first_end) left) (sym are) (subst (λ first. AllByRecursion (EndsFrom first) (unexpired moment (Some timeout) goals)) (sym same) (unexpired-ends tally.first_end goals tallied.ends));
    waiting = subst (λ (place : ℕ). NoneBefore is_accepted place left) (sym anew) tt;
    ended = subst (λ (place : ℕ). NoneBefore is_terminal place left) (sym from) tt;
    infos = infos;
    within = omega (arith, tallied.within, unexpired-length goals, ap length are);
  }

-- ---- goals that have ended

before_less : (test : State → Bool) (place less : ℕ) (goals : List GoalRecord) → less ≤ place → NoneBefore test place goals → NoneBefore test less goals
before_less test place zero goals below none = tt
before_less test zero (suc less) goals below none = absurd (omega (arith, below))
before_less test (suc place) (suc less) [] below none = absurd none
before_less test (suc place) (suc less) (goal ∷ goals) below none = (none.0, before_less test place less goals (omega (arith, below)) none.1)

before_set : (test : State → Bool) (place i : ℕ) (goals : List GoalRecord) (goal : GoalRecord) → place ≤ i → NoneBefore test place goals → NoneBefore test place (slice_set goals i goal)
before_set test zero i goals goal below none = tt
before_set test (suc place) i [] goal below none = absurd none
before_set test (suc place) zero (first ∷ goals) goal below none = absurd (omega (arith, below))
before_set test (suc place) (suc i) (first ∷ goals) goal below none = (none.0, before_set test place i goals goal (omega (arith, below)) none.1)

before_kept : (test : State → Bool) (place i : ℕ) (goals : List GoalRecord) (goal : GoalRecord) → test goal.state ≡ false → NoneBefore test place goals → NoneBefore test place (slice_set goals i goal)
before_kept test zero i goals goal idle none = tt
before_kept test (suc place) i [] goal idle none = absurd none
before_kept test (suc place) zero (first ∷ goals) goal idle none = (idle, none.1)
before_kept test (suc place) (suc i) (first ∷ goals) goal idle none = (none.0, before_kept test place i goals goal idle none.1)

-- a goal at a place may have ended
before-ended : (i from : ℕ) (goals : List GoalRecord) (goal : GoalRecord) → NoneBefore is_terminal from goals → NoneBefore is_terminal (ended_with (is_terminal goal.state) i from) (slice_set goals i goal)
before-ended i from goals goal none = by (is_terminal goal.state) refl
  where
    least : (b : Bool) → nat_le from i ≡ b → NoneBefore is_terminal (if b then from else i) (slice_set goals i goal)
    least true is = before_set is_terminal from i goals goal (leb-true from i is) none
    least false is = before_set is_terminal i i goals goal (omega arith) (before_less is_terminal from i goals (omega (arith, leb-false from i is)) none)

    by : (b : Bool) → is_terminal goal.state ≡ b → NoneBefore is_terminal (ended_with b i from) (slice_set goals i goal)
    by true is = least (nat_le from i) refl
    by false is = before_kept is_terminal from i goals goal is none

-- ---- the entries of the map

-- a goal that hasn't ended stays of its state
pub unmoved : (before : State) (ended : ℕ) (tally : Tally) → is_terminal before ≡ false → CountsMove before before ended tally tally
unmoved before ended tally is = record { working = refl; waiting = refl; first = ap (λ (b : Bool). first_with b ended tally.first_end) (sym is) }

module _ (test : ℕ → Bool) (id : ℕ) (same : (key : ℕ) → test key ≡ (key == id)) (held : GoalEntry) (entries : List (ℕ × GoalEntry)) (found : Some held ≡ lookup test entries) where
  -- another value is written in its place
  pub tallied-in : (after : GoalEntry) (set : List (ℕ × GoalEntry)) (tally : Tally) → set ≡ set_value test entries after → CountsMove held.state after.state after.ended tally tally →
      info_of (record_of (id, after)) ≡ info_of (record_of (id, held)) → IsTallied tally (records_of entries) → IsTallied tally (records_of set)
  tallied-in after set tally is counts told tallied =
      let goal = record_of (id, held) in
      let other = record_of (id, after) in
      let replaced = replaced-first (has_id id) (λ _. other) goal (records_of entries) (found-in test id same entries (records_of entries) (Some held) refl found) in
      subst (λ goals. IsTallied tally goals) (sym (changed-in test id same (λ _. other) held after refl entries set (records_of entries) refl found is))
      (tallied-replaced goal other tally tally (records_of entries) _ replaced (λ is. ap (λ (info : GoalInfo). is_accepted info.state) told ∙ is)
      (replaced-before goal other is_terminal (λ is. ap (λ (info : GoalInfo). is_terminal info.state) told ∙ is) tally.ended_from (records_of entries) _ replaced tallied.ended) counts
      (tallied.infos ∙ sym (replaced-infos goal other (records_of entries) _ replaced told)) tallied)

  -- it is written back as it was
  pub tallied-kept : (set : List (ℕ × GoalEntry)) (tally : Tally) → set ≡ set_value test entries held → IsTallied tally (records_of entries) → IsTallied tally (records_of set)
  tallied-kept set tally is tallied =
      subst (λ goals. IsTallied tally goals)
      (sym (changed-in test id same (λ (goal : GoalRecord). goal) held held refl entries set (records_of entries) refl found is ∙ change_first-same id (records_of entries))) tallied

-- the same by a place
module _ (entries : List (ℕ × GoalEntry)) (i : ℕ) (entry : ℕ × GoalEntry) (found : slice_get entries i ≡ Some entry) where
  goal-at : slice_get (records_of entries) i ≡ Some (record_of entry)
  goal-at = slice_get-map record_of entries i ∙ ap (option_map record_of) found

  pub counted-at : (tally : Tally) → IsTallied tally (records_of entries) → one_where (is_worked_on entry.1.state) ≤ tally.working
  counted-at tally tallied = tallied-counted (record_of entry) (record_of entry) tally (records_of entries) _ (replaced-at (record_of entry) (record_of entry) (records_of entries) i goal-at) tallied

  pub told-within : (tally : Tally) → IsTallied tally (records_of entries) → i < length tally.infos.items
  told-within tally tallied = omega (arith, ap length tallied.infos, length-map (records_of entries) info_of, slice_get_within (records_of entries) i (record_of entry) goal-at)

  pub tallied-at : (after : GoalEntry) (old new : Tally) → (is_accepted entry.1.state ≡ false → is_accepted after.state ≡ false) → new.ended_from ≡ ended_with (is_terminal after.state) i old.ended_from → CountsMove entry.1.state after.state after.ended old new →
      TellsState i after.state old.infos.items new.infos.items → info_of (record_of (entry.0, after)) ≡ record (info_of (record_of entry)) { state = after.state } →
      IsTallied old (records_of entries) → IsTallied new (records_of (set_value_at entries i after))
  tallied-at after old new executed ended counts tells told tallied =
      let other = record_of (entry.0, after) in
      subst (λ goals. IsTallied new goals) (sym (records-set_value_at entries i entry after found))
      (tallied-replaced (record_of entry) other old new (records_of entries) _ (replaced-at (record_of entry) other (records_of entries) i goal-at) executed
      (subst (λ (from : ℕ). NoneBefore is_terminal from (slice_set (records_of entries) i other)) (sym ended) (before-ended i old.ended_from (records_of entries) other tallied.ended)) counts
      (tells-in i (record_of entry) other (records_of entries) old.infos.items new.infos.items goal-at told tells tallied.infos) tallied)
