-- What a buffer holds of a lane is what the lane is.
use Rattle.std.proofs.Common.{◌≡◌, ℕ, zero, suc, ◌+◌, ◌<◌, ◌≤◌, List, [], ◌∷◌, ◌++◌, append-nil, append_assoc, length, map, take, slice_index_or, false, Option, Some, refl, sym, ap, subst, ◌∙◌, arith}
use Rattle.std.specs.List.{fold, slice_get}
use Rattle.std.specs.Option.{option_map}
use Rattle.std.proofs.lemmas.List.{length-map, length_push, take_more}
use Rattle.std.proofs.lemmas.List.Sums.{fold-append}
use Rattle.exec_msg.specs.Numbers.{EntityNo}
use Rattle.exec_lane.specs.Gather.{Ran, all_ran, outcome_of, ran_each, ran_in}
use Rattle.exec_lane.specs.Lane.{Lane, LaneState, LeftByCallback, lane_at, lane_home, left_by_callback, run_entry, task_home, tasks_home, variables_home}
use Rattle.exec_lane.specs.inner.Buffered.{ArePlacesOf, IsBuffered, bank_home, callback_at, callbacks_at, entries_in, entries_with, no_callback, nth_callback, ran_from, run_first, works_home}
use Rattle.exec_lane.specs.inner.Spots.{ran_at}
use Rattle.exec_rules.specs.Run.{apart_with, effects_of, work_after}
use Rattle.exec_rules.specs.World.{GoalWork, WorldState}
use Rattle.exec_rules.specs.declared.ready.Cause.{Cause}
use Rattle.exec_rules.specs.declared.ready.Cause.TheVariants as cause
use Rattle.exec_rules.specs.declared.ready.Ready.{Ready}
use Rattle.exec_script.specs.Script.{Variables}
use Rattle.exec_script.specs.declared.effects.Effects.{Effects}
use Rattle.exec_task.specs.Task.{TaskState}
use Rattle.exec_world.specs.inner.Buffers.{BufferState, polled_after, polled_work, run_next, unpolled_works}

-- ---- callbacks of a buffer, one after another

-- they stay at their places
pub places_stay : (n : ℕ) (list : List Ready) (buffer : BufferState) → (run_first n list buffer).places ≡ buffer.places
places_stay zero list buffer = refl
places_stay (suc n) [] buffer = refl
places_stay (suc n) (one ∷ list) buffer = places_stay n list (run_next one buffer)

-- each of them did something
pub did_so_many : (n : ℕ) (list : List Ready) (buffer : BufferState) → n ≤ length list → length (run_first n list buffer).did ≡ length buffer.did + n
did_so_many zero list buffer within = omega arith
did_so_many (suc n) [] buffer within = absurd (omega (arith, within))
did_so_many (suc n) (one ∷ list) buffer within =
    let rest = did_so_many n list (run_next one buffer) (omega (arith, within)) in
    let more = length_push buffer.did (effects_of (apart_with one (polled_work one.cause buffer.waiting) buffer.variables)) in
    omega (arith, rest, more)

-- and one more runs from what the others left
pub one_more_runs : (n : ℕ) (list : List Ready) (buffer : BufferState) (one : Ready) → n < length list → slice_index_or list n no_callback ≡ one →
    run_first (n + 1) list buffer ≡ run_next one (run_first n list buffer)
one_more_runs n list buffer one within is =
    ap (λ (some : List Ready). fold (λ before next. run_next next before) buffer some) (take_more list n no_callback within)
    ∙ fold-append (λ (before : BufferState) (next : Ready). run_next next before) buffer (take n list) (slice_index_or list n no_callback ∷ [])
    ∙ ap (λ (next : Ready). run_next next (run_first n list buffer)) is

-- ---- places

pub as_many_places : (list : List Ready) (places : List ℕ) → length (callbacks_at list places) ≡ length places
as_many_places list places = length-map places (callback_at list)

pub as_many_entries : (list : List Ready) (works : List (Option GoalWork)) → length (entries_with list works) ≡ length list
as_many_entries [] works = refl
as_many_entries (one ∷ list) works = ap suc (as_many_entries list (unpolled_works one.cause works))

-- a place is one of the list's, and its callback stands there among the lane's
pub place_there : (list : List Ready) (places : List ℕ) (i place : ℕ) → ArePlacesOf list places → slice_get places i ≡ Some place → place < length list
place_there list [] i place all is = absurd cc
place_there list (first ∷ places) zero place all is = let same : first ≡ place = cc in omega (arith, all.0, same)
place_there list (first ∷ places) (suc i) place all is = place_there list places i place all.1 is

pub callback_there : (list : List Ready) (places : List ℕ) (i place : ℕ) → slice_get places i ≡ Some place → nth_callback list places i ≡ callback_at list place
callback_there list [] i place is = absurd cc
callback_there list (first ∷ places) zero place is = let same : first ≡ place = cc in ap (callback_at list) same
callback_there list (first ∷ places) (suc i) place is = callback_there list places i place is

-- ---- what callbacks leave, from the first on

-- what so many of these leave, from these variables and works
abbrev left_by_first : ℕ → List Ready → Variables → List (Option GoalWork) → List LeftByCallback
left_by_first zero list variables works = []
left_by_first (suc n) [] variables works = []
left_by_first (suc n) (one ∷ list) variables works =
    left_by_callback (polled_work one.cause works) (apart_with one (polled_work one.cause works) variables)
    ∷ left_by_first n list (apart_with one (polled_work one.cause works) variables).variables (unpolled_works one.cause works)

-- and all works then, those that were polled before the others
abbrev works_now : ℕ → List Ready → Variables → List (Option GoalWork) → List (Option GoalWork)
works_now zero list variables works = works
works_now (suc n) [] variables works = works
works_now (suc n) (one ∷ list) variables works =
    polled_after one.cause (apart_with one (polled_work one.cause works) variables).task works
    ++ works_now n list (apart_with one (polled_work one.cause works) variables).variables (unpolled_works one.cause works)

lane_left : (n : ℕ) (list : List Ready) (state : LaneState) (works : List (Option GoalWork)) →
    (fold run_entry state (take n (entries_with list works))).left ≡ state.left ++ left_by_first n list state.variables works
lane_left zero list state works = sym (append-nil state.left)
lane_left (suc n) [] state works = sym (append-nil state.left)
lane_left (suc n) (one ∷ list) state works =
    let outcome = apart_with one (polled_work one.cause works) state.variables in
    let did : LeftByCallback = left_by_callback (polled_work one.cause works) outcome in
    lane_left n list (record { variables = outcome.variables; left = state.left ++ did ∷ [] }) (unpolled_works one.cause works)
    ∙ append_assoc state.left (did ∷ []) (left_by_first n list outcome.variables (unpolled_works one.cause works))

lane_variables : (n : ℕ) (list : List Ready) (left : List LeftByCallback) (buffer : BufferState) →
    (fold run_entry (record { variables = buffer.variables; left = left }) (take n (entries_with list buffer.waiting))).variables ≡ (run_first n list buffer).variables
lane_variables zero list left buffer = refl
lane_variables (suc n) [] left buffer = refl
lane_variables (suc n) (one ∷ list) left buffer =
    lane_variables n list (left ++ left_by_callback (polled_work one.cause buffer.waiting) (apart_with one (polled_work one.cause buffer.waiting) buffer.variables) ∷ []) (run_next one buffer)

buffer_did : (n : ℕ) (list : List Ready) (buffer : BufferState) →
    (run_first n list buffer).did ≡ buffer.did ++ map (λ did. did.effects) (left_by_first n list buffer.variables buffer.waiting)
buffer_did zero list buffer = sym (append-nil buffer.did)
buffer_did (suc n) [] buffer = sym (append-nil buffer.did)
buffer_did (suc n) (one ∷ list) buffer =
    let outcome = apart_with one (polled_work one.cause buffer.waiting) buffer.variables in
    buffer_did n list (run_next one buffer)
    ∙ append_assoc buffer.did (effects_of outcome ∷ []) (map (λ did. did.effects) (left_by_first n list outcome.variables (unpolled_works one.cause buffer.waiting)))

buffer_works : (n : ℕ) (list : List Ready) (buffer : BufferState) →
    (run_first n list buffer).polled ++ (run_first n list buffer).waiting ≡ buffer.polled ++ works_now n list buffer.variables buffer.waiting
buffer_works zero list buffer = refl
buffer_works (suc n) [] buffer = refl
buffer_works (suc n) (one ∷ list) buffer =
    let outcome = apart_with one (polled_work one.cause buffer.waiting) buffer.variables in
    buffer_works n list (run_next one buffer)
    ∙ append_assoc buffer.polled (polled_after one.cause outcome.task buffer.waiting) (works_now n list outcome.variables (unpolled_works one.cause buffer.waiting))

-- ---- how it comes home

none_polled : (of : Cause) (task : Option TaskState) → (polled_after of task [] ≡ []) × (unpolled_works of [] ≡ [])
none_polled cause.Due task = (refl, refl)
none_polled (cause.Took item) task = (refl, refl)
none_polled (cause.Woke id value canceling) task = (refl, refl)

no_works : (n : ℕ) (list : List Ready) (variables : Variables) → works_now n list variables [] ≡ []
no_works zero list variables = refl
no_works (suc n) [] variables = refl
no_works (suc n) (one ∷ list) variables =
    let outcome = apart_with one (polled_work one.cause []) variables in
    let none = none_polled one.cause outcome.task in
    (λ i. none.0 i ++ works_now n list outcome.variables (none.1 i))
    ∙ no_works n list outcome.variables

-- a callback's work, and those of the others, are what is home of it
abbrev HomeOf : EntityNo → Cause → Option TaskState → List (Option GoalWork) → List (Option GoalWork) → WorldState → Type 0
HomeOf server of task works later world =
    (task_home server of (option_map (work_after task) (polled_work of works)) world ≡ task_home server of (polled_work of (polled_after of task works ++ later)) world)
    × (later ≡ unpolled_works of (polled_after of task works ++ later))

home_of : (server : EntityNo) (of : Cause) (task : Option TaskState) (n : ℕ) (list : List Ready) (variables : Variables) (works : List (Option GoalWork)) (world : WorldState) →
    HomeOf server of task works (works_now n list variables (unpolled_works of works)) world
home_of server cause.Due task n list variables works world = (refl, refl)
home_of server (cause.Took item) task n list variables works world = (refl, refl)
home_of server (cause.Woke id value canceling) task n list variables [] world =
    let none = no_works n list variables in (
      ap (λ (later : List (Option GoalWork)). task_home server (cause.Woke id value canceling) (polled_work (cause.Woke id value canceling) later) world) (sym none),
      none ∙ ap (unpolled_works (cause.Woke id value canceling)) (sym none),
    )
home_of server (cause.Woke id value canceling) task n list variables (work ∷ works) world = (refl, refl)

works_are_home : (n : ℕ) (list : List Ready) (variables : Variables) (works : List (Option GoalWork)) (world : WorldState) →
    tasks_home (entries_with list works) (left_by_first n list variables works) world ≡ works_home list (works_now n list variables works) world
works_are_home zero [] variables works world = refl
works_are_home zero (one ∷ list) variables works world =
    works_are_home zero list variables (unpolled_works one.cause works) (task_home one.entity one.cause (polled_work one.cause works) world)
works_are_home (suc n) [] variables works world = refl
works_are_home (suc n) (one ∷ list) variables works world =
    let outcome = apart_with one (polled_work one.cause works) variables in
    let home = home_of one.entity one.cause outcome.task n list outcome.variables works world in
    works_are_home n list outcome.variables (unpolled_works one.cause works) (task_home one.entity one.cause (option_map (work_after outcome.task) (polled_work one.cause works)) world)
    ∙ (λ i. works_home list (home.1 i) (home.0 i))

variables_are_home : (list : List Ready) (works : List (Option GoalWork)) (variables : Variables) (world : WorldState) → variables_home (entries_with list works) variables world ≡ bank_home list variables world
variables_are_home [] works variables world = refl
variables_are_home (one ∷ list) works variables world = refl

ran_are : (list : List Ready) (works : List (Option GoalWork)) (left : List LeftByCallback) → ran_each (entries_with list works) left ≡ all_ran list (map (λ did. did.effects) left)
ran_are [] works [] = refl
ran_are [] works (did ∷ left) = refl
ran_are (one ∷ list) works [] = refl
ran_are (one ∷ list) works (did ∷ left) = ap (λ (others : List Ran). record { ready = one; effects = did.effects } ∷ others) (ran_are list (unpolled_works one.cause works) left)

-- ---- a lane that is kept in a buffer

-- the lane of a buffer as it was opened, after so many of its callbacks
abbrev pub lane_from : List Ready → BufferState → ℕ → Lane
lane_from list first done = record { variables = first.variables; entries = entries_in list first; done = done; failed = false }

first_left : (list : List Ready) (first : BufferState) (done : ℕ) →
    (lane_at first.variables (entries_in list first) done).left ≡ left_by_first done (callbacks_at list first.places) first.variables first.waiting
first_left list first done = lane_left done (callbacks_at list first.places) (record { variables = first.variables; left = [] }) first.waiting

pub kept_did : (list : List Ready) (first buffer : BufferState) (done : ℕ) → IsBuffered list first buffer done → length buffer.did ≡ done
kept_did list first buffer done is =
    let within = is.within in
    let many = as_many_places list first.places in
    let all = did_so_many done (callbacks_at list first.places) first (omega (arith, within, many)) in
    let none = ap (λ (did : List Effects). length did) is.did in
    let same = ap (λ (b : BufferState). length b.did) is.run in
    omega (arith, all, none, same)

pub kept_places : (list : List Ready) (first buffer : BufferState) (done : ℕ) → IsBuffered list first buffer done → buffer.places ≡ first.places
kept_places list first buffer done is = ap (λ (b : BufferState). b.places) is.run ∙ places_stay done (callbacks_at list first.places) first

-- what ran in the buffer is what ran in the lane
pub kept_ran : (list : List Ready) (first buffer : BufferState) (done : ℕ) → IsBuffered list first buffer done → ran_from list buffer ≡ ran_in (lane_from list first done)
kept_ran list first buffer done is =
    let callbacks = callbacks_at list first.places in
    let left = left_by_first done callbacks first.variables first.waiting in
    let did : buffer.did ≡ map (λ one. one.effects) left =
    ap (λ (b : BufferState). b.did) is.run ∙ buffer_did done callbacks first ∙ ap (λ (before : List Effects). before ++ map (λ one. one.effects) left) is.did in
    (λ i. all_ran (callbacks_at list (kept_places list first buffer done is i)) (did i))
    ∙ sym (ran_are callbacks first.waiting left)
    ∙ ap (ran_each (entries_in list first)) (sym (first_left list first done))

-- and what the buffer brings home is what the lane does
pub kept_home : (list : List Ready) (first buffer : BufferState) (done : ℕ) (world : WorldState) → IsBuffered list first buffer done →
    works_home (callbacks_at list buffer.places) (buffer.polled ++ buffer.waiting) (bank_home (callbacks_at list buffer.places) buffer.variables world)
    ≡ lane_home world (lane_from list first done)
kept_home list first buffer done world is =
    let callbacks = callbacks_at list first.places in
    let left = left_by_first done callbacks first.variables first.waiting in
    let works : buffer.polled ++ buffer.waiting ≡ works_now done callbacks first.variables first.waiting =
    ap (λ (b : BufferState). b.polled ++ b.waiting) is.run ∙ buffer_works done callbacks first ∙ ap (λ (before : List (Option GoalWork)). before ++ works_now done callbacks first.variables first.waiting) is.polled in
    let variables : buffer.variables ≡ (lane_at first.variables (entries_in list first) done).variables =
    ap (λ (b : BufferState). b.variables) is.run ∙ sym (lane_variables done callbacks [] first) in
    (λ i. works_home (callbacks_at list (kept_places list first buffer done is i)) (works i) (bank_home (callbacks_at list (kept_places list first buffer done is i)) (variables i) world))
    ∙ sym (works_are_home done callbacks first.variables first.waiting (bank_home callbacks (lane_at first.variables (entries_in list first) done).variables world))
    ∙ (λ i. tasks_home (entries_in list first) (sym (first_left list first done) i) (sym (variables_are_home callbacks first.waiting (lane_at first.variables (entries_in list first) done).variables world) i))

-- as many entries as places
pub kept_count : (list : List Ready) (first buffer : BufferState) (done : ℕ) → IsBuffered list first buffer done → length buffer.places ≡ length (entries_in list first)
kept_count list first buffer done is =
    ap (λ (places : List ℕ). length places) (kept_places list first buffer done is)
    ∙ sym (as_many_entries (callbacks_at list first.places) first.waiting ∙ as_many_places list first.places)

pub kept_within : (list : List Ready) (first buffer : BufferState) (done : ℕ) → IsBuffered list first buffer done → done ≤ length (entries_in list first)
kept_within list first buffer done is =
    let many = kept_count list first buffer done is in
    let same = ap (λ (places : List ℕ). length places) (kept_places list first buffer done is) in
    let within = is.within in
    omega (arith, many, same, within)

-- each of its places is one of the list
pub kept_all : (list list_now : List Ready) (first buffer buffer_now : BufferState) (done : ℕ) → IsBuffered list first buffer done → list_now ≡ list → buffer_now ≡ buffer → ArePlacesOf list_now buffer_now.places
kept_all list list_now first buffer buffer_now done is of_list of_buffer =
    subst (λ (some : List Ready). ArePlacesOf some buffer_now.places) (sym of_list)
    (subst (ArePlacesOf list) (sym (ap (λ (b : BufferState). b.places) of_buffer ∙ kept_places list first buffer done is)) is.places)

-- one more callback of it runs
pub kept_on : (list : List Ready) (first buffer after : BufferState) (done : ℕ) (one : Ready) → IsBuffered list first buffer done → one ≡ nth_callback list buffer.places done →
    after ≡ run_next one buffer → done < length first.places → IsBuffered list first after (done + 1)
kept_on list first buffer after done one is at ran there = record {
  places = is.places;
  polled = is.polled;
  did = is.did;
  within = omega (arith, there);
  run =
      let callbacks = callbacks_at list first.places in
      let many = as_many_places list first.places in
      let here : slice_index_or callbacks done no_callback ≡ one =
      ap (λ (places : List ℕ). nth_callback list places done) (sym (kept_places list first buffer done is)) ∙ sym at in
      ran
      ∙ ap (λ (b : BufferState). run_next one b) is.run
      ∙ sym (one_more_runs done callbacks first one (omega (arith, there, many)) here);
}

pub kept_next : (list : List Ready) (first buffer after : BufferState) (one : Ready) → IsBuffered list first buffer (length buffer.did) → one ≡ nth_callback list buffer.places (length buffer.did) →
    after ≡ run_next one buffer → length buffer.did < length (entries_in list first) → IsBuffered list first after (length after.did)
kept_next list first buffer after one is at ran there =
    let many = kept_count list first buffer (length buffer.did) is in
    let same = ap (λ (places : List ℕ). length places) (kept_places list first buffer (length buffer.did) is) in
    let more : length after.did ≡ length buffer.did + 1 =
    ap (λ (b : BufferState). length b.did) ran ∙ length_push buffer.did (effects_of (apart_with one (polled_work one.cause buffer.waiting) buffer.variables)) in
    subst (IsBuffered list first after) (sym more) (kept_on list first buffer after (length buffer.did) one is at ran (omega (arith, there, many, same)))

-- what a callback did that ran
pub outcome_at : (list : List Ready) (did : List Effects) (i : ℕ) (one : Ready) (effects : Effects) → i < length list → slice_index_or list i no_callback ≡ one → slice_get did i ≡ Some effects →
    slice_get (map outcome_of (all_ran list did)) i ≡ Some (record { position = one.position; effects = effects })
outcome_at [] did i one effects within at is = absurd (omega (arith, within))
outcome_at (first ∷ list) [] i one effects within at is = absurd cc
outcome_at (first ∷ list) (some ∷ did) zero one effects within at is =
    let same : some ≡ effects = cc in
    (λ i. Some (record { position = (at i).position; effects = same i }))
outcome_at (first ∷ list) (some ∷ did) (suc i) one effects within at is = outcome_at list did i one effects (omega (arith, within)) at is

-- ---- a lane that came home

pub ran_so_many : (list : List Ready) (did : List Effects) → length did ≤ length list → length (all_ran list did) ≡ length did
ran_so_many [] [] within = refl
ran_so_many [] (some ∷ did) within = absurd (omega (arith, within))
ran_so_many (one ∷ list) [] within = refl
ran_so_many (one ∷ list) (some ∷ did) within = ap suc (ran_so_many list did (omega (arith, within)))

pub ran_ready : (list : List Ready) (did : List Effects) (i : ℕ) → i < length (all_ran list did) → slice_index_or list i no_callback ≡ (ran_at (all_ran list did) i).ready
ran_ready [] [] i within = absurd (omega (arith, within))
ran_ready [] (some ∷ did) i within = absurd (omega (arith, within))
ran_ready (one ∷ list) [] i within = absurd (omega (arith, within))
ran_ready (one ∷ list) (some ∷ did) zero within = refl
ran_ready (one ∷ list) (some ∷ did) (suc i) within = ran_ready list did i (omega (arith, within))

pub ran_effects : (list : List Ready) (did : List Effects) (i : ℕ) (effects : Effects) → i < length (all_ran list did) → slice_get did i ≡ Some effects → effects ≡ (ran_at (all_ran list did) i).effects
ran_effects [] [] i effects within is = absurd (omega (arith, within))
ran_effects [] (some ∷ did) i effects within is = absurd (omega (arith, within))
ran_effects (one ∷ list) [] i effects within is = absurd (omega (arith, within))
ran_effects (one ∷ list) (some ∷ did) zero effects within is = let same : some ≡ effects = cc in sym same
ran_effects (one ∷ list) (some ∷ did) (suc i) effects within is = ran_effects list did i effects (omega (arith, within)) is

-- no more of its callbacks ran than it has
pub kept_few : (list : List Ready) (first buffer : BufferState) → IsBuffered list first buffer (length buffer.did) → length buffer.did ≤ length buffer.places
kept_few list first buffer is =
    let count = kept_count list first buffer (length buffer.did) is in
    let within = kept_within list first buffer (length buffer.did) is in
    omega (arith, count, within)
