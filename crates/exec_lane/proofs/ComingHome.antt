-- What lanes bring home and what their callbacks did is what one thread brings home and does.
use Rattle.std.proofs.Common.{◌≡◌, ℕ, ◌+◌, ◌<◌, Bool, true, false, ◌&&◌, ◌==◌, if◌then◌else◌, List, [], ◌∷◌, ◌++◌, length, map, slice_index_or, Option, None, Some, refl, sym, ap, subst, ◌∙◌, true≢false, arith}
use Rattle.std.specs.Prelude.{IsPermutation}
use Rattle.std.specs.List.{AllByRecursion, flat_map, fold, list_any}
use Rattle.std.specs.Option.{option_map}
use Rattle.std.proofs.lemmas.Bool.{and_parts, eqb-true, eq-eqb}
use Rattle.std.proofs.lemmas.List.{append_assoc, length-set, length_push, map-append}
use Rattle.std.proofs.lemmas.List.Concat.{flat_map-append}
use Rattle.std.proofs.lemmas.List.Sorted.{IsPermutation-append_comm, IsPermutation-append_right, IsPermutation-refl}
use Rattle.std.proofs.lemmas.List.Sums.{fold-append}
use Rattle.exec_msg.specs.Numbers.{EntityNo}
use Rattle.exec_lane.proofs.Putting.{put_past, task_put, variables_left, variables_put, variables_turned, variables_twice}
use Rattle.exec_lane.specs.Gather.{Ran, ran_each}
use Rattle.exec_lane.specs.Lane.{LaneCallback, LaneState, LeftByCallback, entry_in, goes_into, is_beside, left_by_callback, run_entry, task_home, tasks_home, variables_for_lane, variables_home, with_callback}
use Rattle.exec_msg.specs.Lists.{change_first}
use Rattle.exec_script.specs.declared.effects.Effect.{Effect}
use Rattle.exec_script.specs.Zeros.{zeros}
use Rattle.exec_rules.specs.Callback.{AfterCallback}
use Rattle.exec_rules.specs.Calls.{polls_same}
use Rattle.exec_rules.specs.Run.{apart, apart_with, effects_of, variables_for, with_variables_for, work_after, work_for}
use Rattle.exec_script.specs.Script.{Variables}
use Rattle.exec_rules.specs.World.{GoalWork, WorldState, with_variables, with_work}
use Rattle.exec_rules.specs.declared.ready.Cause.{Cause}
use Rattle.exec_rules.specs.declared.ready.Cause.TheVariants as cause
use Rattle.exec_rules.specs.declared.ready.Ready.{Ready}

-- ---- a lane all of whose callbacks ran, from where a first world opened it

-- how it stands
abbrev pub left_of : WorldState → List Ready → LaneState
left_of first lane = fold run_entry (record { variables = variables_for_lane first lane; left = [] }) (map (entry_in first) lane)

-- a world in which what it took is home
abbrev pub home_of : WorldState → WorldState → List Ready → WorldState
home_of first world lane = tasks_home (map (entry_in first) lane) (left_of first lane).left (variables_home (map (entry_in first) lane) (left_of first lane).variables world)

abbrev pub homes_of : WorldState → List (List Ready) → WorldState → WorldState
homes_of first lanes world = fold (home_of first) world lanes

-- what its callbacks did
abbrev pub ran_of : WorldState → List Ready → List Ran
ran_of first lane = ran_each (map (entry_in first) lane) (left_of first lane).left

-- ---- a callback's variables and work, put before or behind a lane comes home

tasks_keep : (entries : List LaneCallback) (done : List LeftByCallback) (world : WorldState) → (tasks_home entries done world).variables ≡ world.variables
tasks_keep [] done world = refl
tasks_keep (entry ∷ entries) [] world = tasks_keep entries [] (task_home entry.ready.entity entry.ready.cause entry.work world) ∙ keeps entry.ready.entity entry.ready.cause entry.work
  where
    keeps : (server : EntityNo) (of : Cause) (work : Option GoalWork) → (task_home server of work world).variables ≡ world.variables
    keeps server cause.Due work = refl
    keeps server (cause.Took item) work = refl
    keeps server (cause.Woke id value canceling) None = refl
    keeps server (cause.Woke id value canceling) (Some work) = refl
tasks_keep (entry ∷ entries) (did ∷ done) world = tasks_keep entries done (task_home entry.ready.entity entry.ready.cause did.work world) ∙ keeps entry.ready.entity entry.ready.cause did.work
  where
    keeps : (server : EntityNo) (of : Cause) (work : Option GoalWork) → (task_home server of work world).variables ≡ world.variables
    keeps server cause.Due work = refl
    keeps server (cause.Took item) work = refl
    keeps server (cause.Woke id value canceling) None = refl
    keeps server (cause.Woke id value canceling) (Some work) = refl

-- a goal's work comes home beside variables
task_beside : (server : EntityNo) (of : Cause) (work : Option GoalWork) (one : Ready) (variables : Variables) (world : WorldState) →
    task_home server of work (with_variables_for one variables world) ≡ with_variables_for one variables (task_home server of work world)
task_beside server cause.Due work one variables world = refl
task_beside server (cause.Took item) work one variables world = refl
task_beside server (cause.Woke id value canceling) None one variables world = refl
task_beside server (cause.Woke id value canceling) (Some work) one variables world = by one.exclusive
  where
    by : (b : Bool) → with_work server id work (if b then with_variables one.group variables world else world) ≡ (if b then with_variables one.group variables (with_work server id work world) else with_work server id work world)
    by true = refl
    by false = refl

tasks_beside : (entries : List LaneCallback) (done : List LeftByCallback) (one : Ready) (variables : Variables) (world : WorldState) → tasks_home entries done (with_variables_for one variables world) ≡ with_variables_for one variables (tasks_home entries done world)
tasks_beside [] done one variables world = refl
tasks_beside (entry ∷ entries) [] one variables world =
    ap (tasks_home entries []) (task_beside entry.ready.entity entry.ready.cause entry.work one variables world)
    ∙ tasks_beside entries [] one variables (task_home entry.ready.entity entry.ready.cause entry.work world)
tasks_beside (entry ∷ entries) (did ∷ done) one variables world =
    ap (tasks_home entries done) (task_beside entry.ready.entity entry.ready.cause did.work one variables world)
    ∙ tasks_beside entries done one variables (task_home entry.ready.entity entry.ready.cause did.work world)

-- works of goals that a callback doesn't poll come home before or behind its own is put
abbrev pub NonePolls : Ready → List Ready → Type 0
NonePolls one lane = AllByRecursion (λ other. polls_same other one ≡ false) lane

tasks_past : (first : WorldState) (lane : List Ready) (done : List LeftByCallback) (one : Ready) (work : GoalWork) (world : WorldState) → NonePolls one lane →
    tasks_home (map (entry_in first) lane) done (task_put one.entity one.cause work world) ≡ task_put one.entity one.cause work (tasks_home (map (entry_in first) lane) done world)
tasks_past first [] done one work world apart = refl
tasks_past first (other ∷ lane) [] one work world apart =
    ap (tasks_home (map (entry_in first) lane) []) (put_past other.entity other.cause (work_for other.entity other.cause first) one work world apart.0)
    ∙ tasks_past first lane [] one work (task_home other.entity other.cause (work_for other.entity other.cause first) world) apart.1
tasks_past first (other ∷ lane) (did ∷ done) one work world apart =
    ap (tasks_home (map (entry_in first) lane) done) (put_past other.entity other.cause did.work one work world apart.0)
    ∙ tasks_past first lane done one work (task_home other.entity other.cause did.work world) apart.1

pub put_beside : (one : Ready) (work : GoalWork) (other : Ready) (variables : Variables) (world : WorldState) →
    with_variables_for other variables (task_put one.entity one.cause work world) ≡ task_put one.entity one.cause work (with_variables_for other variables world)
put_beside one work other variables world = by one.cause other.exclusive
  where
    by : (why : Cause) (b : Bool) →
        (if b then with_variables other.group variables (task_put one.entity why work world) else task_put one.entity why work world) ≡ task_put one.entity why work (if b then with_variables other.group variables world else world)
    by cause.Due true = refl
    by cause.Due false = refl
    by (cause.Took item) true = refl
    by (cause.Took item) false = refl
    by (cause.Woke id value canceling) true = refl
    by (cause.Woke id value canceling) false = refl

lane_past : (first : WorldState) (lane : List Ready) (one : Ready) (work : GoalWork) (world : WorldState) → NonePolls one lane →
    home_of first (task_put one.entity one.cause work world) lane ≡ task_put one.entity one.cause work (home_of first world lane)
lane_past first [] one work world apart = refl
lane_past first (other ∷ lane) one work world apart =
    ap (tasks_home (map (entry_in first) (other ∷ lane)) (left_of first (other ∷ lane)).left) (put_beside one work other (left_of first (other ∷ lane)).variables world)
    ∙ tasks_past first (other ∷ lane) (left_of first (other ∷ lane)).left one work (with_variables_for other (left_of first (other ∷ lane)).variables world) apart

pub lanes_past : (first : WorldState) (lanes : List (List Ready)) (one : Ready) (work : GoalWork) (world : WorldState) → AllByRecursion (NonePolls one) lanes →
    homes_of first lanes (task_put one.entity one.cause work world) ≡ task_put one.entity one.cause work (homes_of first lanes world)
lanes_past first [] one work world apart = refl
lanes_past first (lane ∷ lanes) one work world apart =
    ap (homes_of first lanes) (lane_past first lane one work world apart.0) ∙ lanes_past first lanes one work (home_of first world lane) apart.1

-- variables of a group that a lane isn't of come home before or behind it
abbrev TakesNot : Ready → List Ready → Type 0
TakesNot one lane = goes_into one lane ≡ false

lane_beside : (first : WorldState) (lane : List Ready) (one : Ready) (variables : Variables) (world : WorldState) → TakesNot one lane →
    home_of first (with_variables_for one variables world) lane ≡ with_variables_for one variables (home_of first world lane)
lane_beside first [] one variables world apart = refl
lane_beside first (other ∷ lane) one variables world apart =
    ap (tasks_home (map (entry_in first) (other ∷ lane)) (left_of first (other ∷ lane)).left) (variables_turned one other variables (left_of first (other ∷ lane)).variables world apart)
    ∙ tasks_beside (map (entry_in first) (other ∷ lane)) (left_of first (other ∷ lane)).left one variables (with_variables_for other (left_of first (other ∷ lane)).variables world)

lanes_beside : (first : WorldState) (lanes : List (List Ready)) (one : Ready) (variables : Variables) (world : WorldState) → AllByRecursion (TakesNot one) lanes →
    homes_of first lanes (with_variables_for one variables world) ≡ with_variables_for one variables (homes_of first lanes world)
lanes_beside first [] one variables world apart = refl
lanes_beside first (lane ∷ lanes) one variables world apart =
    ap (homes_of first lanes) (lane_beside first lane one variables world apart.0) ∙ lanes_beside first lanes one variables (home_of first world lane) apart.1

pub same_for : (one : Ready) (world after : WorldState) → after.variables ≡ world.variables → variables_for one after ≡ variables_for one world
same_for one world after same = by one.exclusive
  where
    by : (b : Bool) → (if b then slice_index_or after.variables one.group zeros else zeros) ≡ (if b then slice_index_or world.variables one.group zeros else zeros)
    by true = ap (λ (all : List Variables). slice_index_or all one.group zeros) same
    by false = refl

-- and are as they were behind it
lane_leaves : (first : WorldState) (lane : List Ready) (one : Ready) (world : WorldState) → TakesNot one lane → variables_for one (home_of first world lane) ≡ variables_for one world
lane_leaves first [] one world apart = refl
lane_leaves first (other ∷ lane) one world apart =
    let began : WorldState = with_variables_for other (left_of first (other ∷ lane)).variables world in
    same_for one began (home_of first world (other ∷ lane)) (tasks_keep (map (entry_in first) (other ∷ lane)) (left_of first (other ∷ lane)).left began)
    ∙ variables_left one other (left_of first (other ∷ lane)).variables world apart

lanes_leave : (first : WorldState) (lanes : List (List Ready)) (one : Ready) (world : WorldState) → AllByRecursion (TakesNot one) lanes → variables_for one (homes_of first lanes world) ≡ variables_for one world
lanes_leave first [] one world apart = refl
lanes_leave first (lane ∷ lanes) one world apart = lanes_leave first lanes one (home_of first world lane) apart.1 ∙ lane_leaves first lane one world apart.0

-- ---- one more callback

-- as many callbacks left something as ran
as_many : (state : LaneState) (entries : List LaneCallback) → length (fold run_entry state entries).left ≡ length state.left + length entries
as_many state [] = omega arith
as_many state (entry ∷ entries) =
    let rest = as_many (run_entry state entry) entries in
    let one = length_push state.left (left_by_callback entry.work (apart_with entry.ready entry.work state.variables)) in
    omega (arith, rest, one)

tasks_more : (entries : List LaneCallback) (done : List LeftByCallback) (entry : LaneCallback) (did : LeftByCallback) (world : WorldState) → length done ≡ length entries →
    tasks_home (entries ++ entry ∷ []) (done ++ did ∷ []) world ≡ task_home entry.ready.entity entry.ready.cause did.work (tasks_home entries done world)
tasks_more [] [] entry did world same = refl
tasks_more [] (one ∷ done) entry did world same = absurd (omega (arith, same))
tasks_more (one ∷ entries) [] entry did world same = absurd (omega (arith, same))
tasks_more (one ∷ entries) (other ∷ done) entry did world same = tasks_more entries done entry did (task_home one.ready.entity one.ready.cause other.work world) (omega (arith, same))

ran_more : (entries : List LaneCallback) (done : List LeftByCallback) (entry : LaneCallback) (did : LeftByCallback) → length done ≡ length entries →
    ran_each (entries ++ entry ∷ []) (done ++ did ∷ []) ≡ ran_each entries done ++ record { ready = entry.ready; effects = did.effects } ∷ []
ran_more [] [] entry did same = refl
ran_more [] (one ∷ done) entry did same = absurd (omega (arith, same))
ran_more (one ∷ entries) [] entry did same = absurd (omega (arith, same))
ran_more (one ∷ entries) (other ∷ done) entry did same = ap (λ (all : List Ran). record { ready = one.ready; effects = other.effects } ∷ all) (ran_more entries done entry did (omega (arith, same)))

-- what a callback does whose goal has its work of a first world, with these variables
abbrev pub did_with : WorldState → Ready → Variables → AfterCallback (List Effect)
did_with first one variables = apart_with one (work_for one.entity one.cause first) variables

-- what it brings home
abbrev pub home_after : WorldState → Ready → Variables → WorldState → WorldState
home_after first one variables world =
    task_home one.entity one.cause (option_map (work_after (did_with first one variables).task) (work_for one.entity one.cause first)) (with_variables_for one (did_with first one variables).variables world)

abbrev pub ran_with : WorldState → Ready → Variables → Ran
ran_with first one variables = record { ready = one; effects = effects_of (did_with first one variables) }

left_more : (first : WorldState) (other : Ready) (lane : List Ready) (one : Ready) → left_of first ((other ∷ lane) ++ one ∷ []) ≡ run_entry (left_of first (other ∷ lane)) (entry_in first one)
left_more first other lane one =
    ap (λ (entries : List LaneCallback). fold run_entry (record { variables = variables_for other first; left = [] }) entries) (map-append (entry_in first) (other ∷ lane) (one ∷ []))
    ∙ fold-append run_entry (record { variables = variables_for other first; left = [] }) (map (entry_in first) (other ∷ lane)) (entry_in first one ∷ [])

left_as_many : (first : WorldState) (other : Ready) (lane : List Ready) → length (left_of first (other ∷ lane)).left ≡ length (map (entry_in first) (other ∷ lane))
left_as_many first other lane = let all = as_many (record { variables = variables_for other first; left = [] }) (map (entry_in first) (other ∷ lane)) in omega (arith, all)

-- the variables of callbacks beside each other are those of one group
for_one : (one other : Ready) (variables : Variables) (world : WorldState) → is_beside one other ≡ true → with_variables_for other variables world ≡ with_variables_for one variables world
for_one one other variables world beside =
    let both = and_parts (one.exclusive && other.exclusive) (one.group == other.group) beside in
    let each = and_parts one.exclusive other.exclusive both.0 in
    rw (each.0, each.1) (ap (λ (group : ℕ). with_variables group variables world) (sym (eqb-true one.group other.group both.1)))

-- a lane with one more callback comes home as the callback does behind it
lane_more : (first world : WorldState) (other : Ready) (lane : List Ready) (one : Ready) → is_beside one other ≡ true →
    home_of first world ((other ∷ lane) ++ one ∷ []) ≡ home_after first one (left_of first (other ∷ lane)).variables (home_of first world (other ∷ lane))
lane_more first world other lane one beside =
    let entries : List LaneCallback = map (entry_in first) (other ∷ lane) in
    let state : LaneState = left_of first (other ∷ lane) in
    let did : AfterCallback (List Effect) = did_with first one state.variables in
    let after : WorldState = with_variables_for other did.variables world in
    ap (λ (last : LaneState). tasks_home (map (entry_in first) ((other ∷ lane) ++ one ∷ [])) last.left (with_variables_for other last.variables world)) (left_more first other lane one)
    ∙ ap (λ (all : List LaneCallback). tasks_home all (state.left ++ left_by_callback (work_for one.entity one.cause first) did ∷ []) after) (map-append (entry_in first) (other ∷ lane) (one ∷ []))
    ∙ tasks_more entries state.left (entry_in first one) (left_by_callback (work_for one.entity one.cause first) did) after (left_as_many first other lane)
    ∙ ap (λ (last : WorldState). task_home one.entity one.cause (option_map (work_after did.task) (work_for one.entity one.cause first)) last)
    (ap (tasks_home entries state.left) (sym (variables_twice other state.variables did.variables world) ∙ for_one one other did.variables (with_variables_for other state.variables world) beside)
    ∙ tasks_beside entries state.left one did.variables (with_variables_for other state.variables world))

lane_ran_more : (first : WorldState) (other : Ready) (lane : List Ready) (one : Ready) → ran_of first ((other ∷ lane) ++ one ∷ []) ≡ ran_of first (other ∷ lane) ++ ran_with first one (left_of first (other ∷ lane)).variables ∷ []
lane_ran_more first other lane one =
    let entries : List LaneCallback = map (entry_in first) (other ∷ lane) in
    let state : LaneState = left_of first (other ∷ lane) in
    let did : AfterCallback (List Effect) = did_with first one state.variables in
    ap (λ (last : LaneState). ran_each (map (entry_in first) ((other ∷ lane) ++ one ∷ [])) last.left) (left_more first other lane one)
    ∙ ap (λ (all : List LaneCallback). ran_each all (state.left ++ left_by_callback (work_for one.entity one.cause first) did ∷ [])) (map-append (entry_in first) (other ∷ lane) (one ∷ []))
    ∙ ran_more entries state.left (entry_in first one) (left_by_callback (work_for one.entity one.cause first) did) (left_as_many first other lane)

-- the variables that a lane brings home are its group's
lane_brings : (first world : WorldState) (other : Ready) (lane : List Ready) (one : Ready) → is_beside one other ≡ true → one.group < length world.variables →
    variables_for one (home_of first world (other ∷ lane)) ≡ (left_of first (other ∷ lane)).variables
lane_brings first world other lane one beside within =
    let state : LaneState = left_of first (other ∷ lane) in
    let began : WorldState = with_variables_for other state.variables world in
    let each = and_parts one.exclusive other.exclusive (and_parts (one.exclusive && other.exclusive) (one.group == other.group) beside).0 in
    same_for one began (home_of first world (other ∷ lane)) (tasks_keep (map (entry_in first) (other ∷ lane)) state.left began)
    ∙ ap (variables_for one) (for_one one other state.variables world beside)
    ∙ variables_put one state.variables world each.0 within

-- as many variables as before
as_many_groups : (first world : WorldState) (lane : List Ready) → length (home_of first world lane).variables ≡ length world.variables
as_many_groups first world [] = refl
as_many_groups first world (other ∷ lane) =
    ap length (tasks_keep (map (entry_in first) (other ∷ lane)) (left_of first (other ∷ lane)).left (with_variables_for other (left_of first (other ∷ lane)).variables world)) ∙ by other.exclusive
  where
    by : (b : Bool) → length (if b then with_variables other.group (left_of first (other ∷ lane)).variables world else world).variables ≡ length world.variables
    by true = length-set world.variables other.group (left_of first (other ∷ lane)).variables
    by false = refl

-- ---- one more callback in lanes

-- lanes of which no callback goes into two
abbrev Apart : List Ready → List Ready → Type 0
Apart lane other = (one : Ready) → goes_into one lane ≡ true → TakesNot one other

abbrev pub AreApart : List (List Ready) → Type 0
AreApart [] = Unit {0}
AreApart (lane ∷ lanes) = AllByRecursion (Apart lane) lanes × AreApart lanes

-- a callback that came home behind lanes, and what it did beside what they did
pub record ComesBehind (first : WorldState) (one : Ready) (lanes more : List (List Ready)) (world : WorldState) : Type 0 where
  pub home : homes_of first more world ≡ home_after first one (variables_for one (homes_of first lanes world)) (homes_of first lanes world)
  pub ran : IsPermutation (flat_map (ran_of first) more) (flat_map (ran_of first) lanes ++ ran_with first one (variables_for one (homes_of first lanes world)) ∷ [])

none_take : (one : Ready) (lane : List Ready) (lanes : List (List Ready)) → goes_into one lane ≡ true → AllByRecursion (Apart lane) lanes → AllByRecursion (TakesNot one) lanes
none_take one lane [] goes apart = tt
none_take one lane (other ∷ lanes) goes apart = (apart.0 one goes, none_take one lane lanes goes apart.1)

none_takes : (one : Ready) (lanes : List (List Ready)) → list_any (goes_into one) lanes ≡ false → AllByRecursion (TakesNot one) lanes
none_takes one [] none = tt
none_takes one (lane ∷ lanes) none = by (goes_into one lane) refl (none_takes one lanes)
  where
    by : (b : Bool) → goes_into one lane ≡ b → (list_any (goes_into one) lanes ≡ false → AllByRecursion (TakesNot one) lanes) → AllByRecursion (TakesNot one) (lane ∷ lanes)
    by true e rest = let some : true ≡ false = rw e at none in absurd (true≢false some)
    by false e rest = let more : list_any (goes_into one) lanes ≡ false = rw e at none in (e, rest more)

-- what comes home of a callback may come home before lanes of other groups and goals
task_past : (first : WorldState) (lanes : List (List Ready)) (one : Ready) (work : Option GoalWork) (began after : WorldState) → AllByRecursion (NonePolls one) lanes → homes_of first lanes began ≡ after →
    homes_of first lanes (task_home one.entity one.cause work began) ≡ task_home one.entity one.cause work after
task_past first lanes one work began after polls came = by work one.cause refl
  where
    by : (work : Option GoalWork) (why : Cause) → one.cause ≡ why → homes_of first lanes (task_home one.entity why work began) ≡ task_home one.entity why work after
    by work cause.Due e = came
    by work (cause.Took item) e = came
    by None (cause.Woke id value canceling) e = came
    by (Some work) (cause.Woke id value canceling) e =
        ap (λ (why : Cause). homes_of first lanes (task_put one.entity why work began)) (sym e)
        ∙ lanes_past first lanes one work began polls
        ∙ ap (λ (why : Cause). task_put one.entity why work (homes_of first lanes began)) e
        ∙ ap (with_work one.entity id work) came

home_past : (first : WorldState) (lanes : List (List Ready)) (one : Ready) (variables : Variables) (world : WorldState) → AllByRecursion (TakesNot one) lanes → AllByRecursion (NonePolls one) lanes →
    homes_of first lanes (home_after first one variables world) ≡ home_after first one variables (homes_of first lanes world)
home_past first lanes one variables world takes_not polls =
    let did : AfterCallback (List Effect) = did_with first one variables in
    task_past first lanes one (option_map (work_after did.task) (work_for one.entity one.cause first)) (with_variables_for one did.variables world) (with_variables_for one did.variables (homes_of first lanes world)) polls
    (lanes_beside first lanes one did.variables world takes_not)

-- it goes into the lane of its group
joins : (first : WorldState) (one : Ready) (lanes : List (List Ready)) (world : WorldState) → list_any (goes_into one) lanes ≡ true → AreApart lanes → AllByRecursion (NonePolls one) lanes → one.group < length world.variables →
    ComesBehind first one lanes (change_first (goes_into one) (λ lane. lane ++ one ∷ []) lanes) world
joins first one [] world there apart polls within = absurd (true≢false (sym there))
joins first one ([] ∷ lanes) world there apart polls within =
    let behind = joins first one lanes world there apart.1 polls.1 within in
    record { home = behind.home; ran = behind.ran }
joins first one ((other ∷ lane) ∷ lanes) world there apart polls within = by (is_beside one other) refl (joins first one lanes (home_of first world (other ∷ lane)))
  where
    came : WorldState
    came = home_of first world (other ∷ lane)

    by : (b : Bool) → is_beside one other ≡ b →
        (list_any (goes_into one) lanes ≡ true → AreApart lanes → AllByRecursion (NonePolls one) lanes → one.group < length came.variables → ComesBehind first one lanes (change_first (goes_into one) (λ lane. lane ++ one ∷ []) lanes) came) →
        ComesBehind first one ((other ∷ lane) ∷ lanes) (change_first (goes_into one) (λ lane. lane ++ one ∷ []) ((other ∷ lane) ∷ lanes)) world
    by true e rest =
        let none : AllByRecursion (TakesNot one) lanes = none_take one (other ∷ lane) lanes e apart.0 in
        let state : LaneState = left_of first (other ∷ lane) in
        let found : state.variables ≡ variables_for one (homes_of first lanes came) = sym (lanes_leave first lanes one came none ∙ lane_brings first world other lane one e within) in
        rw e
        (record {
          home = ap (homes_of first lanes) (lane_more first world other lane one e) ∙ home_past first lanes one state.variables came none polls.1 ∙ ap (λ (variables : Variables). home_after first one variables (homes_of first lanes came)) found;
          ran = subst (λ (all : List Ran). IsPermutation all (flat_map (ran_of first) ((other ∷ lane) ∷ lanes) ++ ran_with first one (variables_for one (homes_of first lanes came)) ∷ []))
              (ap (λ (some : List Ran). some ++ flat_map (ran_of first) lanes)
              (ap (λ (variables : Variables). ran_of first (other ∷ lane) ++ ran_with first one variables ∷ []) (sym found) ∙ sym (lane_ran_more first other lane one)))
              (moved (ran_of first (other ∷ lane)) (flat_map (ran_of first) lanes) (ran_with first one (variables_for one (homes_of first lanes came))));
        })
      where
        moved : (some more : List Ran) (did : Ran) → IsPermutation ((some ++ did ∷ []) ++ more) ((some ++ more) ++ did ∷ [])
        moved some more did =
            subst (λ (all : List Ran). IsPermutation all ((some ++ more) ++ did ∷ [])) (sym (append_assoc some (did ∷ []) more))
            (subst (λ (all : List Ran). IsPermutation (some ++ did ∷ more) all) (sym (append_assoc some more (did ∷ [])))
            (IsPermutation-append_right some (did ∷ more) (more ++ did ∷ []) (IsPermutation-append_comm (did ∷ []) more)))
    by false e rest =
        let there_behind : list_any (goes_into one) lanes ≡ true = rw e at there in
        let more : one.group < length came.variables = subst (λ (n : ℕ). one.group < n) (sym (as_many_groups first world (other ∷ lane))) within in
        let behind = rest there_behind apart.1 polls.1 more in
        rw e
        (record {
          home = behind.home;
          ran = subst (λ (all : List Ran). IsPermutation (ran_of first (other ∷ lane) ++ flat_map (ran_of first) (change_first (goes_into one) (λ lane. lane ++ one ∷ []) lanes)) all)
              (sym (append_assoc (ran_of first (other ∷ lane)) (flat_map (ran_of first) lanes) (ran_with first one (variables_for one (homes_of first lanes came)) ∷ [])))
              (IsPermutation-append_right (ran_of first (other ∷ lane)) _ _ behind.ran);
        })

-- or begins one
begins : (first : WorldState) (one : Ready) (lanes : List (List Ready)) (world : WorldState) → list_any (goes_into one) lanes ≡ false → world.variables ≡ first.variables →
    ComesBehind first one lanes (lanes ++ (one ∷ []) ∷ []) world
begins first one lanes world none same =
    let found : variables_for one first ≡ variables_for one (homes_of first lanes world) =
    sym (lanes_leave first lanes one world (none_takes one lanes none) ∙ same_for one first world same) in
    record {
      home = fold-append (home_of first) world lanes ((one ∷ []) ∷ []) ∙ ap (λ (variables : Variables). home_after first one variables (homes_of first lanes world)) found;
      ran = subst (λ (all : List Ran). IsPermutation all (flat_map (ran_of first) lanes ++ ran_with first one (variables_for one (homes_of first lanes world)) ∷ []))
          (sym (flat_map-append (ran_of first) lanes ((one ∷ []) ∷ []) ∙ ap (λ (variables : Variables). flat_map (ran_of first) lanes ++ ran_with first one variables ∷ []) found))
          (IsPermutation-refl _);
    }

pub comes_behind : (first : WorldState) (one : Ready) (lanes : List (List Ready)) (world : WorldState) → AreApart lanes → AllByRecursion (NonePolls one) lanes → world.variables ≡ first.variables → (one.exclusive ≡ true → one.group < length first.variables) →
    ComesBehind first one lanes (with_callback lanes one) world
comes_behind first one lanes world apart polls same within = by (list_any (goes_into one) lanes) refl
  where
    exclusive : (some : List (List Ready)) → list_any (goes_into one) some ≡ true → one.exclusive ≡ true
    exclusive [] there = absurd (true≢false (sym there))
    exclusive ([] ∷ some) there = exclusive some there
    exclusive ((other ∷ lane) ∷ some) there = again (is_beside one other) refl (exclusive some)
      where
        again : (b : Bool) → is_beside one other ≡ b → (list_any (goes_into one) some ≡ true → one.exclusive ≡ true) → one.exclusive ≡ true
        again true e rest = (and_parts one.exclusive other.exclusive (and_parts (one.exclusive && other.exclusive) (one.group == other.group) e).0).0
        again false e rest = let behind : list_any (goes_into one) some ≡ true = rw e at there in rest behind

    by : (b : Bool) → list_any (goes_into one) lanes ≡ b → ComesBehind first one lanes (with_callback lanes one) world
    by true e = rw e (joins first one lanes world e apart polls (subst (λ (all : List Variables). one.group < length all) (sym same) (within (exclusive lanes e))))
    by false e = rw e (begins first one lanes world e same)

-- ---- the lanes stay apart

beside_too : (one other another : Ready) → is_beside one other ≡ true → is_beside one another ≡ true → is_beside another other ≡ true
beside_too one other another e f =
    let here = and_parts (one.exclusive && other.exclusive) (one.group == other.group) e in
    let there = and_parts (one.exclusive && another.exclusive) (one.group == another.group) f in
    let group : another.group ≡ other.group = sym (eqb-true one.group another.group there.1) ∙ eqb-true one.group other.group here.1 in
    (λ i. (and_parts one.exclusive another.exclusive there.0).1 i && (and_parts one.exclusive other.exclusive here.0).1 i && eq-eqb another.group other.group group i)

apart_more : (lane : List Ready) (one : Ready) (lanes : List (List Ready)) → AllByRecursion (Apart lane) lanes → AllByRecursion (Apart lane) (change_first (goes_into one) (λ lane. lane ++ one ∷ []) lanes)
apart_more lane one [] apart = tt
apart_more lane one ([] ∷ lanes) apart = (apart.0, apart_more lane one lanes apart.1)
apart_more lane one ((other ∷ others) ∷ lanes) apart = by (is_beside one other) refl (apart_more lane one lanes apart.1)
  where
    by : (b : Bool) → is_beside one other ≡ b → AllByRecursion (Apart lane) (change_first (goes_into one) (λ lane. lane ++ one ∷ []) lanes) → AllByRecursion (Apart lane) (change_first (goes_into one) (λ lane. lane ++ one ∷ []) ((other ∷ others) ∷ lanes))
    by true e rest = rw e (apart.0, apart.1)
    by false e rest = rw e (apart.0, rest)

apart_joined : (one : Ready) (lanes : List (List Ready)) → AreApart lanes → AreApart (change_first (goes_into one) (λ lane. lane ++ one ∷ []) lanes)
apart_joined one [] apart = tt
apart_joined one ([] ∷ lanes) apart = (apart_more [] one lanes apart.0, apart_joined one lanes apart.1)
apart_joined one ((other ∷ lane) ∷ lanes) apart = by (is_beside one other) refl (apart_joined one lanes apart.1)
  where
    by : (b : Bool) → is_beside one other ≡ b → AreApart (change_first (goes_into one) (λ lane. lane ++ one ∷ []) lanes) → AreApart (change_first (goes_into one) (λ lane. lane ++ one ∷ []) ((other ∷ lane) ∷ lanes))
    by true e rest = rw e (apart.0, apart.1)
    by false e rest = rw e (apart_more (other ∷ lane) one lanes apart.0, rest)

-- a callback that goes into no lane begins one apart from all
apart_begun : (one : Ready) (lanes : List (List Ready)) → AllByRecursion (TakesNot one) lanes → AreApart lanes → AreApart (lanes ++ (one ∷ []) ∷ [])
apart_begun one [] none apart = (tt, tt)
apart_begun one (lane ∷ lanes) none apart = (all lanes apart.0, apart_begun one lanes none.1 apart.1)
  where
    last : (here : List Ready) → TakesNot one here → Apart here (one ∷ [])
    last [] not another goes = absurd (true≢false (sym goes))
    last (other ∷ here) not another goes = by (is_beside another one) refl
      where
        by : (b : Bool) → is_beside another one ≡ b → b ≡ false
        by true e = absurd (true≢false (sym (beside_too another other one goes e) ∙ not))
        by false e = refl

    behind : Apart lane (one ∷ [])
    behind = last lane none.0

    all : (some : List (List Ready)) → AllByRecursion (Apart lane) some → AllByRecursion (Apart lane) (some ++ (one ∷ []) ∷ [])
    all [] held = (behind, tt)
    all (other ∷ some) held = (held.0, all some held.1)

pub apart_with_callback : (one : Ready) (lanes : List (List Ready)) → AreApart lanes → AreApart (with_callback lanes one)
apart_with_callback one lanes apart = by (list_any (goes_into one) lanes) refl
  where
    by : (b : Bool) → list_any (goes_into one) lanes ≡ b → AreApart (with_callback lanes one)
    by true e = rw e (apart_joined one lanes apart)
    by false e = rw e (apart_begun one lanes (none_takes one lanes e) apart)

-- what holds of all callbacks of lanes
all_more : (P : Ready → Type 0) (lane : List Ready) (one : Ready) → AllByRecursion P lane → P one → AllByRecursion P (lane ++ one ∷ [])
all_more P [] one held new = (new, tt)
all_more P (other ∷ lane) one held new = (held.0, all_more P lane one held.1 new)

all_joined : (P : Ready → Type 0) (one : Ready) (lanes : List (List Ready)) → AllByRecursion (λ lane. AllByRecursion P lane) lanes → P one →
    AllByRecursion (λ lane. AllByRecursion P lane) (change_first (goes_into one) (λ lane. lane ++ one ∷ []) lanes)
all_joined P one [] held new = tt
all_joined P one (lane ∷ lanes) held new = by (goes_into one lane) refl (all_joined P one lanes held.1 new)
  where
    by : (b : Bool) → goes_into one lane ≡ b → AllByRecursion (λ lane. AllByRecursion P lane) (change_first (goes_into one) (λ lane. lane ++ one ∷ []) lanes) →
        AllByRecursion (λ lane. AllByRecursion P lane) (change_first (goes_into one) (λ lane. lane ++ one ∷ []) (lane ∷ lanes))
    by true e rest = rw e (all_more P lane one held.0 new, held.1)
    by false e rest = rw e (held.0, rest)

all_begun : (P : Ready → Type 0) (one : Ready) (lanes : List (List Ready)) → AllByRecursion (λ lane. AllByRecursion P lane) lanes → P one → AllByRecursion (λ lane. AllByRecursion P lane) (lanes ++ (one ∷ []) ∷ [])
all_begun P one [] held new = ((new, tt), tt)
all_begun P one (lane ∷ lanes) held new = (held.0, all_begun P one lanes held.1 new)

pub all_with_callback : (P : Ready → Type 0) (one : Ready) (lanes : List (List Ready)) → AllByRecursion (λ lane. AllByRecursion P lane) lanes → P one → AllByRecursion (λ lane. AllByRecursion P lane) (with_callback lanes one)
all_with_callback P one lanes held new = by (list_any (goes_into one) lanes) refl
  where
    by : (b : Bool) → list_any (goes_into one) lanes ≡ b → AllByRecursion (λ lane. AllByRecursion P lane) (with_callback lanes one)
    by true e = rw e (all_joined P one lanes held new)
    by false e = rw e (all_begun P one lanes held new)
