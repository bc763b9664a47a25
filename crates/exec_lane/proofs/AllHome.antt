-- All lanes of a ready list come home as its callbacks do that run one after another.
use Rattle.std.proofs.Common.{◌≡◌, Bool, true, false, if◌then◌else◌, List, [], ◌∷◌, ◌++◌, length, map, Option, refl, sym, ap, subst, ◌∙◌, arith}
use Rattle.std.specs.Prelude.{IsPermutation}
use Rattle.std.specs.List.{AllByRecursion, IsDistinct, flat_map, fold}
use Rattle.std.specs.Option.{option_map}
use Rattle.std.proofs.lemmas.List.{append-nil, append_assoc, take_all}
use Rattle.std.proofs.lemmas.List.Sorted.{IsPermutation-append_left, IsPermutation-refl, IsPermutation-trans}
use Rattle.exec_msg.specs.Numbers.{EntityNo}
use Rattle.exec_lane.proofs.ComingHome.{AreApart, ComesBehind, NonePolls, all_with_callback, apart_with_callback, comes_behind, did_with, home_after, home_of, homes_of, lanes_past, put_beside, ran_of, ran_with, same_for}
use Rattle.exec_lane.proofs.Putting.{left_by_home, left_by_put, out_is, polled_home, task_put, work_twice}
use Rattle.exec_lane.specs.Gather.{Ran, all_ran, ran_each, ran_in}
use Rattle.exec_lane.specs.Lane.{AreFinished, IsFinished, Lane, LaneCallback, LaneState, entry_in, lane_at, lane_home, lanes_home, lanes_of, opened, opened_lanes, run_entry, task_home, tasks_home, tasks_out, variables_for_lane, variables_home, with_callback, without_task}
use Rattle.exec_script.specs.declared.effects.Effect.{Effect}
use Rattle.exec_rules.specs.Callback.{AfterCallback}
use Rattle.exec_rules.specs.Calls.{AreHome, HaveVariables, IsHomeFor, polls_same, away}
use Rattle.exec_rules.specs.Run.{all_apart, all_home, apart, apart_with, brought_home, effects_of, variables_for, with_polled, with_variables_for, work_after, work_for}
use Rattle.exec_script.specs.Script.{Variables}
use Rattle.exec_rules.specs.World.{GoalWork, WorldState, with_variables, with_work}
use Rattle.exec_rules.specs.declared.ready.Cause.{Cause}
use Rattle.exec_rules.specs.declared.ready.Cause.TheVariants as cause
use Rattle.exec_rules.specs.declared.ready.Ready.{Ready}

-- ---- one callback

-- a task that was at home is there where the work is the same
pub home_there : (server : EntityNo) (of : Cause) (first world : WorldState) → work_for server of world ≡ work_for server of first → IsHomeFor server of first → IsHomeFor server of world
home_there server cause.Due first world same home = tt
home_there server (cause.Took item) first world same home = tt
home_there server (cause.Woke id value canceling) first world same home = (home.0, same ∙ home.1, home.2)

pub work_beside : (server : EntityNo) (of : Cause) (one : Ready) (variables : Variables) (world : WorldState) → work_for server of (with_variables_for one variables world) ≡ work_for server of world
work_beside server of one variables world = by of one.exclusive
  where
    by : (why : Cause) (b : Bool) → work_for server why (if b then with_variables one.group variables world else world) ≡ work_for server why world
    by cause.Due b = refl
    by (cause.Took item) b = refl
    by (cause.Woke id value canceling) true = refl
    by (cause.Woke id value canceling) false = refl

-- what comes home of a callback whose task was out, comes home as if the task had been there
pub brought : (one : Ready) (work : Option GoalWork) (outcome : AfterCallback (List Effect)) (world : WorldState) → work_for one.entity one.cause world ≡ work → IsHomeFor one.entity one.cause world →
    task_home one.entity one.cause (option_map (work_after outcome.task) work) (with_variables_for one outcome.variables (task_put one.entity one.cause away world)) ≡ brought_home one outcome world
brought one work outcome world is home = by one.cause refl is home
  where
    after : WorldState
    after = with_variables_for one outcome.variables world

    by : (why : Cause) → one.cause ≡ why → work_for one.entity why world ≡ work → IsHomeFor one.entity why world →
        task_home one.entity why (option_map (work_after outcome.task) work) (with_variables_for one outcome.variables (task_put one.entity why away world)) ≡ with_polled one.entity why outcome.task after
    by cause.Due e is home = refl
    by (cause.Took item) e is home = refl
    by (cause.Woke id value canceling) e is home =
        ap (λ (some : Option GoalWork). task_home one.entity (cause.Woke id value canceling) (option_map (work_after outcome.task) some) (with_variables_for one outcome.variables (with_work one.entity id away world))) (sym is ∙ home.1)
        ∙ ap (with_work one.entity id (work_after outcome.task home.0))
        (ap (λ (of : Cause). with_variables_for one outcome.variables (task_put one.entity of away world)) (sym e) ∙ put_beside one away one outcome.variables world ∙ ap (λ (of : Cause). task_put one.entity of away after) e)
        ∙ work_twice one.entity id away (work_after outcome.task home.0) after
        ∙ polled_home one.entity id home.0 outcome.task value canceling after (work_beside one.entity (cause.Woke id value canceling) one outcome.variables world ∙ home.1)

pub variables_out : (server : EntityNo) (of : Cause) (world : WorldState) → (task_put server of away world).variables ≡ world.variables
variables_out server cause.Due world = refl
variables_out server (cause.Took item) world = refl
variables_out server (cause.Woke id value canceling) world = refl

-- ---- all callbacks

-- the callbacks that are left may go into lanes: the works of their goals are as they were at first, no two of them poll one
-- goal, nor does one in a lane, and their groups are the world's
record MayGo (first : WorldState) (rest : List Ready) (lanes : List (List Ready)) (world : WorldState) : Type 0 where
  works : AllByRecursion (λ one. work_for one.entity one.cause (homes_of first lanes world) ≡ work_for one.entity one.cause first) rest
  home : AllByRecursion (λ one. IsHomeFor one.entity one.cause first) rest
  distinct : IsDistinct polls_same rest
  polls : AllByRecursion (λ lane. AllByRecursion (λ other. AllByRecursion (λ one. polls_same other one ≡ false) rest) lane) lanes
  lanes_apart : AreApart lanes
  same : world.variables ≡ first.variables
  within : HaveVariables rest first

heads : (one : Ready) (rest lane : List Ready) → AllByRecursion (λ other. AllByRecursion (λ one. polls_same other one ≡ false) (one ∷ rest)) lane → NonePolls one lane
heads one rest [] apart = tt
heads one rest (other ∷ lane) apart = (apart.0.0, heads one rest lane apart.1)

all_heads : (one : Ready) (rest : List Ready) (lanes : List (List Ready)) → AllByRecursion (λ lane. AllByRecursion (λ other. AllByRecursion (λ one. polls_same other one ≡ false) (one ∷ rest)) lane) lanes → AllByRecursion (NonePolls one) lanes
all_heads one rest [] apart = tt
all_heads one rest (lane ∷ lanes) apart = (heads one rest lane apart.0, all_heads one rest lanes apart.1)

tails : (one : Ready) (rest lane : List Ready) → AllByRecursion (λ other. AllByRecursion (λ one. polls_same other one ≡ false) (one ∷ rest)) lane → AllByRecursion (λ other. AllByRecursion (λ one. polls_same other one ≡ false) rest) lane
tails one rest [] apart = tt
tails one rest (other ∷ lane) apart = (apart.0.1, tails one rest lane apart.1)

all_tails : (one : Ready) (rest : List Ready) (lanes : List (List Ready)) → AllByRecursion (λ lane. AllByRecursion (λ other. AllByRecursion (λ one. polls_same other one ≡ false) (one ∷ rest)) lane) lanes →
    AllByRecursion (λ lane. AllByRecursion (λ other. AllByRecursion (λ one. polls_same other one ≡ false) rest) lane) lanes
all_tails one rest [] apart = tt
all_tails one rest (lane ∷ lanes) apart = (tails one rest lane apart.0, all_tails one rest lanes apart.1)

-- the works of goals that a callback doesn't poll stay behind it
works_left : (first : WorldState) (one : Ready) (rest : List Ready) (variables : Variables) (world after : WorldState) → after ≡ home_after first one variables (task_put one.entity one.cause away world) → AllByRecursion (λ other. polls_same one other ≡ false) rest →
    AllByRecursion (λ other. work_for other.entity other.cause world ≡ work_for other.entity other.cause first) rest → AllByRecursion (λ other. work_for other.entity other.cause after ≡ work_for other.entity other.cause first) rest
works_left first one [] variables world after is apart works = tt
works_left first one (other ∷ rest) variables world after is apart works =
    let out : WorldState = task_put one.entity one.cause away world in
    let did : AfterCallback (List Effect) = did_with first one variables in (
      ap (work_for other.entity other.cause) is
          ∙ left_by_home one.entity one.cause (option_map (work_after did.task) (work_for one.entity one.cause first)) other (with_variables_for one did.variables out) apart.0
          ∙ work_beside other.entity other.cause one did.variables out
          ∙ left_by_put one.entity one.cause away other world apart.0
          ∙ works.0,
      works_left first one rest variables world after is apart.1 works.1,
    )

-- all of them came home, and did what they do one after another
record Came (first : WorldState) (rest : List Ready) (lanes : List (List Ready)) (world : WorldState) : Type 0 where
  home : homes_of first (fold with_callback lanes rest) (tasks_out rest world) ≡ all_home rest (homes_of first lanes world)
  ran : IsPermutation (flat_map (ran_of first) (fold with_callback lanes rest)) (flat_map (ran_of first) lanes ++ all_ran rest (all_apart rest (homes_of first lanes world)))

came : (first : WorldState) (rest : List Ready) (lanes : List (List Ready)) (world : WorldState) → MayGo first rest lanes world → Came first rest lanes world
unfolding IsDistinct
came first [] lanes world may =
    record { home = refl; ran = subst (λ (all : List Ran). IsPermutation (flat_map (ran_of first) lanes) all) (sym (append-nil (flat_map (ran_of first) lanes))) (IsPermutation-refl _) }
came first (one ∷ rest) lanes world may =
    let out : WorldState = without_task one.entity one.cause world in
    let here : WorldState = homes_of first lanes world in
    let polls : AllByRecursion (NonePolls one) lanes = all_heads one rest lanes may.polls in
    let taken : homes_of first lanes out ≡ task_put one.entity one.cause away here = ap (homes_of first lanes) (out_is one.entity one.cause world) ∙ lanes_past first lanes one away world polls in
    let same : out.variables ≡ first.variables = ap (λ (some : WorldState). some.variables) (out_is one.entity one.cause world) ∙ variables_out one.entity one.cause world ∙ may.same in
    let behind : ComesBehind first one lanes (with_callback lanes one) out = comes_behind first one lanes out may.lanes_apart polls same may.within.0 in
    let found : variables_for one (homes_of first lanes out) ≡ variables_for one here = ap (variables_for one) taken ∙ same_for one here (task_put one.entity one.cause away here) (variables_out one.entity one.cause here) in
    let did : did_with first one (variables_for one here) ≡ apart one here = ap (λ (work : Option GoalWork). apart_with one work (variables_for one here)) (sym may.works.0) in
    let after : homes_of first (with_callback lanes one) out ≡ home_after first one (variables_for one here) (task_put one.entity one.cause away here) =
    behind.home ∙ (λ i. home_after first one (found i) (taken i)) in
    let next : homes_of first (with_callback lanes one) out ≡ brought_home one (apart one here) here =
    after
    ∙ brought one (work_for one.entity one.cause first) (did_with first one (variables_for one here)) here may.works.0 (home_there one.entity one.cause first here may.works.0 may.home.0)
    ∙ ap (λ (outcome : AfterCallback (List Effect)). brought_home one outcome here) did in
    let rest_came : Came first rest (with_callback lanes one) out =
    came first rest (with_callback lanes one) out
    (record {
      works = works_left first one rest (variables_for one here) here (homes_of first (with_callback lanes one) out) after may.distinct.0 may.works.1;
      home = may.home.1;
      distinct = may.distinct.1;
      polls = all_with_callback (λ other. AllByRecursion (λ one. polls_same other one ≡ false) rest) one lanes (all_tails one rest lanes may.polls) may.distinct.0;
      lanes_apart = apart_with_callback one lanes may.lanes_apart;
      same = same;
      within = may.within.1;
    }) in
    let ran : ran_with first one (variables_for one (homes_of first lanes out)) ≡ record { ready = one; effects = effects_of (apart one here) } =
    ap (λ (outcome : AfterCallback (List Effect)). record { ready = one; effects = effects_of outcome }) (ap (did_with first one) found ∙ did) in
    let more : List Ran = all_ran rest (all_apart rest (homes_of first (with_callback lanes one) out)) in
    record {
      home = rest_came.home ∙ ap (all_home rest) next;
      ran = subst (λ (all : List Ran). IsPermutation (flat_map (ran_of first) (fold with_callback (with_callback lanes one) rest)) all)
          (append_assoc (flat_map (ran_of first) lanes) (ran_with first one (variables_for one (homes_of first lanes out)) ∷ []) more
          ∙ (λ i. flat_map (ran_of first) lanes ++ ran i ∷ all_ran rest (all_apart rest (next i))))
          (IsPermutation-trans _ _ _ rest_came.ran (IsPermutation-append_left more (flat_map (ran_of first) (with_callback lanes one)) (flat_map (ran_of first) lanes ++ ran_with first one (variables_for one (homes_of first lanes out)) ∷ []) behind.ran));
    }

-- ---- lanes as they were opened and ran

-- a lane all of whose callbacks ran
finished_lane : (first world : WorldState) (opening : List Ready) (lane : Lane) → IsFinished (opened first opening) lane → lane_home world lane ≡ home_of first world opening
finished_lane first world opening lane finished =
    let entries : List LaneCallback = map (entry_in first) opening in
    (λ i. tasks_home (finished.entries i) (lane_at (finished.variables i) (finished.entries i) (finished.done i)).left (variables_home (finished.entries i) (lane_at (finished.variables i) (finished.entries i) (finished.done i)).variables world))
    ∙ ap (λ (all : List LaneCallback). let state : LaneState = fold run_entry (record { variables = variables_for_lane first opening; left = [] }) all in tasks_home entries state.left (variables_home entries state.variables world)) (take_all (length entries) entries (omega arith))

finished_ran : (first : WorldState) (opening : List Ready) (lane : Lane) → IsFinished (opened first opening) lane → ran_in lane ≡ ran_of first opening
finished_ran first opening lane finished =
    let entries : List LaneCallback = map (entry_in first) opening in
    (λ i. ran_each (finished.entries i) (lane_at (finished.variables i) (finished.entries i) (finished.done i)).left)
    ∙ ap (λ (all : List LaneCallback). ran_each entries (fold run_entry (record { variables = variables_for_lane first opening; left = [] }) all).left) (take_all (length entries) entries (omega arith))

finished_lanes : (first world : WorldState) (openings : List (List Ready)) (lanes : List Lane) → AreFinished (map (opened first) openings) lanes → lanes_home lanes world ≡ homes_of first openings world
finished_lanes first world [] [] finished = refl
finished_lanes first world [] (lane ∷ lanes) finished = absurd finished
finished_lanes first world (opening ∷ openings) [] finished = absurd finished
finished_lanes first world (opening ∷ openings) (lane ∷ lanes) finished =
    ap (lanes_home lanes) (finished_lane first world opening lane finished.0) ∙ finished_lanes first (home_of first world opening) openings lanes finished.1

finished_all_ran : (first : WorldState) (openings : List (List Ready)) (lanes : List Lane) → AreFinished (map (opened first) openings) lanes → flat_map ran_in lanes ≡ flat_map (ran_of first) openings
finished_all_ran first [] [] finished = refl
finished_all_ran first [] (lane ∷ lanes) finished = absurd finished
finished_all_ran first (opening ∷ openings) [] finished = absurd finished
finished_all_ran first (opening ∷ openings) (lane ∷ lanes) finished = (λ i. finished_ran first opening lane finished.0 i ++ finished_all_ran first openings lanes finished.1 i)

-- ---- the laws

all_same : (first : WorldState) (list : List Ready) → AllByRecursion (λ one. work_for one.entity one.cause first ≡ work_for one.entity one.cause first) list
all_same first [] = tt
all_same first (one ∷ list) = (refl, all_same first list)

whole : (list : List Ready) (world : WorldState) → AreHome list world → HaveVariables list world → Came world list [] world
whole list world home within =
    came world list [] world (record { works = all_same world list; home = home.home; distinct = home.apart; polls = tt; lanes_apart = tt; same = refl; within = within })

-- the world in which finished lanes are home is the one that their callbacks leave one after another
pub come_home : (list : List Ready) (world : WorldState) (lanes : List Lane) → AreHome list world → HaveVariables list world → AreFinished (opened_lanes list world) lanes →
    lanes_home lanes (tasks_out list world) ≡ all_home list world
come_home list world lanes home within finished = finished_lanes world (tasks_out list world) (lanes_of list) lanes finished ∙ (whole list world home within).home

-- and what they did is what these do
pub ran_all : (list : List Ready) (world : WorldState) (lanes : List Lane) → AreHome list world → HaveVariables list world → AreFinished (opened_lanes list world) lanes →
    IsPermutation (flat_map ran_in lanes) (all_ran list (all_apart list world))
ran_all list world lanes home within finished = subst (λ (all : List Ran). IsPermutation all (all_ran list (all_apart list world))) (sym (finished_all_ran world (lanes_of list) lanes finished)) (whole list world home within).ran
