-- Callbacks are cut into lanes while the tasks of their goals leave the world.
use Rattle.std.proofs.Common.{◌≡◌, ℕ, ◌+◌, ◌<◌, drop, length, ◌&&◌, ◌||◌, ◌==◌, Bool, true, false, if◌then◌else◌, List, [], ◌∷◌, ◌++◌, map, slice_index_or, reverse, refl, sym, ap, subst, ◌∙◌, true≢false}
use Rattle.std.specs.List.{AllByRecursion, IsDistinct, fold, list_any}
use Rattle.std.proofs.lemmas.List.{drop_more, reverse-append, reverse-reverse}
use Rattle.exec_msg.specs.Numbers.{EntityNo, GoalId}
use Rattle.exec_lane.proofs.Putting.{apart_work, left_by_put, out_is}
use Rattle.exec_lane.specs.Lane.{Lane, LaneCallback, entry_in, goes_into, lanes_of, opened, opened_lanes, tasks_out, variables_for_lane, with_callback, without_task}
use Rattle.exec_lane.specs.inner.Buffered.{callback_at, no_callback}
use Rattle.exec_lane.specs.inner.Cuts.{callbacks_of, cut_from, lane_with, opened_entries, takes, with_entry}
use Rattle.exec_msg.specs.Lists.{change_first}
use Rattle.exec_script.specs.Zeros.{zeros}
use Rattle.exec_rules.specs.Calls.{WorldData, AreHome, IsHomeFor, polls_same, polls_same_of, wakes, away}
use Rattle.exec_rules.specs.Run.{work_for}
use Rattle.exec_script.specs.Script.{Variables}
use Rattle.exec_rules.specs.World.{WorldState, with_work}
use Rattle.exec_rules.specs.declared.ready.Cause.{Cause}
use Rattle.exec_rules.specs.declared.ready.Cause.TheVariants as cause
use Rattle.exec_rules.specs.declared.ready.Ready.{Ready}

-- ---- a task that leaves the world leaves the others there

work_stays : (server : EntityNo) (of : Cause) (other : Ready) (world : WorldState) → polls_same_of server of other ≡ false →
    work_for other.entity other.cause (without_task server of world) ≡ work_for other.entity other.cause world
work_stays server of other world apart = ap (work_for other.entity other.cause) (out_is server of world) ∙ left_by_put server of away other world apart

entries_stay : (one : Ready) (list : List Ready) (world : WorldState) → AllByRecursion (λ other. polls_same one other ≡ false) list →
    map (entry_in (without_task one.entity one.cause world)) list ≡ map (entry_in world) list
entries_stay one [] world apart = refl
entries_stay one (other ∷ list) world apart =
    (λ i. record { ready = other; work = work_stays one.entity one.cause other world apart.0 i } ∷ entries_stay one list world apart.1 i)

-- lanes that are cut while tasks leave hold the tasks as the world had them
cut_whole : (lanes : List (List LaneCallback)) (list : List Ready) (world : WorldState) → IsDistinct polls_same list → cut_from lanes list world ≡ fold with_entry lanes (map (entry_in world) list)
unfolding IsDistinct
cut_whole lanes [] world apart = refl
cut_whole lanes (one ∷ list) world apart =
    cut_whole (with_entry lanes (entry_in world one)) list (without_task one.entity one.cause world) apart.1
    ∙ ap (fold with_entry (with_entry lanes (entry_in world one))) (entries_stay one list world apart.0)

-- ---- the lanes of entries are those of the list

callbacks_back : (world : WorldState) (lane : List Ready) → callbacks_of (map (entry_in world) lane) ≡ lane
callbacks_back world [] = refl
callbacks_back world (one ∷ lane) = ap (λ others. one ∷ others) (callbacks_back world lane)

lane_takes : (world : WorldState) (one : Ready) (lane : List Ready) → takes (entry_in world one) (map (entry_in world) lane) ≡ goes_into one lane
lane_takes world one lane = ap (goes_into one) (callbacks_back world lane)

abbrev entries_of_all : WorldState → List (List Ready) → List (List LaneCallback)
entries_of_all world lanes = map (λ lane. map (entry_in world) lane) lanes

any_takes : (world : WorldState) (one : Ready) (lanes : List (List Ready)) → list_any (takes (entry_in world one)) (entries_of_all world lanes) ≡ list_any (goes_into one) lanes
any_takes world one [] = refl
any_takes world one (lane ∷ lanes) = (λ i. lane_takes world one lane i || any_takes world one lanes i)

joined_entries : (world : WorldState) (one : Ready) (lane : List Ready) → lane_with (entry_in world one) (map (entry_in world) lane) ≡ map (entry_in world) (lane ++ one ∷ [])
joined_entries world one [] = refl
joined_entries world one (first ∷ lane) = ap (λ entries. entry_in world first ∷ entries) (joined_entries world one lane)

change_entries : (world : WorldState) (one : Ready) (lanes : List (List Ready)) →
    change_first (takes (entry_in world one)) (lane_with (entry_in world one)) (entries_of_all world lanes) ≡ entries_of_all world (change_first (goes_into one) (λ lane. lane ++ one ∷ []) lanes)
change_entries world one [] = refl
change_entries world one (lane ∷ lanes) = by (takes (entry_in world one) (map (entry_in world) lane)) (goes_into one lane) refl refl (change_entries world one lanes)
  where
    by : (b d : Bool) → takes (entry_in world one) (map (entry_in world) lane) ≡ b → goes_into one lane ≡ d →
        change_first (takes (entry_in world one)) (lane_with (entry_in world one)) (entries_of_all world lanes) ≡ entries_of_all world (change_first (goes_into one) (λ lane. lane ++ one ∷ []) lanes) →
        change_first (takes (entry_in world one)) (lane_with (entry_in world one)) (entries_of_all world (lane ∷ lanes)) ≡ entries_of_all world (change_first (goes_into one) (λ lane. lane ++ one ∷ []) (lane ∷ lanes))
    by true true e f rest = rw (e, f) (ap (λ entries. entries ∷ entries_of_all world lanes) (joined_entries world one lane))
    by false false e f rest = rw (e, f) (ap (λ others. map (entry_in world) lane ∷ others) rest)
    by true false e f rest = absurd (true≢false (sym e ∙ lane_takes world one lane ∙ f))
    by false true e f rest = absurd (true≢false (sym (sym e ∙ lane_takes world one lane ∙ f)))

begun_entries : (world : WorldState) (one : Ready) (lanes : List (List Ready)) → entries_of_all world lanes ++ (entry_in world one ∷ []) ∷ [] ≡ entries_of_all world (lanes ++ (one ∷ []) ∷ [])
begun_entries world one [] = refl
begun_entries world one (lane ∷ lanes) = ap (λ others. map (entry_in world) lane ∷ others) (begun_entries world one lanes)

with_entries : (world : WorldState) (one : Ready) (lanes : List (List Ready)) → with_entry (entries_of_all world lanes) (entry_in world one) ≡ entries_of_all world (with_callback lanes one)
with_entries world one lanes =
    (λ i. if any_takes world one lanes i then change_entries world one lanes i else begun_entries world one lanes i)
    ∙ by (list_any (goes_into one) lanes)
  where
    by : (b : Bool) → (if b then entries_of_all world (change_first (goes_into one) (λ lane. lane ++ one ∷ []) lanes) else entries_of_all world (lanes ++ (one ∷ []) ∷ []))
        ≡ entries_of_all world (if b then change_first (goes_into one) (λ lane. lane ++ one ∷ []) lanes else lanes ++ (one ∷ []) ∷ [])
    by true = refl
    by false = refl

fold_entries : (world : WorldState) (list : List Ready) (lanes : List (List Ready)) → fold with_entry (entries_of_all world lanes) (map (entry_in world) list) ≡ entries_of_all world (fold with_callback lanes list)
fold_entries world [] lanes = refl
fold_entries world (one ∷ list) lanes =
    ap (λ (held : List (List LaneCallback)). fold with_entry held (map (entry_in world) list)) (with_entries world one lanes)
    ∙ fold_entries world list (with_callback lanes one)

-- ---- each lane is opened as the world was

-- a task that leaves changes no variables
variables_stay : (server : EntityNo) (of : Cause) (world : WorldState) → (without_task server of world).variables ≡ world.variables
variables_stay server cause.Due world = refl
variables_stay server (cause.Took item) world = refl
variables_stay server (cause.Woke id value canceling) world = refl

all_variables_stay : (list : List Ready) (world : WorldState) → (tasks_out list world).variables ≡ world.variables
all_variables_stay [] world = refl
all_variables_stay (one ∷ list) world = all_variables_stay list (without_task one.entity one.cause world) ∙ variables_stay one.entity one.cause world

variables_same : (after world : WorldState) (lane : List Ready) → after.variables ≡ world.variables → variables_for_lane after lane ≡ variables_for_lane world lane
variables_same after world [] same = refl
variables_same after world (first ∷ lane) same = ap (λ (all : List Variables). if first.exclusive then slice_index_or all first.group zeros else zeros) same

opened_so : (after world : WorldState) → after.variables ≡ world.variables → (lanes : List (List Ready)) → map (opened_entries after) (entries_of_all world lanes) ≡ map (opened world) lanes
opened_so after world same [] = refl
opened_so after world same (lane ∷ lanes) =
    (λ i. record { variables = (ap (variables_for_lane after) (callbacks_back world lane) ∙ variables_same after world lane same) i; entries = map (entry_in world) lane; done = 0; failed = false } ∷ opened_so after world same lanes i)

-- what is cut and then opened are the lanes of the list
pub opened_are : (list : List Ready) (world : WorldState) → AreHome list world → map (opened_entries (tasks_out list world)) (cut_from [] list world) ≡ opened_lanes list world
opened_are list world home =
    ap (map (opened_entries (tasks_out list world))) (cut_whole [] list world home.apart ∙ fold_entries world list [])
    ∙ opened_so (tasks_out list world) world (all_variables_stay list world) (lanes_of list)

-- ---- what is left to take stays at home

home_by : (server : EntityNo) (id : GoalId) (entity : EntityNo) (of : Cause) (world : WorldState) → (wakes id of && (server == entity)) ≡ false → IsHomeFor entity of world → IsHomeFor entity of (with_work server id away world)
home_by server id entity cause.Due world apart home = tt
home_by server id entity (cause.Took item) world apart home = tt
home_by server id entity (cause.Woke other value canceling) world apart home = (home.0, apart_work server id away entity other world apart ∙ home.1, home.2)

home_stays : (server : EntityNo) (of : Cause) (other : Ready) (world : WorldState) → polls_same_of server of other ≡ false → IsHomeFor other.entity other.cause world → IsHomeFor other.entity other.cause (without_task server of world)
home_stays server cause.Due other world apart home = home
home_stays server (cause.Took item) other world apart home = home
home_stays server (cause.Woke id value canceling) other world apart home = home_by server id other.entity other.cause world apart home

homes_stay : (one : Ready) (list : List Ready) (world : WorldState) → AllByRecursion (λ other. polls_same one other ≡ false) list → AllByRecursion (λ other. IsHomeFor other.entity other.cause world) list →
    AllByRecursion (λ other. IsHomeFor other.entity other.cause (without_task one.entity one.cause world)) list
homes_stay one [] world apart home = tt
homes_stay one (other ∷ list) world apart home = (home_stays one.entity one.cause other world apart.0 home.0, homes_stay one list world apart.1 home.1)

-- once a callback's task is taken, the others' are at home
pub home_behind : (one : Ready) (list : List Ready) (world : WorldState) → AreHome (one ∷ list) world → AreHome list (without_task one.entity one.cause world)
unfolding IsDistinct
home_behind one list world home = record { home = homes_stay one list world home.apart.0 home.home.1; apart = home.apart.1 }

-- ---- the loops

-- what is cut from the rest is what is cut from the whole
abbrev pub CutsOn : List (List LaneCallback) → List Ready → WorldData → List Ready → WorldData → Type 0
CutsOn lanes rest world list first =
    (cut_from lanes rest world.state ≡ cut_from [] list first.state)
    × (record world { state = tasks_out rest world.state } ≡ record first { state = tasks_out list first.state })
    × AreHome rest world.state

pub cuts_next : (lanes after : List (List LaneCallback)) (place : ℕ) (world next : WorldData) (list : List Ready) (first : WorldData) → place < length list →
    CutsOn lanes (drop place list) world list first → after ≡ with_entry lanes (entry_in world.state (callback_at list place)) →
    next ≡ record world { state = without_task (callback_at list place).entity (callback_at list place).cause world.state } →
    CutsOn after (drop (place + 1) list) next list first
cuts_next lanes after place world next list first within on more out =
    let one = callback_at list place in
    let rest = drop (place + 1) list in
    let here = subst (λ some. CutsOn lanes some world list first) (drop_more list place no_callback within) on in
    subst (λ (last : WorldData). CutsOn after rest last list first) (sym out) (
      ap (λ (some : List (List LaneCallback)). cut_from some rest (without_task one.entity one.cause world.state)) more ∙ here.0,
      here.1,
      home_behind one rest world.state here.2,
    )

-- the next callback's task is at home
pub home_here : (lanes : List (List LaneCallback)) (place : ℕ) (world : WorldData) (list : List Ready) (first : WorldData) → place < length list →
    CutsOn lanes (drop place list) world list first → IsHomeFor (callback_at list place).entity (callback_at list place).cause world.state
home_here lanes place world list first within on =
    let here = subst (λ some. CutsOn lanes some world list first) (drop_more list place no_callback within) on in
    here.2.home.0

-- the last of them is taken
pub last_all : {A : Type 0} (P : A → Type 0) (all front : List A) (one : A) → all ≡ front ++ one ∷ [] → AllByRecursion P (reverse all) → P one × AllByRecursion P (reverse front)
last_all P all front one is each = subst (AllByRecursion P) (ap reverse is ∙ reverse-append front (one ∷ [])) each

pub opens_first : {A B C : Type 0} (h : A → B) (f : B → C) (opened : List C) (lanes reversed : List A) → opened ≡ [] → reversed ≡ reverse lanes → opened ++ map (λ x. f (h x)) (reverse reversed) ≡ map f (map h lanes)
opens_first {A} {B} {C} h f opened lanes reversed none is = ap (λ some. some ++ map (λ x. f (h x)) (reverse reversed)) none ∙ ap (map (λ x. f (h x))) (ap reverse is ∙ reverse-reverse lanes) ∙ twice lanes
  where
    twice : (xs : List A) → map (λ x. f (h x)) xs ≡ map f (map h xs)
    twice [] = refl
    twice (x ∷ xs) = ap (λ ys. f (h x) ∷ ys) (twice xs)

-- lanes that are cut and opened in the world that is left
pub split_so : (list : List Ready) (world after : WorldData) (cut lanes : List (List LaneCallback)) (made : List Lane) → AreHome list world.state → cut ≡ cut_from [] list world.state → after ≡ record world { state = tasks_out list world.state } →
    lanes ≡ cut → made ≡ map (opened_entries after.state) lanes → made ≡ opened_lanes list world.state
split_so list world after cut lanes made home cuts out is opens =
    opens
    ∙ ap (map (opened_entries after.state)) (is ∙ cuts)
    ∙ ap (λ (last : WorldData). map (opened_entries last.state) (cut_from [] list world.state)) out
    ∙ opened_are list world.state home
