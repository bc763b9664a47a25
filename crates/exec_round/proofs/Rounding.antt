-- Lanes that ran, gathered and committed, are a round.
use Rattle.std.proofs.Common.{◌≡◌, ℕ, suc, ◌-◌, ◌<◌, ◌≤◌, ◌==◌, List, [], ◌∷◌, length, map, refl, sym, ap, subst, ◌∙◌, arith, IsPermutation, false, true≢false}
use Rattle.std.specs.List.{AllByRecursion, flat_map}
use Rattle.std.specs.Prelude.{Bool, if◌then◌else◌}
use Rattle.std.proofs.lemmas.Bool.{ne_eqb}
use Rattle.std.proofs.lemmas.List.Sorted.{IsPermutation-sym, IsPermutation-trans}
use Rattle.exec_msg.specs.Numbers.{EntityNo}
use Rattle.exec_lane.specs.Gather.{AreGathered, Ran, all_ran, ran_in}
use Rattle.exec_lane.specs.Lane.{Lane, lanes_home, tasks_out}
use Rattle.exec_round.proofs.InOrder.{sorted_is}
use Rattle.exec_round.specs.inner.Begun.{IsListed}
use Rattle.exec_round.specs.inner.Commits.{RiseFrom, after_commits, committed}
use Rattle.exec_rules.proofs.Pairs.{all_weaker}
use Rattle.exec_rules.specs.Calls.{IsHeldFor, IsHomeFor, WorldData, after_round, after_snapshot, moment_of, ready_in, state_at, with_uncommitted}
use Rattle.exec_rules.specs.Ready.{placed_from, take_inputs}
use Rattle.exec_rules.specs.Run.{all_apart, all_home, apart, brought_home, commit, commit_all, effects_of}
use Rattle.exec_rules.specs.Transcript.{run_all}
use Rattle.exec_rules.specs.World.{WorldState}
use Rattle.exec_rules.specs.declared.ready.Cause.{Cause}
use Rattle.exec_rules.specs.declared.ready.Cause.TheVariants as cause
use Rattle.exec_rules.specs.declared.ready.Ready.{Ready}

-- ---- goals

held : (server : EntityNo) (why : Cause) (world : WorldState) → IsHomeFor server why world → IsHeldFor server why world
held server cause.Due world home = tt
held server (cause.Took taken) world home = tt
held server (cause.Woke id value canceling) world home = (home.0, home.1)

-- goals whose tasks are at home are held
pub all_held : (list : List Ready) (world : WorldState) → AllByRecursion (λ one. IsHomeFor one.entity one.cause world) list → AllByRecursion (λ one. IsHeldFor one.entity one.cause world) list
all_held list world home = all_weaker (λ one. IsHomeFor one.entity one.cause world) (λ one. IsHeldFor one.entity one.cause world) (λ one. held one.entity one.cause world) list home

-- ---- all of a round

-- some callbacks are left
some_left : (count : ℕ) (world : WorldData) → with_uncommitted (suc count) world ≡ record world { uncommitted = suc count }
some_left count world =
    ap (λ (none : Bool). record world { uncommitted = suc count; rounds = if none then suc world.rounds else world.rounds }) (ne_eqb (suc count) 0 (λ e. omega (arith, e)))

-- the last of a round's callbacks ends it
all_committed : (one : Ran) (others : List Ran) (world : WorldData) → world.uncommitted ≡ suc (length others) →
    after_commits (one ∷ others) world ≡ record world { state = committed (one ∷ others) world.state; rounds = suc world.rounds; uncommitted = 0 }
all_committed one [] world left =
    let none : world.uncommitted - 1 ≡ 0 = omega (arith, left) in
    ap (λ count. with_uncommitted count (record world { state = committed (one ∷ []) world.state })) none
all_committed one (next ∷ others) world left =
    let fewer : world.uncommitted - 1 ≡ suc (length others) = omega (arith, left) in
    let given : WorldData = record world { state = committed (one ∷ []) world.state } in
    let after : WorldData = record given { uncommitted = suc (length others) } in
    ap (λ count. after_commits (next ∷ others) (with_uncommitted count given)) fewer
    ∙ ap (after_commits (next ∷ others)) (some_left (length others) given)
    ∙ all_committed next others after refl

-- what ready callbacks did is given to the world
given_all : (list : List Ready) (state after : WorldState) → committed (all_ran list (all_apart list state)) after ≡ commit_all list (all_apart list state) after
given_all [] state after = refl
given_all (one ∷ list) state after = given_all list (brought_home one (apart one state) state) (commit one (effects_of (apart one state)) after)

as_many : (list : List Ready) (state : WorldState) → length (all_ran list (all_apart list state)) ≡ length list
as_many [] state = refl
as_many (one ∷ list) state = ap suc (as_many list (brought_home one (apart one state) state))

-- each of them stands at its place
pub places_kept : (list : List Ready) (state : WorldState) → map (λ one. one.ready.position) (all_ran list (all_apart list state)) ≡ map (λ one. one.position) list
places_kept [] state = refl
places_kept (one ∷ list) state = ap (λ places. one.position ∷ places) (places_kept list (brought_home one (apart one state) state))

places_rise : (first : ℕ) (list : List Ready) → RiseFrom first (map (λ one. one.position) (placed_from first list))
places_rise first [] = tt
places_rise first (one ∷ list) = (refl, places_rise (suc first) list)

pub ready_rise : (number : ℕ) (world : WorldData) → RiseFrom 1 (map (λ one. one.position) (ready_in number world))
ready_rise number world = places_rise 1 _

-- what is gathered of lanes is what the callbacks did
pub gathered_is : (number : ℕ) (world : WorldData) (list : List Ready) (state : WorldState) (ran all : List Ran) → list ≡ ready_in number world → AreGathered ran all →
    IsPermutation ran (all_ran list (all_apart list state)) → all ≡ all_ran list (all_apart list state)
gathered_is number world list state ran all is gathered did =
    sorted_is (λ one. one.ready.position) 1 all (all_ran list (all_apart list state))
    (subst (λ places. RiseFrom 1 places) (sym (places_kept list state ∙ ap (map (λ one. one.position)) is)) (ready_rise number world))
    gathered.ordered
    (IsPermutation-trans all ran (all_ran list (all_apart list state)) (IsPermutation-sym ran all gathered.same) did)

-- the world of a snapshot in which something is ready
snapshot_is : (number : ℕ) (world taken : WorldData) (list : List Ready) → list ≡ ready_in number world → 0 < length list → taken ≡ after_snapshot number world →
    taken ≡ record world { state = take_inputs (moment_of number world.plan) (state_at number world); uncommitted = length list }
snapshot_is number world taken [] is some begun = absurd (omega (arith, some))
snapshot_is number world taken (one ∷ list) is some begun =
    let begun_world : WorldData = record world { state = take_inputs (moment_of number world.plan) (state_at number world) } in
    begun ∙ ap (λ (ready : List Ready). with_uncommitted (length ready) begun_world) (sym is) ∙ some_left (length list) begun_world

-- a round whose callbacks are committed behind the last of them, at home
pub round_ends : (number : ℕ) (world taken home : WorldData) (list : List Ready) → list ≡ ready_in number world → 0 < length list → taken ≡ after_snapshot number world →
    home ≡ record taken { state = all_home list taken.state } →
    run_all list taken.state ≡ commit_all list (all_apart list taken.state) (all_home list taken.state) →
    after_commits (all_ran list (all_apart list taken.state)) home ≡ after_round number world
round_ends number world taken home [] is some begun at_home law = absurd (omega (arith, some))
round_ends number world taken home (one ∷ list) is some begun at_home law =
    let taken_state : WorldState = take_inputs (moment_of number world.plan) (state_at number world) in
    let begun_world : WorldData = record world { state = taken_state } in
    let here : taken ≡ record begun_world { uncommitted = suc (length list) } = snapshot_is number world taken (one ∷ list) is some begun in
    let all : List Ran = all_ran (one ∷ list) (all_apart (one ∷ list) taken.state) in
    let first : Ran = record { ready = one; effects = effects_of (apart one taken.state) } in
    let others : List Ran = all_ran list (all_apart list (brought_home one (apart one taken.state) taken.state)) in
    let left : home.uncommitted ≡ suc (length others) =
    ap (λ (w : WorldData). w.uncommitted) at_home ∙ ap (λ (w : WorldData). w.uncommitted) here ∙ ap suc (sym (as_many list (brought_home one (apart one taken.state) taken.state))) in
    all_committed first others home left
    ∙ ap (λ (w : WorldData). record w { state = committed all w.state; rounds = suc w.rounds; uncommitted = 0 }) at_home
    ∙ ap (λ (s : WorldState). record taken { state = s; rounds = suc taken.rounds; uncommitted = 0 }) (given_all (one ∷ list) taken.state (all_home (one ∷ list) taken.state) ∙ sym law)
    ∙ ap (λ (w : WorldData). record w { state = run_all (one ∷ list) w.state; rounds = suc w.rounds; uncommitted = 0 }) here
    ∙ ap (λ (ready : List Ready). record begun_world { state = run_all ready taken_state; rounds = suc world.rounds; uncommitted = 0 }) is

-- lanes that ran, gathered and committed, are the round
pub round_is : (number : ℕ) (world taken out home after : WorldData) (list : List Ready) (lanes : List Lane) (all : List Ran) → list ≡ ready_in number world → 0 < length list →
    taken ≡ after_snapshot number world → out ≡ record taken { state = tasks_out list taken.state } → home ≡ record out { state = lanes_home lanes out.state } →
    AreGathered (flat_map ran_in lanes) all → after ≡ after_commits all home →
    lanes_home lanes (tasks_out list taken.state) ≡ all_home list taken.state →
    IsPermutation (flat_map ran_in lanes) (all_ran list (all_apart list taken.state)) →
    run_all list taken.state ≡ commit_all list (all_apart list taken.state) (all_home list taken.state) → after ≡ after_round number world
round_is number world taken out home after list lanes all is some begun left came gathered committed_so home_law ran_law law =
    let at_home : home ≡ record taken { state = all_home list taken.state } =
    (came ∙ ap (λ (w : WorldData). record w { state = lanes_home lanes w.state }) left ∙ ap (λ (s : WorldState). record taken { state = s }) home_law) in
    committed_so
    ∙ ap (λ some. after_commits some home) (gathered_is number world list taken.state (flat_map ran_in lanes) all is gathered ran_law)
    ∙ round_ends number world taken home list is some begun at_home law

-- and as many callbacks ran as are to be committed
pub all_left : (number : ℕ) (world taken out home : WorldData) (list : List Ready) (lanes : List Lane) (all : List Ran) (count : ℕ) → list ≡ ready_in number world →
    taken ≡ after_snapshot number world → out ≡ record taken { state = tasks_out list taken.state } → home ≡ record out { state = lanes_home lanes out.state } →
    AreGathered (flat_map ran_in lanes) all → IsPermutation (flat_map ran_in lanes) (all_ran list (all_apart list taken.state)) → count ≡ length all → count ≤ home.uncommitted
all_left number world taken out home list lanes all count is begun left came gathered ran_law many =
    let same : count ≡ length list =
    many ∙ ap length (gathered_is number world list taken.state (flat_map ran_in lanes) all is gathered ran_law) ∙ as_many list taken.state in
    let here : home.uncommitted ≡ length list =
    ap (λ (w : WorldData). w.uncommitted) came ∙ ap (λ (w : WorldData). w.uncommitted) left ∙ ap (λ (w : WorldData). w.uncommitted) begun ∙ ap length (sym is) in
    omega (arith, same, here)

pub some_ready : {A : Type 0} (list : List A) (none : Bool) → none ≡ (length list == 0) → none ≡ false → 0 < length list
some_ready [] none is not = absurd (true≢false (sym is ∙ not))
some_ready (x ∷ list) none is not = omega arith

-- ---- a round that is listed

-- a round of listed callbacks whose lanes ran and came home
pub listed_is : (round : ℕ) (before taken out home after : WorldData) (list : List Ready) (lanes : List Lane) (all : List Ran) → IsListed round list before taken →
    out ≡ record taken { state = tasks_out list taken.state } → home ≡ record out { state = lanes_home lanes out.state } → AreGathered (flat_map ran_in lanes) all → after ≡ after_commits all home →
    lanes_home lanes (tasks_out list taken.state) ≡ all_home list taken.state → IsPermutation (flat_map ran_in lanes) (all_ran list (all_apart list taken.state)) →
    run_all list taken.state ≡ commit_all list (all_apart list taken.state) (all_home list taken.state) → after ≡ after_round round before
listed_is round before taken out home after list lanes all listed = round_is round before taken out home after list lanes all listed.ready listed.some listed.taken
