-- Callbacks that ran apart from the world may all be committed behind the last of them.
use Rattle.std.proofs.Common.{◌≡◌, Bool, true, false, if◌then◌else◌, List, [], ◌∷◌, Option, None, Some, refl, sym, ap, ◌∙◌}
use Rattle.std.specs.List.{AllByRecursion}
use Rattle.exec_msg.specs.Numbers.{EntityNo, GoalId}
use Rattle.exec_script.specs.declared.effects.Effect.{Effect}
use Rattle.exec_script.specs.declared.effects.Effects.{Effects}
use Rattle.exec_task.specs.Task.{TaskState}
use Rattle.exec_rules.proofs.Apart.{runs_apart, variables_apart}
use Rattle.exec_rules.proofs.Aside.{anywhere_kept, commit_apart, held_aside, held_kept, held_work, variables_left, work_held, work_left}
use Rattle.exec_rules.specs.Calls.{IsHeldFor}
use Rattle.exec_rules.specs.Callback.{AfterCallback}
use Rattle.exec_rules.specs.Run.{all_apart, all_home, apart, apart_with, brought_home, commit, commit_all, effects_of, variables_for, with_polled, with_variables_for, work_for}
use Rattle.exec_rules.specs.Transcript.{run_all}
use Rattle.exec_script.specs.Script.{Variables}
use Rattle.exec_rules.specs.World.{GoalWork, WorldState, standing, with_task, with_variables}
use Rattle.exec_rules.specs.declared.ready.Cause.{Cause}
use Rattle.exec_rules.specs.declared.ready.Cause.TheVariants as cause
use Rattle.exec_rules.specs.declared.ready.Ready.{Ready}

-- ---- what comes home

module _ (one : Ready) (effects : Effects) where
  held_left : (server : EntityNo) (why : Cause) (world : WorldState) → IsHeldFor server why world → IsHeldFor server why (commit one effects world)
  held_left server cause.Due world held = tt
  held_left server (cause.Took taken) world held = tt
  held_left server (cause.Woke id value canceling) world held = (held.0, work_left server id held.0 one effects world held.1)

  work_same : (server : EntityNo) (why : Cause) (world : WorldState) → IsHeldFor server why world → work_for server why (commit one effects world) ≡ work_for server why world
  work_same server cause.Due world held = refl
  work_same server (cause.Took taken) world held = refl
  work_same server (cause.Woke id value canceling) world held = work_left server id held.0 one effects world held.1 ∙ sym held.1

  -- a callback that runs apart does the same before what is committed and behind it
  apart_same : (other : Ready) (world : WorldState) → IsHeldFor other.entity other.cause world → apart other (commit one effects world) ≡ apart other world
  apart_same other world held =
      ap (λ (work : Option GoalWork). apart_with other work (variables_for other (commit one effects world))) (work_same other.entity other.cause world held)
      ∙ ap (λ (variables : List Variables). apart_with other (work_for other.entity other.cause world) (variables_for other (record world { variables = variables }))) (variables_left one effects world)

  polled_in_turn : (server : EntityNo) (why : Cause) (task : Option TaskState) (world : WorldState) → IsHeldFor server why world → with_polled server why task (commit one effects world) ≡ commit one effects (with_polled server why task world)
  polled_in_turn server cause.Due task world held = refl
  polled_in_turn server (cause.Took taken) task world held = refl
  polled_in_turn server (cause.Woke id value canceling) None world held = refl
  polled_in_turn server (cause.Woke id value canceling) (Some task) world held =
      commit_apart (held_aside server id (standing task) (λ held. refl) (λ goal held. refl) (λ held. refl) (λ number held. refl)) one effects world (work_held server id held.0 world held.1)

  variables_in_turn : (other : Ready) (variables : Variables) (world : WorldState) → with_variables_for other variables (commit one effects world) ≡ commit one effects (with_variables_for other variables world)
  variables_in_turn other variables world = by other.exclusive
    where
      by : (b : Bool) → (if b then with_variables other.group variables (commit one effects world) else commit one effects world) ≡ commit one effects (if b then with_variables other.group variables world else world)
      by true = commit_apart (record { aside = variables_apart other.group variables; basic = anywhere_kept; accepts = λ server moment how request world room p. p; acceptance_apart = λ server moment how request world p. refl }) one effects world tt
      by false = refl

  held_with_variables : (other : Ready) (variables : Variables) (world : WorldState) → IsHeldFor other.entity other.cause world → IsHeldFor other.entity other.cause (with_variables_for other variables world)
  held_with_variables other variables world held = by other.exclusive
    where
      by : (b : Bool) → IsHeldFor other.entity other.cause (if b then with_variables other.group variables world else world)
      by true = by_cause other.cause held
        where
          by_cause : (why : Cause) → IsHeldFor other.entity why world → IsHeldFor other.entity why (with_variables other.group variables world)
          by_cause cause.Due held = tt
          by_cause (cause.Took taken) held = tt
          by_cause (cause.Woke id value canceling) held = held
      by false = held

  -- what it brings home may come home before or behind
  home_in_turn : (other : Ready) (outcome : AfterCallback (List Effect)) (world : WorldState) → IsHeldFor other.entity other.cause world → brought_home other outcome (commit one effects world) ≡ commit one effects (brought_home other outcome world)
  home_in_turn other outcome world held =
      ap (λ (state : WorldState). with_polled other.entity other.cause outcome.task state) (variables_in_turn other outcome.variables world)
      ∙ polled_in_turn other.entity other.cause outcome.task (with_variables_for other outcome.variables world) (held_with_variables other outcome.variables world held)

-- ---- tasks that come home leave goals held

held_with_task : (server other : EntityNo) (goal : GoalId) (why : Cause) (task : TaskState) (world : WorldState) → IsHeldFor server why world → IsHeldFor server why (with_task other goal task world)
held_with_task server other goal cause.Due task world held = tt
held_with_task server other goal (cause.Took taken) task world held = tt
held_with_task server other goal (cause.Woke id value canceling) task world held =
    held_work server id (with_task other goal task world) ((held_kept server id).tasks_kept other goal task world (work_held server id held.0 world held.1))

held_with_polled : (server other : EntityNo) (why polls : Cause) (task : Option TaskState) (world : WorldState) → IsHeldFor server why world → IsHeldFor server why (with_polled other polls task world)
held_with_polled server other why cause.Due task world held = held
held_with_polled server other why (cause.Took taken) task world held = held
held_with_polled server other why (cause.Woke id value canceling) None world held = held
held_with_polled server other why (cause.Woke id value canceling) (Some task) world held = held_with_task server other id why task world held

held_with_group : (server : EntityNo) (why : Cause) (other : Ready) (variables : Variables) (world : WorldState) → IsHeldFor server why world → IsHeldFor server why (with_variables_for other variables world)
held_with_group server cause.Due other variables world held = tt
held_with_group server (cause.Took taken) other variables world held = tt
held_with_group server (cause.Woke id value canceling) other variables world held = by other.exclusive
  where
    by : (b : Bool) → IsHeldFor server (cause.Woke id value canceling) (if b then with_variables other.group variables world else world)
    by true = held
    by false = held

abbrev AllHeld : List Ready → WorldState → Type 0
AllHeld list world = AllByRecursion (λ one. IsHeldFor one.entity one.cause world) list

all_held_stay : (other : Ready) (outcome : AfterCallback (List Effect)) (world : WorldState) (list : List Ready) → AllHeld list world → AllHeld list (brought_home other outcome world)
all_held_stay other outcome world [] held = tt
all_held_stay other outcome world (one ∷ list) held =
    (held_with_polled one.entity other.entity one.cause other.cause outcome.task _ (held_with_group one.entity one.cause other outcome.variables world held.0), all_held_stay other outcome world list held.1)

all_held_left : (one : Ready) (effects : Effects) (world : WorldState) (list : List Ready) → AllHeld list world → AllHeld list (commit one effects world)
all_held_left one effects world [] held = tt
all_held_left one effects world (other ∷ list) held = (held_left one effects other.entity other.cause world held.0, all_held_left one effects world list held.1)

-- ---- lists of callbacks

-- what is committed before callbacks run apart may be committed behind them
module _ (first : Ready) (effects : Effects) where
  dones_same : (list : List Ready) (world : WorldState) → AllHeld list world → all_apart list (commit first effects world) ≡ all_apart list world
  dones_same [] world held = refl
  dones_same (one ∷ list) world held =
      let after : WorldState = brought_home one (apart one world) world in
      ap (λ (outcome : AfterCallback (List Effect)). effects_of outcome ∷ all_apart list (brought_home one outcome (commit first effects world))) (apart_same first effects one world held.0)
      ∙ ap (λ (state : WorldState). effects_of (apart one world) ∷ all_apart list state) (home_in_turn first effects one (apart one world) world held.0)
      ∙ ap (λ (done : List Effects). effects_of (apart one world) ∷ done) (dones_same list after (all_held_stay one (apart one world) world list held.1))

  homes_in_turn : (list : List Ready) (world : WorldState) → AllHeld list world → all_home list (commit first effects world) ≡ commit first effects (all_home list world)
  homes_in_turn [] world held = refl
  homes_in_turn (one ∷ list) world held =
      ap (λ (outcome : AfterCallback (List Effect)). all_home list (brought_home one outcome (commit first effects world))) (apart_same first effects one world held.0)
      ∙ ap (λ (state : WorldState). all_home list state) (home_in_turn first effects one (apart one world) world held.0)
      ∙ homes_in_turn list (brought_home one (apart one world) world) (all_held_stay one (apart one world) world list held.1)

-- callbacks may run apart, one after another, and all be committed then
pub all_commit : (list : List Ready) (world : WorldState) → AllByRecursion (λ one. IsHeldFor one.entity one.cause world) list → run_all list world ≡ commit_all list (all_apart list world) (all_home list world)
all_commit [] world held = refl
all_commit (one ∷ list) world held =
    let did : Effects = effects_of (apart one world) in
    let after : WorldState = brought_home one (apart one world) world in
    let behind : AllHeld list after = all_held_stay one (apart one world) world list held.1 in
    ap (λ (state : WorldState). run_all list state) (runs_apart one world)
    ∙ all_commit list (commit one did after) (all_held_left one did after list behind)
    ∙ ap (λ (done : List Effects). commit_all list done (all_home list (commit one did after))) (dones_same one did list after behind)
    ∙ ap (λ (state : WorldState). commit_all list (all_apart list after) state) (homes_in_turn one did list after behind)
