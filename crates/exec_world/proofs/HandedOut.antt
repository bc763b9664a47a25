-- What holds of a sound world's round whose callbacks were handed out, or that ran whole.
use Rattle.std.proofs.Common.{◌≡◌, ℕ, ◌+◌, List, length, Option, None, Some, ap, sym, subst, ◌∙◌}
use Rattle.std.specs.Option.{option_map_or}
use Rattle.exec_plan.specs.Graph.{GraphData}
use Rattle.exec_plan.specs.Plan.{PlanData}
use Rattle.exec_rules.proofs.Running.{run_all_keeps}
use Rattle.exec_rules.specs.Calls.{AreHome, HaveVariables, WorldData, moment_of, ready_in, state_at}
use Rattle.exec_rules.specs.Ready.{ready_list, take_inputs}
use Rattle.exec_rules.specs.Transcript.{at_snapshot, snapshot_and_run}
use Rattle.exec_rules.specs.World.{WorldState}
use Rattle.exec_rules.specs.declared.ready.Ready.{Ready}
use Rattle.exec_rules.specs.inner.ByKind.{taken_in_parts}
use Rattle.exec_world.proofs.Begun.{round_kept, snapshot_kept}
use Rattle.exec_world.proofs.Grouped.{snapshot_variables}
use Rattle.exec_world.proofs.Sound.{begun_sound, snapshot_home, sound, sound_listed, sound_rounded, sound_taken}
use Rattle.exec_world.proofs.PlanScripts.{scripts_sound}
use Rattle.exec_world.specs.Heavy.{IsBegun}
use Rattle.exec_world.specs.declared.state.round.Round.{Round}
use Rattle.exec_world.specs.declared.weighing.Heavy.{Heavy}
use Rattle.exec_world.specs.inner.Rounds.{rounds_in}
use Rattle.exec_world.specs.inner.Snapshots.{HaveScriptsOf, IsHandedOut, begun_by, listed_in, round_in}
use Rattle.exec_world.specs.inner.Sound.{IsSound}

-- the callbacks, and the world after that
pub record HasHanded (plan : PlanData) (world : WorldData) (number : ℕ) (list : List Ready) (after : WorldState) : Type 0 where
  pub ready : list ≡ ready_in number world
  pub taken : after ≡ take_inputs (moment_of number world.plan) (state_at number world)
  pub home : AreHome list after
  pub variables : HaveVariables list after
  pub sound : IsSound plan after

-- the world after the whole round
pub record HasRun (plan : PlanData) (world : WorldData) (number : ℕ) (after : WorldState) : Type 0 where
  pub ran : after ≡ snapshot_and_run (moment_of number world.plan) (state_at number world)
  pub sound : IsSound plan after

-- a round that begins in a world, as it is kept, by what was read of its plan
module _ (kept world : WorldData) (same : kept ≡ world) (plan : PlanData) (number : ℕ) (round : Round) (read : plan ≡ kept.plan) (at : round.moment ≡ moment_of number plan)
    (opens : begun_by round kept.state ≡ at_snapshot plan number (moment_of number plan) kept.state) (p : IsSound kept.plan kept.state) where
  abbrev before : WorldState
  before = begun_by round kept.state

  before_sound : IsSound kept.plan before
  before_sound = begun_sound kept.plan round kept.state p

  plans : plan ≡ world.plan
  plans = read ∙ ap (λ (one : WorldData). one.plan) same

  moments : round.moment ≡ moment_of number world.plan
  moments = at ∙ ap (moment_of number) plans

  begins : before ≡ state_at number world
  begins = opens ∙ (λ i. at_snapshot (plans i) number (moment_of number (plans i)) (same i).state)

  begun : IsSound kept.plan (take_inputs round.moment before)
  begun = (sound kept.plan).snapshot_kept round.moment before before_sound

  -- the scripts of its callbacks
  pub has_scripts : (graph : GraphData) → graph ≡ plan.graph → HaveScriptsOf graph before
  has_scripts graph is = subst (λ (of : GraphData). HaveScriptsOf of before) (ap (λ (one : PlanData). one.graph) (sym read) ∙ sym is) (scripts_sound kept.plan before before_sound)

  pub has_handed : (list : List Ready) (after : WorldState) → list ≡ listed_in round.moment before → after ≡ taken_in_parts round.moment before → HasHanded kept.plan world number list after
  has_handed list after listed taken =
      let lists : list ≡ ready_list round.moment before = listed ∙ sym (sound_listed kept.plan round.moment before before_sound) in
      let takes : after ≡ take_inputs round.moment before = taken ∙ sym (sound_taken kept.plan round.moment before before_sound) in
      record {
        ready = lists ∙ (λ i. ready_list (moments i) (begins i));
        taken = takes ∙ (λ i. take_inputs (moments i) (begins i));
        home = subst (λ (some : List Ready). AreHome some after) (sym lists) (subst (λ (state : WorldState). AreHome (ready_list round.moment before) state) (sym takes) (snapshot_home kept.plan round.moment before before_sound));
        variables = subst (λ (some : List Ready). HaveVariables some after) (sym lists) (subst (λ (state : WorldState). HaveVariables (ready_list round.moment before) state) (sym takes) (snapshot_variables kept.plan round.moment before before_sound.shape));
        sound = subst (λ (state : WorldState). IsSound kept.plan state) (sym takes) begun;
      }

  pub has_run : (after : WorldState) → after ≡ round_in round.moment before → HasRun kept.plan world number after
  has_run after ran =
      let runs : after ≡ snapshot_and_run round.moment before = ran ∙ sym (sound_rounded kept.plan round.moment before before_sound) in
      record {
        ran = runs ∙ (λ i. snapshot_and_run (moments i) (begins i));
        sound = subst (λ (state : WorldState). IsSound kept.plan state) (sym runs) (run_all_keeps (sound kept.plan) (ready_list round.moment before) (take_inputs round.moment before) begun);
      }

  -- what is kept after a round that ran where its work is light
  pub has_begun : number ≡ world.rounds + 1 → (heavy : Option Heavy) (count : ℕ) (after : WorldState) → count ≡ option_map_or (λ heavy. length heavy.list.items) heavy 0 → IsHandedOut round.moment before heavy after
      → IsBegun number heavy world (record { plan = kept.plan; state = after; rounds = rounds_in number count; uncommitted = count; failed = kept.failed })
  has_begun next None count after counted ran =
      (λ i. record { plan = (same i).plan; state = after; rounds = rounds_in number (counted i); uncommitted = counted i; failed = (same i).failed })
      ∙ round_kept world number after next (has_run after ran).ran
  has_begun next (Some heavy) count after counted handed =
      let has = has_handed heavy.list.items after handed.0 handed.1 in (
        has.ready,
        (λ i. record { plan = (same i).plan; state = after; rounds = rounds_in number (counted i); uncommitted = counted i; failed = (same i).failed })
            ∙ snapshot_kept world number heavy.list.items after next has.ready has.taken,
        has.home,
        has.variables,
      )

  pub stays_sound : (heavy : Option Heavy) (after : WorldState) → IsHandedOut round.moment before heavy after → IsSound kept.plan after
  stays_sound None after ran = (has_run after ran).sound
  stays_sound (Some heavy) after handed = (has_handed heavy.list.items after handed.0 handed.1).sound
