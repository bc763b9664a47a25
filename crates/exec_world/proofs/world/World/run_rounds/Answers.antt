use Rattle.std.proofs.Common.{◌≡◌, ℕ, ◌+◌, ◌<◌, length, ap, sym, ◌∙◌, arith}
use Rattle.exec_plan.specs.Plan.{PlanData}
use Rattle.exec_rules.proofs.AllRounds.{next_round}
use Rattle.exec_rules.specs.Calls.{WorldData, after_round, world_after}
use Rattle.exec_world.proofs.world.World.run_rounds.Goals as goal

pub loop-done-init : goal.loop-done-init
loop-done-init g c = c.requires

pub run_round-requires : goal.run_round-requires
run_round-requires g c =
    let here = c.loop-done.invariant in
    let moments : length c.moments-rounds.result.now ≡ length c.loop-done.self.plan.moments =
    ap length c.moments-rounds.ensures ∙ ap (λ (plan : PlanData). length plan.moments) (c.deref.ensures ∙ ap (λ (world : WorldData). world.plan) c.self.view_is) ∙ ap (λ (world : WorldData). length world.plan.moments) (sym here) in
    record {
      unfailed = ap (λ (world : WorldData). world.failed) here;
      next = record {
        next = ap (λ (world : WorldData). world.rounds + 1) (sym here);
        within = omega (arith, c.loop-done-test.true, moments);
        done = ap (λ (world : WorldData). world.uncommitted) here;
      };
    }

pub loop-done-preserved : goal.loop-done-preserved
loop-done-preserved g c =
    let moments : length c.moments-rounds.result.now ≡ length c.args.self.now.plan.moments = ap length c.moments-rounds.ensures ∙ ap (λ (plan : PlanData). length plan.moments) (c.deref.ensures ∙ ap (λ (world : WorldData). world.plan) c.self.view_is) in
    let within : c.loop-done.done < length c.args.self.now.plan.moments = omega (arith, c.loop-done-test.true, moments) in
    c.in_ok-run_round.ensures
    ∙ ap (after_round (c.loop-done.done + 1)) c.loop-done.invariant
    ∙ next_round c.args.self.now.plan c.loop-done.done within

pub returns-clause-world : goal.returns-clause-world
returns-clause-world g c =
    let moments : length c.moments-rounds.result.now ≡ length c.args.self.now.plan.moments = ap length c.moments-rounds.ensures ∙ ap (λ (plan : PlanData). length plan.moments) (c.deref.ensures ∙ ap (λ (world : WorldData). world.plan) c.self.view_is) in
    let all : c.loop-done.done ≡ length c.args.self.now.plan.moments = omega (arith, c.loop-done-test.false, c.loop-done.auto.done-end, moments) in
    c.loop-done.invariant ∙ ap (λ (count : ℕ). world_after count c.args.self.now.plan) all
