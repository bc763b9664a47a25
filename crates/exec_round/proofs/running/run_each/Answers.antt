use Rattle.std.proofs.Common.{◌≡◌, ◌+◌, ◌<◌, length, ap, sym, ◌∙◌, arith, rules}
use Rattle.exec_rules.specs.Calls.{IsNext, WorldData, after_round}
use Rattle.exec_round.proofs.running.run_each.Goals as goal

pub loop-done-init : goal.loop-done-init
loop-done-init g c = c.requires.new

pub run_next-requires : goal.run_next-requires
run_next-requires g c =
    let here = c.loop-done.invariant in
    let moments : c.args.rounds ≡ length c.loop-done.world.plan.moments = c.requires.all ∙ ap (λ (world : WorldData). length world.plan.moments) (sym here) in
    let next : IsNext (c.loop-done.done + 1) c.loop-done.world = record {
      next = ap (λ (world : WorldData). world.rounds + 1) (sym here);
      within = omega (arith, c.loop-done-test.true, moments);
      done = ap (λ (world : WorldData). world.uncommitted) here;
    } in
    search rules

pub loop-done-preserved : goal.loop-done-preserved
loop-done-preserved g c =
    let plan = c.args.world.now.plan in
    let within : c.loop-done.done < length plan.moments = omega (arith, c.loop-done-test.true, c.requires.all) in
    c.in_ok-run_next.ensures ∙ ap (after_round (c.loop-done.done + 1)) c.loop-done.invariant ∙ c.rounds_follow_one_another.ensures.next plan c.loop-done.done within
