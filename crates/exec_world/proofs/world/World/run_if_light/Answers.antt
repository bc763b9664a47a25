use Rattle.std.proofs.Common.{◌≡◌, ◌==◌, ◌≤◌, false, rules, ap, ◌∙◌}
use Rattle.exec_rules.specs.Calls.{WorldData}
use Rattle.exec_world.proofs.HandedOut.{has_begun, has_scripts, stays_sound}
use Rattle.exec_world.proofs.world.World.run_if_light.Goals as goal

pub run_light_round-begun-requires : goal.run_light_round-begun-requires
run_light_round-begun-requires g c =
    let unfailed : c.self.inside.failed ≡ false = ap (λ (world : WorldData). world.failed) c.self.view_is ∙ c.in_ok-check.ensures.ok in
    has_scripts _ c.args.self.now c.self.view_is c.deref.result.now c.args.round c.of-begins.result c.deref.ensures c.of-begins.ensures.moment (c.of-begins.ensures.begun c.self.inside.state) (c.self.invariant.3 unfailed)
    c.of-begins.result.graph.now c.of-begins.ensures.graph

pub invariant_of-self : goal.invariant_of-self
invariant_of-self g c =
    let begun : c.count-self-inside.result == 0 ≡ false → 1 ≤ c.args.round = search rules in (
      c.self.invariant.0,
      c.self.invariant.1,
      begun,
      λ unfailed. stays_sound _ c.args.self.now c.self.view_is c.deref.result.now c.args.round c.of-begins.result c.deref.ensures c.of-begins.ensures.moment (c.of-begins.ensures.begun c.self.inside.state) (c.self.invariant.3 unfailed)
          c.in-Ok.heavy c.run_light_round-begun.new.self c.in-Ok.ensures,
    )

pub returns-in-Ok-clause-begun : goal.returns-in-Ok-clause-begun
returns-in-Ok-clause-begun g c =
    let unfailed : c.self.inside.failed ≡ false = ap (λ (world : WorldData). world.failed) c.self.view_is ∙ c.in_ok-check.ensures.ok in
    has_begun _ c.args.self.now c.self.view_is c.deref.result.now c.args.round c.of-begins.result c.deref.ensures c.of-begins.ensures.moment (c.of-begins.ensures.begun c.self.inside.state) (c.self.invariant.3 unfailed)
    (c.requires c.in_ok-check.ensures.ok).next c.in-Ok.heavy c.count-self-inside.result c.run_light_round-begun.new.self c.count-self-inside.ensures c.in-Ok.ensures
