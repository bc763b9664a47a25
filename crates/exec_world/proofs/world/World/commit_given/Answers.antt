use Rattle.std.proofs.Common.{◌≡◌, ◌≤◌, ◌-◌, ◌==◌, false, rules, subst, sym, ◌∙◌}
use Rattle.std.specs.Arc.{arc_value}
use Rattle.exec_rules.proofs.Running.{commit_keeps}
use Rattle.exec_world.proofs.Sound.{not_refused, sound}
use Rattle.exec_rules.specs.World.{WorldState}
use Rattle.exec_world.specs.inner.Sound.{IsSound}
use Rattle.exec_world.proofs.world.World.commit_given.Goals as goal

pub invariant_of-self-2 : goal.invariant_of-self-2
invariant_of-self-2 g c =
    let plan = arc_value c.self.inside.plan in
    let given = not_refused _ _ (sym c.is_err.ensures.value ∙ c.if-is_err.false) c.commit-given.ensures in
    let begun : (c.self.inside.uncommitted - 1) == 0 ≡ false → 1 ≤ c.self.inside.round = search rules in (
      c.self.invariant.0,
      c.self.invariant.1,
      begun,
      λ unfailed. subst (λ (state : WorldState). IsSound plan state) (sym given) (commit_keeps (sound plan).basic (sound plan).accepts_kept c.args.one.now (record { list = c.args.effects.now; close = c.args.close.now }) c.self.inside.state (c.self.invariant.3 unfailed)),
    )
