use Rattle.std.proofs.Common.{subst, sym, ◌∙◌, true≢false}
use Rattle.std.specs.Arc.{arc_value}
use Rattle.exec_rules.proofs.Running.{run_all_keeps}
use Rattle.exec_world.proofs.Sound.{not_refused, sound}
use Rattle.exec_rules.specs.World.{WorldState}
use Rattle.exec_world.specs.inner.Sound.{IsSound}
use Rattle.exec_world.proofs.world.World.run_ready.Goals as goal

pub invariant_of-self-2 : goal.invariant_of-self-2
invariant_of-self-2 g c =
    let plan = arc_value c.self.inside.plan in
    let ran = not_refused _ _ (sym c.is_err.ensures.value ∙ c.if-is_err.false) c.run_all-ran.ensures in (
      c.self.invariant.0,
      c.self.invariant.1,
      (λ none. absurd (true≢false none)),
      λ unfailed. subst (λ (state : WorldState). IsSound plan state) (sym ran) (run_all_keeps (sound plan) c.args.list.now c.self.inside.state (c.self.invariant.3 unfailed)),
    )
