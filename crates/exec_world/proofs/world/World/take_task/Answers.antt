use Rattle.std.proofs.Common.{subst, sym}
use Rattle.std.specs.Arc.{arc_value}
use Rattle.exec_world.proofs.Sound.{lent_sound}
use Rattle.exec_rules.specs.Calls.{away}
use Rattle.exec_rules.specs.World.{WorldState}
use Rattle.exec_world.specs.inner.Sound.{IsSound}
use Rattle.exec_world.proofs.world.World.take_task.Goals as goal

pub invariant_of-self : goal.invariant_of-self
invariant_of-self g c =
    let plan = arc_value c.self.inside.plan in (
      c.self.invariant.0,
      c.self.invariant.1,
      c.self.invariant.2,
      λ unfailed. subst (λ (state : WorldState). IsSound plan state) (sym c.take_task.ensures.out) (lent_sound plan c.args.server c.args.id away c.self.inside.state (c.self.invariant.3 unfailed)),
    )
