use Rattle.std.proofs.Common.{Bool, not, ap}
use Rattle.exec_plan.proofs.laws.reentrant_groups_share_nothing.Goals as goal

pub returns : goal.returns
returns g c = λ graph group roled lawful reentrant give place registers variables answer input given.
    c.reentrant_scripts_share_nothing.ensures.leaves give roled.script (record { reentrant = not group.exclusive; role = roled.role }) place registers variables answer input given
    (ap (λ (b : Bool). not b) reentrant) lawful.legal
