-- A callback that ran apart from the world and was committed has run.
use Rattle.std.proofs.Common.{◌≡◌, List, sym, ◌∙◌}
use Rattle.exec_script.specs.declared.effects.Close.{Close}
use Rattle.exec_script.specs.declared.effects.Effect.{Effect}
use Rattle.exec_rules.proofs.Apart.{runs_apart}
use Rattle.exec_rules.specs.Run.{apart, brought_home, commit, run}
use Rattle.exec_rules.specs.World.{WorldState}
use Rattle.exec_rules.specs.declared.ready.Ready.{Ready}

pub committed : (one : Ready) (world home : WorldState) (list : List Effect) (closing : Close) → list ≡ (apart one world).given → closing ≡ (apart one world).close → home ≡ brought_home one (apart one world) world
    → commit one (record { list = list; close = closing }) home ≡ run one world
committed one world home list closing given closes brought =
    (λ i. commit one (record { list = given i; close = closes i }) (brought i)) ∙ sym (runs_apart one world)
