use Rattle.std.proofs.Common.{ap}
use Rattle.exec_script.proofs.Lasting.{resumed_alone}
use Rattle.exec_script.proofs.laws.reentrant_scripts_share_nothing.Goals as goal

pub returns : goal.returns
returns g c = record {
  leaves = λ give script allowed place registers variables answer input given reentrant legal.
      ap (λ state. state.variables) (resumed_alone give script allowed place registers variables variables answer input given reentrant legal);
  alike = resumed_alone;
}
