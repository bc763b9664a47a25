use Rattle.std.proofs.Common.{None, []}
use Rattle.exec_script.specs.Zeros.{zeros}
use Rattle.exec_script.proofs.Lasting.{resumed_later}
use Rattle.exec_script.proofs.laws.effects_may_be_given_later.Goals as goal

pub returns : goal.returns
returns g c = record {
  call = λ give script variables input given. resumed_later give script 0 zeros variables None input [] given;
  anywhere = resumed_later;
}
