use Rattle.std.proofs.Common.{None, refl}
use Rattle.exec_script.proofs.Lasting.{resumed_silent}
use Rattle.exec_script.proofs.laws.callbacks_and_goals_give_no_answer.Goals as goal

pub returns : goal.returns
returns g c = record {
  callback = λ give script allowed place registers variables input given is legal.
      resumed_silent give script allowed place registers variables None input given (rw is refl) (rw is refl) legal;
  goal = λ give script allowed place registers variables input given is legal.
      resumed_silent give script allowed place registers variables None input given (rw is refl) (rw is refl) legal;
}
