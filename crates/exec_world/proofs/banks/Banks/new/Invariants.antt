use Rattle.std.proofs.Common.{◌≡◌, replicate}
use Rattle.exec_script.specs.Zeros.{zeros}
use Rattle.exec_world.proofs.banks.Banks.new.Given as goal

abbrev pub invariant-loop : goal.invariant-loop
invariant-loop l = l.banks.items ≡ replicate l.counter zeros
