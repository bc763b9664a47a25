use Rattle.std.proofs.Common.{arith}
use Rattle.exec_msg.proofs.Lengths.{digits_from}
use Rattle.exec_msg.proofs.place.numbers.count_digits.Goals as goal

pub returns-clause-value : goal.returns-clause-value
returns-clause-value c = digits_from c.args.number c.ilog10.result (omega arith) c.ilog10.ensures.bound c.ilog10.ensures.power_le c.ilog10.ensures.next_power_gt
