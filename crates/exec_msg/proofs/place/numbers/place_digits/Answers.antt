use Rattle.std.proofs.Common.{◌+◌, arith}
use Rattle.std.specs.Fmt.{decimal}
use Rattle.exec_msg.proofs.Places.{digits_written}
use Rattle.exec_msg.proofs.place.numbers.place_digits.Goals as goal

pub returns-clause-text : goal.returns-clause-text
returns-clause-text c =
    digits_written c.args.bytes.now c.write_digits.new.buf (decimal c.args.number) c.args.at c.write_digits.result (c.args.at + c.count_digits.result)
    (omega (arith, c.write_digits.ensures.start, c.count_digits.ensures.value)) c.write_digits.ensures.start c.write_digits.ensures.before c.write_digits.ensures.written
