use Rattle.std.proofs.Common.{◌/◌, take, arith}
use Rattle.exec_msg.proofs.Places.{digit_written, last_digit_written}
use Rattle.exec_msg.proofs.place.numbers.place_tens.Goals as goal

pub returns-then-number-lt10-clause-text : goal.returns-then-number-lt10-clause-text
returns-then-number-lt10-clause-text c =
    digit_written _ (take c.args.at c.args.bytes.now) c.args.number c.if-number-lt10.true c.place_digit.ensures.text

pub returns-clause-text : goal.returns-clause-text
returns-clause-text c =
    let first = digit_written _ (take c.args.at c.args.bytes.now) (c.args.number / 10) (omega (arith, c.requires)) c.place_digit-end.ensures.text in
    last_digit_written _ _ (take c.args.at c.args.bytes.now) c.args.number (omega (arith, c.if-number-lt10.false)) (omega (arith, c.requires)) first c.place_digit-2.ensures.text
