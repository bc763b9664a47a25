use Rattle.std.proofs.Common.{take, arith}
use Rattle.exec_msg.proofs.Places.{last_digit_written}
use Rattle.exec_msg.proofs.place.numbers.place_hundreds.Goals as goal

pub returns-clause-text : goal.returns-clause-text
returns-clause-text c =
    last_digit_written _ _ (take c.args.at c.args.bytes.now) c.args.number (omega (arith, c.if-number-lt100.false)) (omega (arith, c.requires)) c.place_tens-end.ensures.text
    c.place_digit.ensures.text
