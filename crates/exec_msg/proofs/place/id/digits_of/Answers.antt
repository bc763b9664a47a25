use Rattle.exec_msg.proofs.Digits.{front_digits, back_digits}
use Rattle.exec_msg.proofs.place.id.digits_of.Goals as goal

pub returns-clause-front : goal.returns-clause-front
returns-clause-front c =
    front_digits c.halves-high.result.0 c.halves-high.result.1 c.args.id c.hex_digits-firsts.result c.hex_digits-seconds.result c.halves-high.ensures c.hex_digits-firsts.ensures c.hex_digits-seconds.ensures

pub returns-clause-back : goal.returns-clause-back
returns-clause-back c =
    back_digits c.halves-high.result.0 c.halves-high.result.1 c.args.id c.hex_digits-firsts.result c.hex_digits-seconds.result c.halves-high.ensures c.hex_digits-firsts.ensures c.hex_digits-seconds.ensures
