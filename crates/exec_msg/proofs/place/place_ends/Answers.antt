use Rattle.std.proofs.Common.{◌-◌, length, arith}
use Rattle.std.proofs.lemmas.List.{take_rest}
use Rattle.exec_msg.proofs.Places.{ends_written}
use Rattle.exec_msg.proofs.place.place_ends.Goals as goal

pub returns-clause-text : goal.returns-clause-text
returns-clause-text g c =
    let text = c.args.text.now in
    ends_written c.args.bytes.now c.place_front.new.bytes c.place_front-2.new.bytes text c.args.at g.row.N c.place_front.result c.place_front-2.result
    (omega arith) c.requires.covers.0 c.requires.covers.1 c.place_front.ensures.end c.place_front.ensures.text
    (rw (take_rest text (length text - g.row.N)) at c.place_front-2.ensures.text)
