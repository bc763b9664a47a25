use Rattle.std.proofs.Common.{◌+◌, ◌%◌, List, Bool, ltb, replicate, ap, ◌∙◌, w8}
use lib.Lanes.{zip2, sel_l}
use Rattle.std.proofs.lemmas.Simd.{tops_compared}
use Rattle.exec_msg.proofs.Digits.{digits_chosen}
use Rattle.exec_msg.proofs.place.id.hex_digits.Goals as goal

pub returns : goal.returns
returns c =
    let numbers = c.args.numbers in
    ap (λ (below : List Bool). sel_l below (zip2 (λ a b. (a + b) % 256) numbers (replicate 16 48)) (zip2 (λ a b. (a + b) % 256) numbers (replicate 16 87))) (tops_compared w8 ltb numbers (replicate 16 10))
    ∙ digits_chosen numbers 16 c.requires.1 c.requires.0
