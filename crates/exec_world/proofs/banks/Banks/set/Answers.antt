use Rattle.std.proofs.Common.{◌-◌, ◌<◌, length, slice_set, ◌∙◌, arith}
use Rattle.exec_world.proofs.KeptBanks.{kept_set}
use Rattle.exec_world.proofs.banks.Banks.set.Goals as goal

pub returns-then-place-len : goal.returns-then-place-len
returns-then-place-len c =
    let all = c.self.inside.banks.items in
    let group = c.group.inside.0 in
    let within : group < length all - 1 = omega (arith, c.if-place-len.true, c.len.ensures, c.self.inside.banks.ok.0) in
    kept_set all group c.args.bank.now within ∙ (λ i. slice_set (c.self.view_is i) (c.group.view_is i) c.args.bank.now)
