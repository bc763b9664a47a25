use Rattle.std.proofs.Common.{◌≡◌, ◌-◌, ◌<◌, length, true, if◌then◌else◌, slice_index_or, refl, sym, ◌∙◌, arith}
use Rattle.std.proofs.lemmas.List.{get_or_default}
use Rattle.exec_script.specs.Zeros.{zeros}
use Rattle.exec_world.proofs.KeptBanks.{kept_at, kept_set}
use Rattle.exec_world.specs.inner.Banks.{left_by}
use Rattle.exec_world.proofs.banks.Banks.lend.Goals as goal

pub returns-then-place-spare : goal.returns-then-place-spare
returns-then-place-spare c =
    let all = c.self.inside.banks.items in
    let group = c.group.inside.0 in
    let exclusive : c.args.exclusive ≡ true = c.if-exclusive.true in
    let within : group < length all - 1 = omega (arith, c.if-place-spare.true, c.len-spare.ensures, c.self.inside.banks.ok.0) in (
      (refl, λ w. kept_set all group w within ∙ (λ i. left_by (sym exclusive i) (c.group.view_is i) w (c.self.view_is i))),
      record {
        lends = tt;
        value = c.index_mut.ensures.value ∙ get_or_default all group _ zeros (omega (arith, within)) ∙ kept_at all group zeros within ∙ (λ i. if sym exclusive i then slice_index_or (c.self.view_is i) (c.group.view_is i) zeros else zeros);
      },
    )
