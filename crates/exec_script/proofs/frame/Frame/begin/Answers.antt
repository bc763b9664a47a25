use Rattle.std.proofs.Common.{◌≡◌, length, w64, refl, arith, rules, ◌∙◌}
use Rattle.std.proofs.lemmas.Grind.{common_steps}
use mir.Val.{SFits}
use Rattle.exec_script.specs.Zeros.{zeros}
use Rattle.exec_script.proofs.Frames.{new_is, new_kept}
use Rattle.exec_script.proofs.frame.Frame.begin.Goals as goal

pub returns : goal.returns
returns c =
    let q : length c.copy_eight.new.to ≡ 8 = grind (arith, common_steps) in
    let first : SFits w64 c.input.inside.first = search rules in
    let aux : SFits w64 c.input.inside.aux = search rules in
    new_is zeros c.copy_eight.new.to c.input.inside.first c.input.inside.aux c.ticks.result c.input.inside.moment zeros c.args.bank.now c.args.input.now refl q first aux c.ticks.ensures.bound
    refl (c.copy_eight.ensures ∙ c.as_array.ensures ∙ c.bank.view_is) c.ticks.ensures.value c.input.view_is

pub invariant_of-self : goal.invariant_of-self
invariant_of-self c =
    let q : length c.copy_eight.new.to ≡ 8 = grind (arith, common_steps) in
    let first : SFits w64 c.input.inside.first = search rules in
    let aux : SFits w64 c.input.inside.aux = search rules in
    new_kept zeros c.copy_eight.new.to c.input.inside.first c.input.inside.aux c.ticks.result refl q first aux c.ticks.ensures.bound
