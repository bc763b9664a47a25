use Rattle.std.proofs.Common.{◌≡◌, length, w64, arith, rules, ◌∙◌}
use Rattle.std.proofs.lemmas.Grind.{common_steps}
use mir.Val.{SFits}
use Rattle.exec_script.proofs.Frames.{new_is, new_kept}
use Rattle.exec_script.proofs.frame.Frame.fill.Goals as goal

pub returns : goal.returns
returns c =
    let p : length c.copy_eight.new.to ≡ 8 = grind (arith, common_steps) in
    let q : length c.copy_eight-2.new.to ≡ 8 = grind (arith, common_steps) in
    let first : SFits w64 c.input.inside.first = search rules in
    let aux : SFits w64 c.input.inside.aux = search rules in
    new_is c.copy_eight.new.to c.copy_eight-2.new.to c.input.inside.first c.input.inside.aux c.ticks.result c.input.inside.moment c.args.regs.now c.args.bank.now c.args.input.now p q first aux c.ticks.ensures.bound
    (c.copy_eight.ensures ∙ c.as_array.ensures ∙ c.regs.view_is) (c.copy_eight-2.ensures ∙ c.as_array-2.ensures ∙ c.bank.view_is) c.ticks.ensures.value c.input.view_is

pub invariant_of-self : goal.invariant_of-self
invariant_of-self c =
    let p : length c.copy_eight.new.to ≡ 8 = grind (arith, common_steps) in
    let q : length c.copy_eight-2.new.to ≡ 8 = grind (arith, common_steps) in
    let first : SFits w64 c.input.inside.first = search rules in
    let aux : SFits w64 c.input.inside.aux = search rules in
    new_kept c.copy_eight.new.to c.copy_eight-2.new.to c.input.inside.first c.input.inside.aux c.ticks.result p q first aux c.ticks.ensures.bound
