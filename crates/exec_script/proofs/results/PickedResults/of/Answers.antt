use Rattle.std.proofs.Common.{w64, refl, rules}
use mir.Val.{SFits}
use Rattle.exec_script.specs.declared.instr.Operation.TheVariants as operation
use Rattle.exec_script.proofs.Flats.{picked_is, stored_is, stored_fits, remainder_fits}
use Rattle.exec_script.proofs.results.PickedResults.of.Goals as goal

pub returns : goal.returns
returns c =
    let least : SFits w64 c.min.result = search rules in
    let most : SFits w64 c.max.result = search rules in
    let less : SFits w64 c.less.result = search rules in
    let equal : SFits w64 c.equal.result = search rules in
    let l = c.ranges.left in
    let r = c.ranges.right in
    picked_is c.args.operation c.args.left c.args.right _ _ _ _ _ _ _ c.operation_number.result c.operation_number.ensures.value
    (remainder_fits _) (remainder_fits _) (remainder_fits _) (stored_fits _ least) (stored_fits _ most) (stored_fits _ less) (stored_fits _ equal)
    refl refl refl
    (stored_is operation.Min _ _ _ l r least c.min.ensures.value)
    (stored_is operation.Max _ _ _ l r most c.max.ensures.value)
    (stored_is operation.Lt _ _ _ l r less c.less.ensures)
    (stored_is operation.Eq _ _ _ l r equal c.equal.ensures)
