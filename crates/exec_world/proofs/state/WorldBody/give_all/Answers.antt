use Rattle.std.proofs.Common.{take, ap, sym, ◌∙◌}
use Rattle.std.specs.List.{fold}
use Rattle.std.proofs.lemmas.List.{take_all}
use Rattle.std.proofs.lemmas.List.Sums.{fold_more}
use Rattle.exec_script.specs.declared.effects.Effect.{Effect}
use Rattle.exec_rules.specs.Give.{give}
use Rattle.exec_rules.specs.World.{WorldState}
use Rattle.exec_world.proofs.state.WorldBody.give_all.Goals as goal

pub loop-effect-preserved : goal.loop-effect-preserved
loop-effect-preserved g c =
    let step = λ (world : WorldState) (effect : Effect). give c.args.one.now effect world in
    let effects = c.args.effects.now in
    let i = c.loop-effect.effect-index in
    c.in_ok-give.ensures
    ∙ ap (λ (world : WorldState). step world c.effect-item.result) c.loop-effect.invariant
    ∙ ap (step (fold step c.args.self.now (take i effects))) c.effect-item.is
    ∙ sym (fold_more step c.args.self.now effects i c.effect-item.result c.loop-effect-test.true)

pub returns : goal.returns
returns g c =
    c.loop-effect.invariant
    ∙ ap (fold (λ (world : WorldState) (effect : Effect). give c.args.one.now effect world) c.args.self.now) (take_all c.loop-effect.effect-index c.args.effects.now c.loop-effect-test.false)
