use Rattle.std.proofs.Common.{List, take, ap, sym, ◌∙◌}
use Rattle.std.specs.List.{fold}
use Rattle.std.proofs.lemmas.List.{take_all}
use Rattle.std.proofs.lemmas.List.Sums.{fold_more}
use Rattle.exec_rules.specs.Run.{run}
use Rattle.exec_rules.specs.Transcript.{run_all}
use Rattle.exec_rules.specs.World.{WorldState}
use Rattle.exec_rules.specs.declared.ready.Ready.{Ready}
use Rattle.exec_world.proofs.state.WorldBody.run_all.Goals as goal

pub loop-one-preserved : goal.loop-one-preserved
loop-one-preserved g c =
    let step = λ (world : WorldState) (one : Ready). run one world in
    c.in_ok-run_as.ensures
    ∙ ap (λ (one : Ready). run one c.loop-one.self) c.of.ensures
    ∙ ap (λ (world : WorldState). step world c.one-item.result) c.loop-one.invariant
    ∙ ap (step (fold step c.args.self.now (take c.loop-one.one-index c.args.list.now))) c.one-item.is
    ∙ sym (fold_more step c.args.self.now c.args.list.now c.loop-one.one-index c.one-item.result c.loop-one-test.true)

pub returns : goal.returns
returns g c =
    c.loop-one.invariant
    ∙ ap (λ (all : List Ready). run_all all c.args.self.now) (take_all c.loop-one.one-index c.args.list.now c.loop-one-test.false)
