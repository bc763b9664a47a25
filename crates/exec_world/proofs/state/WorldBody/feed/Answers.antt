use Rattle.std.proofs.Common.{List, take, ap, sym, ◌∙◌}
use Rattle.std.specs.List.{fold}
use Rattle.std.proofs.lemmas.List.{take_all}
use Rattle.std.proofs.lemmas.List.Sums.{fold_more}
use Rattle.exec_plan.specs.Plan.{Feed}
use Rattle.exec_rules.specs.Transcript.{feed, feed_one}
use Rattle.exec_rules.specs.World.{WorldState}
use Rattle.exec_world.proofs.state.WorldBody.feed.Goals as goal

pub loop-entry-preserved : goal.loop-entry-preserved
loop-entry-preserved g c =
    let step = λ (world : WorldState) (entry : Feed). feed_one entry.fed world in
    c.in_ok-feed_one.ensures
    ∙ ap (λ (world : WorldState). step world c.entry-item.result) c.loop-entry.invariant
    ∙ ap (step (fold step c.args.self.now (take c.loop-entry.entry-index c.args.entries.now))) c.entry-item.is
    ∙ sym (fold_more step c.args.self.now c.args.entries.now c.loop-entry.entry-index c.entry-item.result c.loop-entry-test.true)

pub returns : goal.returns
returns g c =
    c.loop-entry.invariant
    ∙ ap (λ (all : List Feed). feed all c.args.self.now) (take_all c.loop-entry.entry-index c.args.entries.now c.loop-entry-test.false)
