use Rattle.std.proofs.Common.{List, map, ap, ◌∙◌}
use Rattle.std.proofs.lemmas.List.{take_all}
use Rattle.exec_rules.proofs.PolledAlike.{run_more}
use Rattle.exec_rules.specs.Run.{run}
use Rattle.exec_rules.specs.Transcript.{run_all}
use Rattle.exec_rules.specs.World.{WorldState}
use Rattle.exec_rules.specs.declared.ready.AwakeGoal.{AwakeGoal}
use Rattle.exec_rules.specs.inner.Awake.{poll_at}
use Rattle.exec_world.proofs.state.WorldBody.run_polls.Goals as goal

pub loop-goal-preserved : goal.loop-goal-preserved
loop-goal-preserved g c =
    c.in_ok-run_as.ensures
    ∙ ap (λ (world : WorldState). run (poll_at c.args.moment c.goal-item.result) world) c.loop-goal.invariant
    ∙ run_more (poll_at c.args.moment) c.args.goals.now c.loop-goal.goal-index c.goal-item.result c.args.self.now c.loop-goal-test.true c.goal-item.is

pub returns : goal.returns
returns g c =
    c.loop-goal.invariant
    ∙ ap (λ (all : List AwakeGoal). run_all (map (poll_at c.args.moment) all) c.args.self.now) (take_all c.loop-goal.goal-index c.args.goals.now c.loop-goal-test.false)
