use Rattle.std.proofs.Common.{List, take, ap, sym, ◌∙◌}
use Rattle.std.specs.List.{fold}
use Rattle.std.proofs.lemmas.List.{take_all}
use Rattle.std.proofs.lemmas.List.Sums.{fold_more}
use Rattle.exec_rules.specs.Ready.{goal_arrival}
use Rattle.exec_rules.specs.World.{WorldState}
use Rattle.exec_rules.specs.declared.ready.AwakeGoal.{AwakeGoal}
use Rattle.exec_world.specs.declared.arrived.Arrived.{Arrived}
use Rattle.exec_world.specs.inner.Arrivals.{with_arrived}
use Rattle.exec_world.proofs.state.WorldBody.note_polls.Goals as goal

pub loop-goal-preserved : goal.loop-goal-preserved
loop-goal-preserved g c =
    let step = λ (so_far : List Arrived) (goal : AwakeGoal). with_arrived so_far (goal_arrival goal.server goal.id c.args.self.now) in
    let before : List Arrived = fold step c.args.arrivals.now.items (take c.loop-goal.goal-index c.args.goals.now) in
    c.in_ok-note_arrival.ensures
    ∙ ap (with_arrived c.loop-goal.arrivals.items) (c.arrival.ensures ∙ ap (λ (world : WorldState). goal_arrival c.goal-item.result.server c.goal-item.result.id world) c.self.view_is)
    ∙ ap (λ (so_far : List Arrived). step so_far c.goal-item.result) c.loop-goal.invariant
    ∙ ap (step before) c.goal-item.is
    ∙ sym (fold_more step c.args.arrivals.now.items c.args.goals.now c.loop-goal.goal-index c.goal-item.result c.loop-goal-test.true)

pub returns : goal.returns
returns g c =
    let step = λ (so_far : List Arrived) (goal : AwakeGoal). with_arrived so_far (goal_arrival goal.server goal.id c.args.self.now) in
    c.loop-goal.invariant
    ∙ ap (λ (all : List AwakeGoal). fold step c.args.arrivals.now.items all) (take_all c.loop-goal.goal-index c.args.goals.now c.loop-goal-test.false)
