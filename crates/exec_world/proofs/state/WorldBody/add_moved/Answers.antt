use Rattle.std.proofs.Common.{ℕ, List, map, ap, ◌∙◌}
use Rattle.std.proofs.lemmas.List.{take_all}
use Rattle.exec_msg.specs.declared.goal.GoalStatus.TheVariants as status
use Rattle.exec_msg.specs.declared.line.Line.{Line}
use Rattle.exec_msg.specs.declared.line.Line.TheVariants as line
use Rattle.exec_entity.proofs.Closings.{line_more}
use Rattle.exec_rules.specs.World.{WorldState, add_line, add_lines}
use Rattle.exec_world.proofs.state.WorldBody.add_moved.Goals as goal

pub loop-id-preserved : goal.loop-id-preserved
loop-id-preserved g c =
    let tells = λ (id : ℕ). line.State c.args.server id status.Canceling in
    c.in_ok-add_state.ensures
    ∙ ap (λ (world : WorldState). add_line (tells c.id-item.result) world) c.loop-id.invariant
    ∙ ap (λ (lines : List Line). record c.args.self.now { lines = lines }) (line_more tells c.args.self.now.lines c.args.goals.now c.loop-id.id-index c.id-item.result c.loop-id-test.true c.id-item.is)

pub returns : goal.returns
returns g c =
    c.loop-id.invariant
    ∙ ap (λ (all : List ℕ). add_lines (map (λ (id : ℕ). line.State c.args.server id status.Canceling) all) c.args.self.now) (take_all c.loop-id.id-index c.args.goals.now c.loop-id-test.false)
