use Rattle.std.proofs.Common.{refl, ap, sym, ◌∙◌}
use Rattle.std.specs.Option.{option_map}
use Rattle.std.proofs.lemmas.Result.{on_ok_weaker}
use Rattle.exec_goal.specs.Table.{GoalRecord}
use Rattle.exec_msg.specs.declared.goal.GoalStatus.TheVariants as status
use Rattle.exec_msg.specs.declared.line.Line.TheVariants as line
use Rattle.exec_world.proofs.Giving.{executed_oldest}
use Rattle.exec_rules.specs.Give.{oldest_accepted}
use Rattle.exec_rules.specs.World.{WorldState, add_line, goals_at}
use Rattle.exec_entity.specs.inner.Servers.{executed_in}
use Rattle.exec_world.proofs.state.WorldBody.execute.Goals as goal

pub returns : goal.returns
returns g c =
    let here = c.self.view_is in
    let servers = c.execute_oldest.ensures.executed ∙ ap (λ (world : WorldState). executed_in c.args.server (oldest_accepted c.args.server world) world.servers) here in
    let found = ap (λ (world : WorldState). option_map (λ (goal : GoalRecord). goal.id) (oldest_accepted c.args.server world)) (sym here) ∙ sym c.in-Some.ensures.found in
    on_ok_weaker c.add_line.result (λ added. added
    ∙ (λ i. add_line (line.State c.args.server c.in-Some.id status.Executing) (record (here i) { servers = servers i }))
    ∙ executed_oldest c.args.server c.in-Some.id c.args.self.now (goals_at c.args.server c.args.self.now) (oldest_accepted c.args.server c.args.self.now) refl found) c.add_line.ensures
