use Rattle.std.proofs.Common.{◌≡◌, Some, ap, sym, ◌∙◌}
use Rattle.std.proofs.lemmas.Result.{on_ok_weaker}
use Rattle.exec_world.proofs.Giving.{canceled_goal}
use Rattle.exec_rules.specs.World.{WorldState, action_client_at}
use Rattle.exec_world.proofs.state.WorldBody.cancel_goal.Goals as goal

pub returns : goal.returns
returns g c =
    let there : action_client_at c.args.client c.args.self.now ≡ Some c.in-Some.found.now = ap (λ (world : WorldState). action_client_at c.args.client world) (sym c.self.view_is) ∙ sym c.in-Some.ensures in
    on_ok_weaker c.send_cancel.result (λ sent. sent ∙ canceled_goal c.args.client c.args.self.now c.in-Some.found.now there c.server-server.result c.goal_id-id.result c.args.number c.args.stamp c.server-server.ensures c.goal_id-id.ensures) c.send_cancel.ensures
