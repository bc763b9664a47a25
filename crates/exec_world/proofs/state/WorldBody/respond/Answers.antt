use Rattle.std.proofs.Common.{◌≡◌, Some, ap, sym, ◌∙◌}
use Rattle.std.proofs.lemmas.Result.{on_ok_weaker}
use Rattle.exec_entity.proofs.Closings.{responds}
use Rattle.exec_rules.specs.World.{WorldState, action_client_at}
use Rattle.exec_world.proofs.state.WorldBody.respond.Goals as goal

pub returns-then-asks-clause-responded : goal.returns-then-asks-clause-responded
returns-then-asks-clause-responded g c =
    let there : action_client_at c.args.client c.args.self.now ≡ Some c.in-Some.found.now = ap (λ (world : WorldState). action_client_at c.args.client world) (sym c.self.view_is) ∙ sym c.in-Some.ensures in
    on_ok_weaker c.send.result (λ sent. sent
    ∙ responds c.args.client c.server-server.result c.args.id c.args.accepted c.args.self.now c.in-Some.found.now there c.server-server.ensures c.if-accepted.true (sym c.asks.ensures ∙ c.if-asks.true))
    c.send.ensures
