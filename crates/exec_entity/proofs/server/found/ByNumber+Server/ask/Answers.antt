use Rattle.std.proofs.Common.{rules, sym, ◌∙◌}
use Rattle.std.proofs.lemmas.Result.{on_ok_weaker}
use Rattle.exec_entity.proofs.Changed.{changed_ok, on_unwrapped}
use Rattle.exec_entity.proofs.FoundServers.{asked_each}
use Rattle.exec_goal.specs.Calls.{noted}
use Rattle.exec_goal.specs.Table.{asked_for}
use Rattle.exec_rules.specs.World.{goals_in, is_server_at, with_goals}
use Rattle.exec_entity.proofs.server.found.ByNumber+Server.ask.Goals as goal

pub returns-clause-noted : goal.returns-clause-noted
returns-clause-noted c =
    let told = asked_for c.args.id (goals_in c.args.server c.args.self.now) in
    on_ok_weaker c.unwrap_or.result (λ is. is ∙ sym (asked_each c.args.server c.args.self.now told c.args.id c.args.client))
    (on_unwrapped _ c.change.result _ c.unwrap_or.result c.unwrap_or.ensures
    (changed_ok _ (is_server_at c.args.server) (with_goals (noted told c.args.id c.args.client)) c.args.self.now c.change.new.self c.change.result c.change.ensures (λ made entry now found p. search rules)))
