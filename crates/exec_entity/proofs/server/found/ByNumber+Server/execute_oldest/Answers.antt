use Rattle.std.proofs.Common.{find, rules, sym, ◌∙◌}
use Rattle.exec_entity.proofs.Changed.{changed}
use Rattle.exec_entity.proofs.FoundServers.{executed_each}
use Rattle.exec_entity.specs.inner.Keeping.{executed}
use Rattle.exec_goal.specs.State.{is_accepted}
use Rattle.exec_rules.specs.World.{goals_in, is_server_at, with_goals}
use Rattle.exec_entity.proofs.server.found.ByNumber+Server.execute_oldest.Goals as goal

pub returns-clause-executed : goal.returns-clause-executed
returns-clause-executed c =
    let oldest = find (λ goal. is_accepted goal.state) (goals_in c.args.server c.args.self.now) in
    changed _ (is_server_at c.args.server) (with_goals (executed oldest)) c.args.self.now c.change.new.self c.change.result c.change.ensures (λ made entry now found p. search rules)
    ∙ sym (executed_each c.args.server c.args.self.now oldest)
