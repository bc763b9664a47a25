use Rattle.std.proofs.Common.{rules}
use Rattle.exec_entity.proofs.Changed.{changed}
use Rattle.exec_rules.specs.Ready.{call_answered}
use Rattle.exec_rules.specs.World.{is_client_at}
use Rattle.exec_entity.proofs.client.ByNumber+Client.complete.Goals as goal

pub returns-clause-answered : goal.returns-clause-answered
returns-clause-answered c = changed _ (is_client_at c.args.client) (call_answered c.args.number) c.args.self.now c.change.new.self c.change.result c.change.ensures (λ made entry now found p. search rules)
