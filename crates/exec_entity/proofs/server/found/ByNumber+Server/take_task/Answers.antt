use Rattle.std.proofs.Common.{rules}
use Rattle.exec_entity.proofs.Changed.{changed}
use Rattle.exec_rules.specs.Calls.{away}
use Rattle.exec_rules.specs.World.{doing, is_server_at, with_held}
use Rattle.exec_entity.proofs.server.found.ByNumber+Server.take_task.Goals as goal

pub returns-clause-out : goal.returns-clause-out
returns-clause-out c = changed _ (is_server_at c.args.server) (with_held c.args.id (doing away)) c.args.self.now c.change.new.self c.change.result c.change.ensures (λ made entry now found p. search rules)
