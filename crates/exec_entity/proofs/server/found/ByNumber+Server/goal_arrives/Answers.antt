use Rattle.std.proofs.Common.{rules}
use Rattle.exec_entity.proofs.Changed.{changed}
use Rattle.exec_rules.specs.World.{arrived, is_server_at, with_held}
use Rattle.exec_entity.proofs.server.found.ByNumber+Server.goal_arrives.Goals as goal

pub returns : goal.returns
returns c = changed _ (is_server_at c.args.server) (with_held c.args.id (arrived c.args.number)) c.args.self.now c.change-changed.new.self c.change-changed.result c.change-changed.ensures (λ made entry now found p. search rules)
