use Rattle.std.proofs.Common.{rules}
use Rattle.exec_entity.proofs.Changed.{changed}
use Rattle.exec_rules.specs.World.{doing, is_server_at, with_held, work_of}
use Rattle.exec_entity.proofs.server.found.ByNumber+Server.put_task.Goals as goal

pub returns : goal.returns
returns c = changed _ (is_server_at c.args.server) (with_held c.args.id (doing (work_of c.args.task))) c.args.self.now c.change-put.new.self c.change-put.result c.change-put.ensures (λ made entry now found p. search rules)
