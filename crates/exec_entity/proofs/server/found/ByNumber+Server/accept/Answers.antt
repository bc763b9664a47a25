use Rattle.std.proofs.Common.{rules}
use Rattle.exec_entity.proofs.Changed.{changed_ok, on_unwrapped}
use Rattle.exec_rules.specs.Close.{server_accepting}
use Rattle.exec_rules.specs.World.{is_server_at}
use Rattle.exec_entity.proofs.server.found.ByNumber+Server.accept.Goals as goal

pub returns : goal.returns
returns c =
    on_unwrapped _ c.change.result _ c.unwrap_or.result c.unwrap_or.ensures
    (changed_ok _ (is_server_at c.args.server) (server_accepting c.args.number c.args.moment c.args.how c.args.request.now) c.args.self.now c.change.new.self c.change.result c.change.ensures (λ made entry now found p. search rules))
