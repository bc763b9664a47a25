use Rattle.std.proofs.Common.{rules}
use Rattle.exec_entity.proofs.Changed.{changed_ok, on_transposed}
use Rattle.exec_rules.specs.World.{client_called, is_client_at}
use Rattle.exec_entity.proofs.client.ByNumber+Client.call.Goals as goal

pub returns-clause-called : goal.returns-clause-called
returns-clause-called c =
    on_transposed _ c.change.result c.transpose.result c.transpose.ensures
    (changed_ok _ (is_client_at c.args.client) client_called c.args.self.now c.change.new.self c.change.result c.change.ensures (λ made entry now found p. search rules))
