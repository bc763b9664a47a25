use Rattle.std.proofs.Common.{◌+◌, rules}
use Rattle.exec_entity.proofs.Changed.{changed_ok, on_transposed}
use Rattle.exec_rules.specs.World.{ActionClientEntry, is_action_client_at}
use Rattle.exec_entity.proofs.action_client.ByNumber+ActionClient.send_goal.Goals as goal

pub returns-clause-sent : goal.returns-clause-sent
returns-clause-sent c =
    on_transposed _ c.change.result c.transpose.result c.transpose.ensures
    (changed_ok _ (is_action_client_at c.args.client) (λ (entry : ActionClientEntry). record entry { goals = entry.goals + 1 }) c.args.self.now c.change.new.self c.change.result c.change.ensures (λ made entry now found p. search rules))
