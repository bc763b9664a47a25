use Rattle.std.proofs.Common.{rules}
use Rattle.exec_entity.proofs.Changed.{changed_if}
use Rattle.exec_goal.specs.Table.{after_end, has_id}
use Rattle.exec_msg.specs.Lists.{change_first}
use Rattle.exec_rules.specs.World.{is_server_at, with_goals}
use Rattle.exec_entity.proofs.server.found.ByNumber+Server.end.Goals as goal

pub returns-clause-ended : goal.returns-clause-ended
returns-clause-ended c =
    (changed_if _ (is_server_at c.args.server) (with_goals (change_first (has_id c.args.id) (after_end c.args.event c.args.value c.args.moment))) c.args.self.now c.change.new.self c.change.result c.flatten.result c.change.ensures c.flatten.ensures
    (λ made entry now found p. search rules)).0

pub returns-clause-unchanged : goal.returns-clause-unchanged
returns-clause-unchanged c =
    (changed_if _ (is_server_at c.args.server) (with_goals (change_first (has_id c.args.id) (after_end c.args.event c.args.value c.args.moment))) c.args.self.now c.change.new.self c.change.result c.flatten.result c.change.ensures c.flatten.ensures
    (λ made entry now found p. search rules)).1
