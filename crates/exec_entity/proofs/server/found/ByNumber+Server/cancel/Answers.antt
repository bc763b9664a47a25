use Rattle.std.proofs.Common.{rules, sym, ap}
use Rattle.std.specs.Option.{unwrap_or}
use Rattle.exec_entity.proofs.Changed.{changed-none, changed_ok, on_unwrapped}
use Rattle.exec_goal.specs.Cancel.{table_after}
use Rattle.exec_rules.specs.World.{is_server_at, with_goals}
use Rattle.exec_entity.proofs.server.found.ByNumber+Server.cancel.Goals as goal

pub returns-in-Some-clause-table : goal.returns-in-Some-clause-table
returns-in-Some-clause-table c =
    on_unwrapped _ c.change.result c.in-Some.answer c.in-Some.answer (sym (ap (λ told. unwrap_or told c.in-Some.answer) c.in-Some.is))
    (changed_ok _ (is_server_at c.args.server) (with_goals (table_after c.args.decisions.now)) c.args.self.now c.change.new.self c.change.result c.change.ensures (λ made entry now found p. search rules))

pub returns-in_ok-answer-in-None-clause-table : goal.returns-in_ok-answer-in-None-clause-table
returns-in_ok-answer-in-None-clause-table c = changed-none _ (is_server_at c.args.server) (with_goals (table_after c.args.decisions.now)) c.args.self.now c.change.new.self c.change.result c.change.ensures c.in-None.is
