use Rattle.std.proofs.Common.{List, map, ap, ◌∙◌}
use Rattle.exec_goal.specs.Cancel.{code_of, moved, table_after}
use Rattle.exec_goal.specs.Table.{GoalRecord}
use Rattle.exec_rules.proofs.Keeping.{ids_answered}
use Rattle.exec_entity.proofs.Joined.{goals-now, put-now}
use Rattle.exec_entity.proofs.Serving.{kept-answered}
use Rattle.exec_entity.specs.inner.Server.{all_kept}
use Rattle.exec_entity.proofs.server.Server.cancel.Goals as goal

pub invariant_of-self-2 : goal.invariant_of-self-2
invariant_of-self-2 c = (rw c.in_ok-answer.ensures.table (kept-answered c.args.decisions.now c.self.inside.goals (all_kept c.self.inside.held.entries) c.self.invariant.0), c.self.invariant.1)

pub returns-clause-code : goal.returns-clause-code
returns-clause-code c = c.in_ok-answer.ensures.code ∙ ap (code_of c.args.request.now c.args.decisions.now) (goals-now c.self.invariant.0 c.self.view_is)

pub returns-clause-moved : goal.returns-clause-moved
returns-clause-moved c = c.in_ok-answer.ensures.moved ∙ ap (λ (goals : List GoalRecord). map (λ goal. goal.id) (moved c.args.decisions.now goals)) (goals-now c.self.invariant.0 c.self.view_is)

pub returns-clause-table : goal.returns-clause-table
returns-clause-table c = put-now c.self.invariant.0 c.self.view_is (table_after c.args.decisions.now) (ids_answered c.args.decisions.now c.self.inside.goals) c.answer.new.self c.in_ok-answer.ensures.table
