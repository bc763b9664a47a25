use Rattle.std.proofs.Common.{List, ap, sym, ◌∙◌}
use Rattle.exec_goal.proofs.Entries.{on_err}
use Rattle.exec_goal.specs.Calls.{after_asking}
use Rattle.exec_goal.specs.Info.{answer_of}
use Rattle.exec_goal.specs.Table.{GoalRecord, asked_for}
use Rattle.exec_entity.proofs.Joined.{goals-now, put-now}
use Rattle.exec_entity.proofs.Serving.{kept-asked, noted-ids}
use Rattle.exec_entity.specs.inner.Server.{all_kept}
use Rattle.exec_entity.proofs.server.Server.ask.Goals as goal

pub invariant_of-self-2 : goal.invariant_of-self-2
invariant_of-self-2 c = (rw c.in_ok-told.ensures.noted (kept-asked c.args.id c.args.client c.self.inside.goals (all_kept c.self.inside.held.entries) c.self.invariant.0), c.self.invariant.1)

pub returns-in_err-told-clause-memory : goal.returns-in_err-told-clause-memory
returns-in_err-told-clause-memory c = on_err c.from_residual.result (ap (asked_for c.args.id) (sym (goals-now c.self.invariant.0 c.self.view_is)) ∙ c.in_err-told.ensures.memory)

pub returns-clause-told : goal.returns-clause-told
returns-clause-told c = c.in_ok-told.ensures.told ∙ ap (λ (goals : List GoalRecord). answer_of (asked_for c.args.id goals)) (goals-now c.self.invariant.0 c.self.view_is)

pub returns-clause-noted : goal.returns-clause-noted
returns-clause-noted c =
    put-now c.self.invariant.0 c.self.view_is (after_asking c.args.id c.args.client) (noted-ids (asked_for c.args.id c.self.inside.goals) c.args.id c.args.client c.self.inside.goals) c.ask_result.new.self c.in_ok-told.ensures.noted
