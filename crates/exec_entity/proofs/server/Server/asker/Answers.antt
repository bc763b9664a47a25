use Rattle.std.proofs.Common.{List, slice_get, ap, ◌∙◌}
use Rattle.exec_goal.specs.Calls.{askers_in}
use Rattle.exec_goal.specs.Table.{GoalRecord}
use Rattle.exec_entity.proofs.Joined.{goals-now}
use Rattle.exec_entity.proofs.server.Server.asker.Goals as goal

pub returns : goal.returns
returns c = c.asker.ensures ∙ ap (λ (goals : List GoalRecord). slice_get (askers_in c.args.id goals) c.args.index) (goals-now c.self.invariant.0 c.self.view_is)
