use Rattle.std.proofs.Common.{◌≡◌, IfOk, List, map, subst}
use Rattle.exec_goal.specs.Cancel.{candidates}
use Rattle.exec_goal.specs.Info.{info_of}
use Rattle.exec_goal.specs.Table.{GoalRecord}
use Rattle.exec_entity.proofs.Joined.{goals-now}
use Rattle.exec_entity.proofs.server.Server.candidates.Goals as goal

pub returns : goal.returns
returns c = subst (λ (goals : List GoalRecord). IfOk c.candidates.result (λ infos. infos ≡ map info_of (candidates c.args.request.now goals))) (goals-now c.self.invariant.0 c.self.view_is) c.candidates.ensures
