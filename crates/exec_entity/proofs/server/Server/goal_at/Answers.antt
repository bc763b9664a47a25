use Rattle.std.proofs.Common.{List, map, slice_get, ap, sym, ◌∙◌, arith}
use Rattle.exec_goal.specs.Info.{info_of}
use Rattle.exec_goal.specs.Table.{GoalRecord}
use Rattle.exec_entity.proofs.Joined.{goals-now, length-now}
use Rattle.exec_entity.proofs.server.Server.goal_at.Goals as goal

pub at-requires : goal.at-requires
at-requires c = omega (arith, c.requires, length-now c.self.invariant.0 c.self.view_is)

pub returns : goal.returns
returns c = ap (λ (goals : List GoalRecord). slice_get (map info_of goals) c.args.index) (sym (goals-now c.self.invariant.0 c.self.view_is)) ∙ c.at.ensures
