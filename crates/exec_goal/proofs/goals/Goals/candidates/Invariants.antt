use Rattle.std.proofs.Common.{◌≡◌, ◌++◌, map, drop}
use Rattle.exec_goal.specs.Cancel.{candidates}
use Rattle.exec_goal.specs.Info.{info_of}
use Rattle.exec_goal.proofs.goals.Goals.candidates.Given as goal

abbrev pub invariant-loop-index : goal.invariant-loop-index
invariant-loop-index l = l.infos ++ map info_of (candidates l.request (drop l.index l.self)) ≡ map info_of (candidates l.request l.self)
