use Rattle.std.proofs.Common.{◌≡◌, ◌++◌, map, drop}
use Rattle.std.specs.List.{filter}
use Rattle.exec_goal.specs.inner.Ids.{is_among}
use Rattle.exec_goal.specs.Cancel.{moves_by}
use Rattle.exec_goal.proofs.goals.Goals.moving_ids.Given as goal

abbrev pub invariant-loop-index : goal.invariant-loop-index
invariant-loop-index l = l.ids ++ map (λ goal. goal.id) (filter (moves_by (is_among l.accepted)) (drop l.index l.self)) ≡ map (λ goal. goal.id) (filter (moves_by (is_among l.accepted)) l.self)
