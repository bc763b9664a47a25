use Rattle.std.proofs.Common.{◌≡◌, suc, [], ◌++◌, map, drop}
use Rattle.exec_plan.specs.Feeding.{feeds_from}
use Rattle.exec_plan.proofs.plan.feed_by_round.empty_rounds.Given as goal

abbrev pub invariant-loop : goal.invariant-loop
invariant-loop l = map (λ feed. feed.items) l.rounds.items ++ feeds_from (suc l.index) (drop l.index l.moments) [] ≡ feeds_from 1 l.moments []
