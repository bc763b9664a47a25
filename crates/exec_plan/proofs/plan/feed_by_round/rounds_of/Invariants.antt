use Rattle.std.proofs.Common.{◌≡◌, map, take}
use Rattle.exec_plan.specs.Feeding.{feeds_from}
use Rattle.exec_plan.proofs.plan.feed_by_round.rounds_of.Given as goal

abbrev pub invariant-loop-entry : goal.invariant-loop-entry
invariant-loop-entry l = map (λ feed. feed.items) l.rounds.items ≡ feeds_from 1 l.moments (take l.entry-index l.feed)
