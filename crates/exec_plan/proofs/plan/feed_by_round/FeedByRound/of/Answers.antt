use Rattle.std.proofs.Common.{ℕ, List, ◌∙◌, ap, length}
use Rattle.exec_plan.specs.Plan.{Feed}
use Rattle.exec_plan.proofs.ByRound.{as_many_rounds}
use Rattle.exec_plan.proofs.plan.feed_by_round.FeedByRound.of.Goals as goal

pub returns-clause-rounds : goal.returns-clause-rounds
returns-clause-rounds c =
    ap (λ (rounds : List (List Feed)). length rounds) c.in_ok-rounds.ensures
    ∙ as_many_rounds 1 c.moments.result.now c.feed.result.now
    ∙ ap (λ (moments : List ℕ). length moments) c.moments.ensures
