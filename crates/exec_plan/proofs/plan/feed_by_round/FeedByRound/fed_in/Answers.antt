use Rattle.std.proofs.Common.{◌≡◌, ◌∙◌, List, Vec, ap, sym, map, length, true}
use Rattle.std.specs.declared.alloc.Global.{Global}
use Rattle.exec_plan.specs.Feeding.{feeds_by_round}
use Rattle.exec_plan.specs.Entity.{is_from_1}
use Rattle.exec_plan.specs.Plan.{Feed}
use Rattle.exec_plan.proofs.ByRound.{entries_at}
use Rattle.exec_plan.proofs.plan.feed_by_round.FeedByRound.fed_in.Goals as goal

pub returns : goal.returns
returns c = λ plan same.
    let rounds = c.as_slice-rounds.result.now in
    let are : map (λ feed. feed.items) rounds ≡ feeds_by_round plan = ap (λ (rounds : List (Vec Feed Global)). map (λ feed. feed.items) rounds) c.as_slice-rounds.ensures.value ∙ c.self.view_is ∙ same in
    let is : is_from_1 (length (feeds_by_round plan)) c.args.round ≡ true = ap (λ (index : List (List Feed)). is_from_1 (length index) c.args.round) (sym same) ∙ c.requires in
    c.as_slice.ensures.value ∙ entries_at rounds plan c.args.round are is c.index-rounds-round.result c.index-rounds-round.is
