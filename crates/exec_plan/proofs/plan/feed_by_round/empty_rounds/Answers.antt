use Rattle.std.proofs.Common.{◌≡◌, ◌∙◌, Vec, List, [], ◌∷◌, ◌++◌, map, ap, sym, suc, drop, ◌+◌}
use Rattle.std.specs.declared.alloc.Global.{Global}
use Rattle.std.proofs.lemmas.List.{append-nil, map-append, drop_all}
use Rattle.exec_plan.specs.Feeding.{feeds_from}
use Rattle.exec_plan.specs.Plan.{Feed}
use Rattle.exec_plan.proofs.ByRound.{one_more_empty}
use Rattle.exec_plan.proofs.plan.feed_by_round.empty_rounds.Goals as goal

pub loop-preserved : goal.loop-preserved
loop-preserved c =
    let lists = map (λ (feed : Vec Feed Global). feed.items) c.loop.rounds.items in
    let added : map (λ (feed : Vec Feed Global). feed.items) c.push.new.self.items ≡ lists ++ [] ∷ [] =
    ap (map (λ (feed : Vec Feed Global). feed.items)) c.in_ok-push.ensures.items ∙ map-append (λ (feed : Vec Feed Global). feed.items) c.loop.rounds.items (c.new.result ∷ []) ∙ ap (λ (empty : List Feed). lists ++ empty ∷ []) c.new.ensures.items in
    ap (λ (lists : List (List Feed)). lists ++ feeds_from (suc (c.loop.index + 1)) (drop (c.loop.index + 1) c.args.moments.now) []) added
    ∙ one_more_empty lists c.loop.index c.args.moments.now (feeds_from 1 c.args.moments.now []) 0 c.loop-test.true c.loop.invariant

pub returns : goal.returns
returns c =
    let lists = map (λ (feed : Vec Feed Global). feed.items) c.loop.rounds.items in
    sym (append-nil lists)
    ∙ ap (λ rest. lists ++ feeds_from (suc c.loop.index) rest []) (sym (drop_all c.loop.index c.args.moments.now c.loop-test.false))
    ∙ c.loop.invariant
