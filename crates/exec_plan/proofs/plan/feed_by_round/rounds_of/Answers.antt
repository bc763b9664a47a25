use Rattle.std.proofs.Common.{◌≡◌, ◌∙◌, ◌-◌, ◌+◌, Vec, List, [], ◌∷◌, ◌++◌, length, set, get_or, take, ap, sym, subst, IsTrue, arith}
use Rattle.std.specs.declared.alloc.Global.{Global}
use Rattle.std.proofs.lemmas.List.{length-map, take_more}
use Rattle.exec_plan.specs.Feeding.{feeds_from}
use Rattle.exec_plan.specs.Entity.{is_from_1}
use Rattle.exec_plan.specs.Plan.{Feed}
use Rattle.exec_plan.proofs.ByRound.{as_many_rounds, is_round, put_in}
use Rattle.exec_plan.proofs.plan.feed_by_round.rounds_of.Goals as goal

pub put-requires : goal.put-requires
put-requires c =
    let feed = c.args.feed.now in
    let entry : Feed = c.entry-item.result in
    let within = is_round (length c.args.moments.now) entry.round
    (subst (λ (entry : Feed). IsTrue (is_from_1 (length c.args.moments.now) entry.round)) (sym c.entry-item.is) (c.requires c.loop-entry.entry-index entry c.loop-entry-test.true)) in
    let many = sym (length-map c.loop-entry.rounds.items (λ (feed : Vec Feed Global). feed.items)) ∙ ap (λ (feeds : List (List Feed)). length feeds) c.loop-entry.invariant ∙ as_many_rounds 1 c.args.moments.now (take c.loop-entry.entry-index feed) in
    omega (arith, within.first, within.last, many)

pub loop-entry-preserved : goal.loop-entry-preserved
loop-entry-preserved c =
    let feed = c.args.feed.now in
    let entry : Feed = c.entry-item.result in
    let index = c.loop-entry.entry-index in
    let before = take index feed in
    let place = entry.round - 1 in
    let within = is_round (length c.args.moments.now) entry.round
    (subst (λ (entry : Feed). IsTrue (is_from_1 (length c.args.moments.now) entry.round)) (sym c.entry-item.is) (c.requires index entry c.loop-entry-test.true)) in
    let more : take (index + 1) feed ≡ before ++ entry ∷ [] = take_more feed index entry c.loop-entry-test.true ∙ ap (λ (one : Feed). before ++ one ∷ []) (sym c.entry-item.is) in
    c.in_ok-put.ensures
    ∙ ap (λ (lists : List (List Feed)). set lists place (get_or lists place [] ++ entry ∷ [])) c.loop-entry.invariant
    ∙ sym (put_in 1 place c.args.moments.now before entry (omega (arith, within.first)) (omega (arith, within.first, within.last)))
    ∙ ap (feeds_from 1 c.args.moments.now) (sym more)
