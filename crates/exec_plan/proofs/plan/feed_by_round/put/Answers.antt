use Rattle.std.proofs.Common.{◌∙◌, [], ◌∷◌, ◌++◌, map, set, ap, sym}
use Rattle.std.proofs.lemmas.List.{map-set, get_or-map}
use Rattle.exec_plan.proofs.plan.feed_by_round.put.Goals as goal

pub returns : goal.returns
returns g c =
    let lists = map (λ list. list.items) c.args.lists.now.items in
    map-set (λ list. list.items) c.args.lists.now.items c.args.place c.push.new.self
    ∙ ap (λ list. set lists c.args.place list)
    (c.in_ok-push.ensures.items
    ∙ ap (λ list. list ++ c.args.item.now ∷ [])
    (ap (λ list. list.items) c.index_mut.ensures.value ∙ sym (get_or-map (λ list. list.items) c.args.lists.now.items c.args.place c.index_mut.result.now [] c.requires)))
