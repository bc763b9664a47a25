use Rattle.std.proofs.Common.{◌-◌, List, length, map, refl, sym, ap, arith, ◌∙◌}
use Rattle.std.proofs.lemmas.List.{append-nil}
use Rattle.std.proofs.lemmas.Result.{on_ok_weaker}
use Rattle.exec_rules.specs.declared.listed.Listed.{Listed}
use Rattle.exec_rules.specs.declared.ready.AwakeGoal.{AwakeGoal}
use Rattle.exec_rules.specs.inner.Listing.{with_script_of}
use Rattle.exec_world.proofs.Arranged.{behind_there, listed_there, none_there}
use Rattle.exec_world.specs.inner.Arrivals.{callback_at}
use Rattle.exec_world.specs.inner.Snapshots.{placed_behind, scripted_poll, with_polls}
use Rattle.exec_world.proofs.state.handing.push_at.Goals as goal

pub returns-then-place-list : goal.returns-then-place-list
returns-then-place-list c =
    let goals : List AwakeGoal = c.args.scratch.now.goals.items in
    on_ok_weaker c.push_listed.result
    (λ is. is
    ∙ ap (placed_behind c.args.all.now.items)
    (listed_there (with_script_of c.args.round.now.graph.now) c.as_slice-list.result.now (map (scripted_poll c.args.round.now.graph.now c.args.round.now.moment) goals) c.args.place c.if-place-list.true
    ∙ ap (λ (list : List Listed). callback_at (with_polls c.args.round.now.graph.now c.args.round.now.moment list goals) c.args.place) c.as_slice-list.ensures))
    c.push_listed.ensures

pub returns-then-at-goals : goal.returns-then-at-goals
returns-then-at-goals c =
    let list : List Listed = c.as_slice-list.result.now in
    on_ok_weaker c.push_polls.result
    (λ is. is
    ∙ ap (placed_behind c.args.all.now.items)
    (behind_there (with_script_of c.args.round.now.graph.now) (scripted_poll c.args.round.now.graph.now c.args.round.now.moment) list c.as_slice-goals.result.now c.args.place (c.args.place - length list) refl (omega (arith, c.if-place-list.false))
    c.if-at-goals.true
    ∙ (λ i. callback_at (with_polls c.args.round.now.graph.now c.args.round.now.moment (c.as_slice-list.ensures i) (c.as_slice-goals.ensures.value i)) c.args.place)))
    c.push_polls.ensures

pub returns : goal.returns
returns c =
    let list : List Listed = c.as_slice-list.result.now in
    let goals : List AwakeGoal = c.as_slice-goals.result.now in
    sym (append-nil c.args.all.now.items)
    ∙ ap (placed_behind c.args.all.now.items)
    (none_there (with_script_of c.args.round.now.graph.now) (scripted_poll c.args.round.now.graph.now c.args.round.now.moment) list goals c.args.place (c.args.place - length list) refl (omega (arith, c.if-place-list.false)) (omega (arith, c.if-at-goals.false))
    ∙ (λ i. callback_at (with_polls c.args.round.now.graph.now c.args.round.now.moment (c.as_slice-list.ensures i) (c.as_slice-goals.ensures.value i)) c.args.place))
