use Rattle.std.proofs.Common.{◌-◌, List, drop, length, map, ap, arith, ◌∙◌}
use Rattle.std.proofs.lemmas.List.{length-drop, take_all}
use Rattle.exec_rules.specs.declared.listed.Listed.{Listed}
use Rattle.exec_rules.specs.inner.Listing.{with_script_of}
use Rattle.exec_world.proofs.Arranged.{parts_behind}
use Rattle.exec_world.specs.inner.Snapshots.{placed_behind}
use Rattle.exec_world.proofs.state.handing.in_parts.Goals as goal

pub returns : goal.returns
returns c =
    let list : List Listed = c.as_slice-list.result.now in
    let rest = take_all (length list - c.args.scratch.now.before) (drop c.args.scratch.now.before list) (omega (arith, length-drop c.args.scratch.now.before list)) in
    parts_behind c.args.round.now.graph.now c.args.round.now.moment c.args.scratch.now.before list c.args.scratch.now.list c.deref.result.now c.args.scratch.now.goals.items c.as_slice-list.ensures c.deref.ensures.value
    (c.in_ok-reserve.ensures.items ∙ c.new-all.ensures.items) c.in_ok-push_listed.ensures c.in_ok-push_polls.ensures
    (c.in_ok-push_listed-2.ensures ∙ ap (λ (some : List Listed). placed_behind c.push_polls.new.all.items (map (with_script_of c.args.round.now.graph.now) some)) rest)
