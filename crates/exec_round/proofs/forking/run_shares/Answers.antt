use Rattle.std.proofs.Common.{◌<◌, length, get_or, map, ap, sym, subst, ◌∙◌}
use denote.Param.Send.{sendable}
use Rattle.std.proofs.Crossing.{crosses}
use Rattle.exec_lane.proofs.Crossing.{LaneBox-send}
use Rattle.exec_round.proofs.Dealing.{same_written}
use Rattle.exec_round.specs.inner.Running.{as_left, as_wanted}
use Rattle.exec_round.proofs.forking.run_shares.Goals as goal

pub returns-clause-run : goal.returns-clause-run
returns-clause-run g c =
    let whole = c.as_mut_slice.ensures.value in
    same_written (λ share. map as_left share.items) (λ share. map as_wanted share.items) c.args.shares.now.len c.args.shares.now.items c.for_each_mut.new.s c.args.shares.now.ok.0
    (c.for_each_mut.auto.s ∙ ap length whole)
    (λ i d within.
    let at = (c.for_each_mut.ensures i d (subst (λ all. i < length all) (sym whole) within)).1 in
    ap (λ share. map as_left share.items) (sym at.left) ∙ at.call ∙ ap (λ share. map as_wanted share.items) (at.argument_is ∙ ap (λ all. get_or all i d) whole))

pub for_each_mut-requires-send-T : goal.for_each_mut-requires-send-T
for_each_mut-requires-send-T g c κs = search (sendable, crosses, LaneBox-send) depth 20
