use Rattle.std.proofs.Common.{sym, ◌∙◌, arith}
use Rattle.exec_round.proofs.Dealing.{deals_next}
use Rattle.exec_round.specs.inner.Shares.{dealt}
use Rattle.exec_round.proofs.forking.deal.Goals as goal

pub loop-lane-preserved : goal.loop-lane-preserved
loop-lane-preserved c =
    let on = c.loop-lane.invariant in
    let long = c.loop-lane.shares.ok.0 in (
      deals_next (λ share. share.items) c.args.count c.loop-lane.number c.loop-lane.lanes.items c.pop.new.self.items c.in-Some.lane c.loop-lane.shares.items c.index_mut.result.now c.push-in-Some.new.self (dealt c.args.count c.args.lanes.items)
          c.requires (sym long ∙ on.1) c.in-Some.ensures.items c.index_mut.ensures.value c.in_ok-push-2.ensures.items on.0,
      on.1,
      (let less = c.in-Some.ensures.len in let room = on.2 in omega (arith, less, room)),
    )
