use Rattle.std.proofs.Common.{Vec, ap, sym, ◌∙◌}
use Rattle.exec_rules.specs.Ready.{placed_from}
use Rattle.exec_rules.specs.World.{WorldState}
use Rattle.exec_world.proofs.Arranged.{handed_by_arrival, handed_by_kind}
use Rattle.exec_world.specs.inner.Arrivals.{callbacks_at}
use Rattle.exec_world.specs.inner.Snapshots.{in_parts, with_polls}
use Rattle.exec_world.proofs.state.WorldBody.hand_out.Goals as goal
use Rattle.exec_world.proofs.state.WorldBody.hand_out.Goals.{in-Kind+in_ok-list-in-Kind, in-Arrival+in_ok-list-in-Arrival}

pub returns-clause-list : goal.returns-clause-list
returns-clause-list g c = λ world have p.
    let under = sym (ap (λ (held : WorldState). held.order) c.self.view_is) ∙ sym c.order.ensures in
    let same = c.in_ok-list_arrivals.ensures in
    let arrivals = c.list_arrivals.new.scratch.arrivals.items in
    elim c.match-order.branch [
      | in-Kind+in_ok-list-in-Kind w ↦
          ap (λ (list : Vec _ _). list.items) w.list-is
          ∙ w.in_ok-list-in-Kind.ensures
          ∙ (λ i. in_parts c.args.round.now.graph.now c.args.round.now.moment (same.before i) (same.list i) (same.goals i))
          ∙ handed_by_kind c.args.round.now.graph.now c.args.round.now.moment world c.args.scratch.now.before c.args.self.now c.args.scratch.now.list c.args.scratch.now.goals.items have p (under ∙ w.in-Kind.is)
      | in-Arrival+in_ok-list-in-Arrival w ↦
          ap (λ (list : Vec _ _). list.items) w.list-is
          ∙ w.in_ok-list-in-Arrival.ensures
          ∙ (λ i. placed_from 1 (callbacks_at (with_polls c.args.round.now.graph.now c.args.round.now.moment (same.list i) (same.goals i)) arrivals))
          ∙ handed_by_arrival c.args.round.now.graph.now c.args.round.now.moment world c.args.scratch.now.before c.args.self.now c.args.scratch.now.list c.args.scratch.now.goals.items have p arrivals (under ∙ w.in-Arrival.is) (same.arrivals c.args.round.now.graph.now)
    ]
