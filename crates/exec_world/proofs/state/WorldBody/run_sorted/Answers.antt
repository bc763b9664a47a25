use Rattle.std.proofs.Common.{◌++◌, map, ◌∙◌}
use Rattle.std.proofs.lemmas.List.{take_all}
use Rattle.exec_rules.specs.inner.Awake.{poll_at}
use Rattle.exec_rules.specs.inner.Listing.{with_script_of}
use Rattle.exec_world.proofs.InArrival.{ran_next}
use Rattle.exec_world.specs.inner.Arrivals.{run_arrived}
use Rattle.exec_world.proofs.state.WorldBody.run_sorted.Goals as goal

pub loop-arrived-preserved : goal.loop-arrived-preserved
loop-arrived-preserved g c =
    ran_next _ c.args.self.now c.loop-arrived.self c.run_at.new.self c.deref-arrived-items.result.now c.loop-arrived.arrived-index
    c.in_ok-run_at.ensures c.loop-arrived.invariant c.loop-arrived-test.true

pub returns : goal.returns
returns g c =
    let all = take_all c.loop-arrived.arrived-index c.deref-arrived-items.result.now c.loop-arrived-test.false ∙ c.deref-arrived-items.ensures.value in
    c.loop-arrived.invariant
    ∙ (λ i. run_arrived (map (with_script_of c.args.round.now.graph.now) (c.as_slice.ensures i) ++ map (poll_at c.args.round.now.moment) (c.deref.ensures.value i)) c.args.self.now (all i))
