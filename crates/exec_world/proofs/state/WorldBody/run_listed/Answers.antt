use Rattle.std.proofs.Common.{ℕ, drop, map, take, ap, sym, ◌∙◌}
use Rattle.std.proofs.lemmas.Result.{on_ok_weaker}
use Rattle.exec_rules.specs.World.{WorldState}
use Rattle.exec_rules.specs.Transcript.{run_all}
use Rattle.exec_rules.specs.inner.Awake.{poll_at}
use Rattle.exec_rules.specs.inner.Listing.{with_script_of}
use Rattle.exec_world.proofs.InArrival.{ran_parts, ran_scripted, ran_sorted}
use Rattle.exec_world.proofs.state.WorldBody.run_listed.Goals as goal

pub returns-in-Kind : goal.returns-in-Kind
returns-in-Kind g c =
    let listed = c.list_arrivals.new.scratch in
    let under = sym (ap (λ (world : WorldState). world.order) c.self.view_is) ∙ sym c.order.ensures ∙ c.in-Kind.is in
    let graph = c.args.round.now.graph.now in
    let moment = c.args.round.now.moment in
    let before = ap (λ (n : ℕ). run_all (map (with_script_of graph) (drop n listed.list)) (run_all (map (poll_at moment) listed.goals.items)
    (run_all (map (with_script_of graph) (take n listed.list)) c.take_first.new.self))) c.in_ok-list_arrivals.ensures.before in
    on_ok_weaker c.run_parts.result
    (λ ran world have p. ran_scripted c.args.round.now.graph.now c.args.round.now.moment world c.args.self.now c.take_first.new.self c.run_parts.new.self c.args.scratch.now.list listed.list c.args.scratch.now.goals.items listed.goals.items
    c.args.scratch.now.before listed.arrivals.items have p c.take_first.ensures c.in_ok-list_arrivals.ensures.arrivals c.in_ok-list_arrivals.ensures.list c.in_ok-list_arrivals.ensures.goals
    (ran_parts c.args.round.now.graph.now c.args.round.now.moment c.args.scratch.now.before listed.list listed.goals.items listed.arrivals.items c.take_first.new.self c.run_parts.new.self under (ran ∙ before)))
    c.run_parts.ensures

pub returns-in-Arrival : goal.returns-in-Arrival
returns-in-Arrival g c =
    let listed = c.list_arrivals.new.scratch in
    let under = sym (ap (λ (world : WorldState). world.order) c.self.view_is) ∙ sym c.order.ensures ∙ c.in-Arrival.is in
    on_ok_weaker c.run_sorted.result
    (λ ran world have p. ran_scripted c.args.round.now.graph.now c.args.round.now.moment world c.args.self.now c.take_first.new.self c.run_sorted.new.self c.args.scratch.now.list listed.list c.args.scratch.now.goals.items listed.goals.items
    c.args.scratch.now.before listed.arrivals.items have p c.take_first.ensures c.in_ok-list_arrivals.ensures.arrivals c.in_ok-list_arrivals.ensures.list c.in_ok-list_arrivals.ensures.goals
    (ran_sorted c.args.round.now.graph.now c.args.round.now.moment c.args.scratch.now.before listed.list listed.goals.items listed.arrivals.items c.take_first.new.self c.run_sorted.new.self under ran))
    c.run_sorted.ensures
