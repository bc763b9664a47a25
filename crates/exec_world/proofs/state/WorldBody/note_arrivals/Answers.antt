use Rattle.std.proofs.Common.{List, take, ap, sym, ◌∙◌}
use Rattle.std.specs.List.{fold}
use Rattle.std.proofs.lemmas.List.{take_all}
use Rattle.std.proofs.lemmas.List.Sums.{fold_more}
use Rattle.exec_rules.specs.Ready.{arrival_for}
use Rattle.exec_rules.specs.declared.listed.Listed.{Listed}
use Rattle.exec_world.specs.declared.arrived.Arrived.{Arrived}
use Rattle.exec_world.specs.inner.Arrivals.{with_arrived}
use Rattle.exec_world.proofs.state.WorldBody.note_arrivals.Goals as goal

pub loop-one-preserved : goal.loop-one-preserved
loop-one-preserved g c =
    let step = λ (so_far : List Arrived) (one : Listed). with_arrived so_far (arrival_for one.ready.entity one.ready.cause c.args.self.now) in
    let before : List Arrived = fold step c.args.arrivals.now.items (take c.loop-one.one-index c.args.list.now) in
    c.in_ok-note_arrival.ensures
    ∙ ap (with_arrived c.loop-one.arrivals.items) c.arrival.ensures
    ∙ ap (λ (so_far : List Arrived). step so_far c.one-item.result) c.loop-one.invariant
    ∙ ap (step before) c.one-item.is
    ∙ sym (fold_more step c.args.arrivals.now.items c.args.list.now c.loop-one.one-index c.one-item.result c.loop-one-test.true)

pub returns : goal.returns
returns g c =
    let step = λ (so_far : List Arrived) (one : Listed). with_arrived so_far (arrival_for one.ready.entity one.ready.cause c.args.self.now) in
    c.loop-one.invariant
    ∙ ap (λ (all : List Listed). fold step c.args.arrivals.now.items all) (take_all c.loop-one.one-index c.args.list.now c.loop-one-test.false)
