use Rattle.std.proofs.Common.{◌≡◌, ◌<◌, List, length, ap, subst, sym, ◌∙◌, arith}
use Rattle.std.specs.Arc.{arc_value}
use Rattle.exec_world.specs.inner.Buffers.{BufferState}
use Rattle.exec_lane.proofs.LanesKept.{as_many_places, ran_ready, ran_so_many}
use Rattle.exec_lane.specs.Gather.{Ran}
use Rattle.exec_lane.specs.inner.Buffered.{callbacks_at, nth_callback}
use Rattle.exec_lane.specs.inner.Spots.{ran_at}
use Rattle.exec_lane.proofs.lane_home.LaneHome.ready.Goals as goal

pub callback_of-requires-clause-index : goal.callback_of-requires-clause-index
callback_of-requires-clause-index c =
    let list = (arc_value c.self.inside.list).items in
    let buffer = c.self.inside.buffer.value in
    let few = c.self.invariant.1 in
    let many = as_many_places list buffer.places in
    let all = ran_so_many (callbacks_at list buffer.places) buffer.did (omega (arith, few, many)) in
    let within = subst (λ (ran : List Ran). c.args.index < length ran) (sym c.self.view_is) c.requires in
    let same = ap (λ (b : BufferState). length b.places) c.deref-2.ensures in
    omega (arith, few, all, within, same)

pub returns : goal.returns
returns c =
    let list = (arc_value c.self.inside.list).items in
    let buffer = c.self.inside.buffer.value in
    let within = subst (λ (ran : List Ran). c.args.index < length ran) (sym c.self.view_is) c.requires in
    let lists : c.as_slice.result.now ≡ list = cc in
    c.callback_of.ensures
    ∙ (λ i. nth_callback (lists i) (c.deref-2.ensures i).places c.args.index)
    ∙ ran_ready (callbacks_at list buffer.places) buffer.did c.args.index within
    ∙ ap (λ (ran : List Ran). (ran_at ran c.args.index).ready) c.self.view_is
