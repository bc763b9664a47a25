use Rattle.std.proofs.Common.{◌≡◌, ◌<◌, length, ap, subst, sym, ◌∙◌, arith}
use Rattle.std.specs.Arc.{arc_value}
use Rattle.exec_lane.specs.Lane.{Lane}
use Rattle.exec_world.specs.inner.Buffers.{BufferState, run_next}
use Rattle.exec_lane.proofs.LanesKept.{kept_all, kept_count, kept_next}
use Rattle.exec_lane.specs.inner.Buffered.{nth_callback}
use Rattle.exec_lane.proofs.lane_box.LaneBox.run_next.Goals as goal

pub callback_of-one-requires-clause-places : goal.callback_of-one-requires-clause-places
callback_of-one-requires-clause-places g c =
    let lists : c.as_slice.result.now ≡ (arc_value c.self.inside.list).items = cc in
    kept_all (arc_value c.self.inside.list).items c.as_slice.result.now c.self.inside.first.value c.self.inside.buffer.value c.deref-2.result.now (length c.self.inside.buffer.value.did) c.self.invariant lists c.deref-2.ensures

pub callback_of-one-requires-clause-index : goal.callback_of-one-requires-clause-index
callback_of-one-requires-clause-index g c =
    let there = subst (λ (lane : Lane). lane.done < length lane.entries) (sym c.self.view_is) c.requires in
    let count = kept_count (arc_value c.self.inside.list).items c.self.inside.first.value c.self.inside.buffer.value (length c.self.inside.buffer.value.did) c.self.invariant in
    let places = ap (λ (buffer : BufferState). length buffer.places) c.deref-2.ensures in
    let done = c.done.ensures ∙ ap (λ (buffer : BufferState). length buffer.did) c.deref-3.ensures in
    omega (arith, there, count, places, done)

pub invariant_of-self : goal.invariant_of-self
invariant_of-self g c =
    let list = (arc_value c.self.inside.list).items in
    let buffer = c.self.inside.buffer.value in
    let there = subst (λ (lane : Lane). lane.done < length lane.entries) (sym c.self.view_is) c.requires in
    let lists : c.as_slice.result.now ≡ list = cc in
    let done : c.done.result ≡ length buffer.did = c.done.ensures ∙ ap (λ (b : BufferState). length b.did) c.deref-3.ensures in
    kept_next list c.self.inside.first.value buffer c.run.new.lane c.callback_of-one.result.now c.self.invariant
    (c.callback_of-one.ensures ∙ (λ i. nth_callback (lists i) (c.deref-2.ensures i).places (done i)))
    (c.in-Ok.ensures.ran ∙ ap (λ (b : BufferState). run_next c.callback_of-one.result.now b) c.deref_mut.ensures.value)
    there
