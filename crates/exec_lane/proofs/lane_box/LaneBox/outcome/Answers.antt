use Rattle.std.proofs.Common.{◌≡◌, ◌<◌, List, length, map, ap, subst, sym, ◌∙◌, arith, Some}
use Rattle.std.specs.Arc.{arc_value}
use Rattle.exec_lane.specs.Lane.{Lane}
use Rattle.exec_world.specs.inner.Buffers.{BufferState}
use Rattle.std.specs.List.{slice_get}
use Rattle.exec_lane.proofs.LanesKept.{as_many_places, kept_all, kept_count, kept_ran, kept_within, outcome_at}
use Rattle.exec_lane.specs.Gather.{Ran, outcome_of, outcomes_in}
use Rattle.exec_lane.specs.inner.Buffered.{callbacks_at, nth_callback}
use Rattle.exec_lane.proofs.lane_box.LaneBox.outcome.Goals as goal

pub callback_of-requires-clause-places : goal.callback_of-requires-clause-places
callback_of-requires-clause-places c =
    let lists : c.as_slice.result.now ≡ (arc_value c.self.inside.list).items = cc in
    kept_all (arc_value c.self.inside.list).items c.as_slice.result.now c.self.inside.first.value c.self.inside.buffer.value c.deref-2.result.now (length c.self.inside.buffer.value.did) c.self.invariant lists c.deref-2.ensures

pub callback_of-requires-clause-index : goal.callback_of-requires-clause-index
callback_of-requires-clause-index c =
    let ran = subst (λ (lane : Lane). c.args.index < lane.done) (sym c.self.view_is) c.requires in
    let count = kept_count (arc_value c.self.inside.list).items c.self.inside.first.value c.self.inside.buffer.value (length c.self.inside.buffer.value.did) c.self.invariant in
    let within = kept_within (arc_value c.self.inside.list).items c.self.inside.first.value c.self.inside.buffer.value (length c.self.inside.buffer.value.did) c.self.invariant in
    let places = ap (λ (buffer : BufferState). length buffer.places) c.deref-2.ensures in
    omega (arith, ran, count, within, places)

pub did-requires : goal.did-requires
did-requires c =
    let ran = subst (λ (lane : Lane). c.args.index < lane.done) (sym c.self.view_is) c.requires in
    let same = ap (λ (buffer : BufferState). length buffer.did) c.deref-3.ensures in
    omega (arith, ran, same)

pub returns : goal.returns
returns c =
    let list = (arc_value c.self.inside.list).items in
    let buffer = c.self.inside.buffer.value in
    let ran = subst (λ (lane : Lane). c.args.index < lane.done) (sym c.self.view_is) c.requires in
    let count = kept_count list c.self.inside.first.value buffer (length buffer.did) c.self.invariant in
    let within = kept_within list c.self.inside.first.value buffer (length buffer.did) c.self.invariant in
    let many = as_many_places list buffer.places in
    let lists : c.as_slice.result.now ≡ list = cc in
    let buffers : c.deref-2.result.now ≡ buffer = c.deref-2.ensures in
    let one : nth_callback list buffer.places c.args.index ≡ c.callback_of.result.now = sym (c.callback_of.ensures ∙ (λ i. nth_callback (lists i) (buffers i).places c.args.index)) in
    let did : slice_get buffer.did c.args.index ≡ Some c.did.result.now = ap (λ (b : BufferState). slice_get b.did c.args.index) (sym c.deref-3.ensures) ∙ c.did.ensures in
    ap (λ (lane : Lane). slice_get (outcomes_in lane) c.args.index) (sym c.self.view_is)
    ∙ ap (λ (all : List Ran). slice_get (map outcome_of all) c.args.index) (sym (kept_ran list c.self.inside.first.value buffer (length buffer.did) c.self.invariant))
    ∙ outcome_at (callbacks_at list buffer.places) buffer.did c.args.index c.callback_of.result.now c.did.result.now (omega (arith, ran, count, within, many)) one did
    ∙ (λ i. Some (record { position = c.callback_of.result.now.position; effects = sym c.in_ok-of.ensures i }))
