use Rattle.std.proofs.Common.{◌≡◌, ◌≤◌, ◌==◌, length, ap, subst, ◌∙◌}
use Rattle.std.specs.Arc.{arc_value}
use Rattle.exec_lane.specs.Lane.{Lane}
use Rattle.exec_world.specs.inner.Buffers.{BufferState}
use Rattle.exec_lane.proofs.LanesKept.{kept_count, kept_within}
use Rattle.exec_lane.proofs.lane_box.LaneBox.is_finished.Goals as goal

pub returns-clause-value : goal.returns-clause-value
returns-clause-value c =
    let done : c.done.result ≡ length c.self.inside.buffer.value.did = c.done.ensures ∙ ap (λ (buffer : BufferState). length buffer.did) c.deref.ensures in
    let count : c.len.result ≡ length c.self.inside.buffer.value.places = c.len.ensures ∙ ap (λ (buffer : BufferState). length buffer.places) c.deref-2.ensures in
    (λ i. done i == (count ∙ kept_count (arc_value c.self.inside.list).items c.self.inside.first.value c.self.inside.buffer.value (length c.self.inside.buffer.value.did) c.self.invariant) i)
    ∙ ap (λ (lane : Lane). lane.done == length lane.entries) c.self.view_is

pub returns-clause-within : goal.returns-clause-within
returns-clause-within c =
    subst (λ (lane : Lane). lane.done ≤ length lane.entries) c.self.view_is
    (kept_within (arc_value c.self.inside.list).items c.self.inside.first.value c.self.inside.buffer.value (length c.self.inside.buffer.value.did) c.self.invariant)
