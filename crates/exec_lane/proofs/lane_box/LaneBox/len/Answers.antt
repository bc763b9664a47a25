use Rattle.std.proofs.Common.{◌≤◌, length, ap, subst, ◌∙◌}
use Rattle.std.specs.Arc.{arc_value}
use Rattle.exec_lane.specs.Lane.{Lane}
use Rattle.exec_world.specs.inner.Buffers.{BufferState}
use Rattle.exec_lane.proofs.LanesKept.{kept_count, kept_within}
use Rattle.exec_lane.proofs.lane_box.LaneBox.len.Goals as goal

pub returns-clause-value : goal.returns-clause-value
returns-clause-value c =
    c.len.ensures
    ∙ ap (λ (buffer : BufferState). length buffer.places) c.deref.ensures
    ∙ kept_count (arc_value c.self.inside.list).items c.self.inside.first.value c.self.inside.buffer.value (length c.self.inside.buffer.value.did) c.self.invariant
    ∙ ap (λ (lane : Lane). length lane.entries) c.self.view_is

pub returns-clause-within : goal.returns-clause-within
returns-clause-within c =
    subst (λ (lane : Lane). lane.done ≤ length lane.entries) c.self.view_is
    (kept_within (arc_value c.self.inside.list).items c.self.inside.first.value c.self.inside.buffer.value (length c.self.inside.buffer.value.did) c.self.invariant)
