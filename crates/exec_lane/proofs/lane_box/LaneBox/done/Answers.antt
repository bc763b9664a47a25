use Rattle.std.proofs.Common.{◌≤◌, length, subst}
use Rattle.std.specs.Arc.{arc_value}
use Rattle.exec_lane.specs.Lane.{Lane}
use Rattle.exec_lane.proofs.LanesKept.{kept_within}
use Rattle.exec_lane.proofs.lane_box.LaneBox.done.Goals as goal

pub returns-clause-within : goal.returns-clause-within
returns-clause-within c =
    subst (λ (lane : Lane). lane.done ≤ length lane.entries) c.self.view_is
    (kept_within (arc_value c.self.inside.list).items c.self.inside.first.value c.self.inside.buffer.value (length c.self.inside.buffer.value.did) c.self.invariant)
