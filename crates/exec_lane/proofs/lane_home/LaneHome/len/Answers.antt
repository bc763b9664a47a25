use Rattle.std.proofs.Common.{List, length, ap, sym, ◌∙◌, arith}
use Rattle.std.specs.Arc.{arc_value}
use Rattle.exec_world.specs.inner.Buffers.{BufferState}
use Rattle.exec_lane.proofs.LanesKept.{as_many_places, ran_so_many}
use Rattle.exec_lane.specs.Gather.{Ran}
use Rattle.exec_lane.specs.inner.Buffered.{callbacks_at}
use Rattle.exec_lane.proofs.lane_home.LaneHome.len.Goals as goal

pub returns : goal.returns
returns c =
    let list = (arc_value c.self.inside.list).items in
    let buffer = c.self.inside.buffer.value in
    let within = c.self.invariant.1 in
    let many = as_many_places list buffer.places in
    c.done.ensures
    ∙ ap (λ (b : BufferState). length b.did) c.deref.ensures
    ∙ sym (ran_so_many (callbacks_at list buffer.places) buffer.did (omega (arith, within, many)))
    ∙ ap (λ (ran : List Ran). length ran) c.self.view_is
