use Rattle.std.proofs.Common.{◌<◌, List, length, ap, subst, sym, ◌∙◌, arith}
use Rattle.std.specs.Arc.{arc_value}
use Rattle.exec_world.specs.inner.Buffers.{BufferState}
use Rattle.std.specs.List.{slice_get}
use Rattle.exec_lane.proofs.LanesKept.{as_many_places, ran_effects, ran_so_many}
use Rattle.exec_lane.specs.Gather.{Ran}
use Rattle.exec_lane.specs.inner.Buffered.{callbacks_at}
use Rattle.exec_lane.specs.inner.Spots.{ran_at}
use Rattle.exec_lane.proofs.lane_home.LaneHome.effects.Goals as goal

pub did-requires : goal.did-requires
did-requires c =
    let list = (arc_value c.self.inside.list).items in
    let buffer = c.self.inside.buffer.value in
    let few = c.self.invariant.1 in
    let many = as_many_places list buffer.places in
    let all = ran_so_many (callbacks_at list buffer.places) buffer.did (omega (arith, few, many)) in
    let within = subst (λ (ran : List Ran). c.args.index < length ran) (sym c.self.view_is) c.requires in
    let same = ap (λ (b : BufferState). length b.did) c.deref.ensures in
    omega (arith, all, within, same)

pub returns : goal.returns
returns c =
    let list = (arc_value c.self.inside.list).items in
    let buffer = c.self.inside.buffer.value in
    let within = subst (λ (ran : List Ran). c.args.index < length ran) (sym c.self.view_is) c.requires in
    ran_effects (callbacks_at list buffer.places) buffer.did c.args.index c.did.result.now within
    (ap (λ (b : BufferState). slice_get b.did c.args.index) (sym c.deref.ensures) ∙ c.did.ensures)
    ∙ ap (λ (ran : List Ran). (ran_at ran c.args.index).effects) c.self.view_is
