use Rattle.std.proofs.Common.{sym, ap, subst, ◌∙◌, arith}
use Rattle.std.specs.Slots.{slots_filled, slots_items}
use Rattle.exec_board.specs.inner.Homes.{AreBoxes}
use Rattle.exec_board.proofs.Closes.{boxes_next, emptied, never_none, still_full}
use Rattle.exec_board.proofs.board.take_boxes.Goals as goal

pub unreachable-requires : goal.unreachable-requires
unreachable-requires c =
    never_none (slots_items c.loop-lane.closed.slots) c.loop-lane.lane (subst AreBoxes (sym c.loop-lane.invariant.1) c.requires.slots.1) (c.take.ensures.value ∙ ap (λ slot. mathlib.Core.Option.some slot) c.in_default.is)

pub loop-lane-preserved : goal.loop-lane-preserved
loop-lane-preserved c =
    let held = c.loop-lane.invariant in
    let counted = c.slot_count.ensures in
    let under = c.loop-lane-test.true in
    let same = c.take.ensures.others.2 in
    let room = c.push_reserved.ensures.capacity in
    let within = held.4 in (
      boxes_next c.loop-lane.boxes.items c.push_reserved.new.self.items (slots_items c.loop-lane.closed.slots) (slots_items c.take.new.self.slots) c.loop-lane.lane c.in-Some.work c.take.result held.0 c.take.ensures.value c.in-Some.is c.push_reserved.ensures.items c.take.ensures.others.0,
      c.take.ensures.others.0 ∙ held.1,
      same ∙ held.2,
      omega (arith, under, counted, same),
      omega (arith, within, same, room),
      emptied (slots_filled c.loop-lane.closed.slots) (slots_filled c.take.new.self.slots) c.loop-lane.lane held.5 c.take.ensures.others.1,
      still_full (slots_filled c.loop-lane.closed.slots) (slots_filled c.take.new.self.slots) c.loop-lane.lane _ _ held.6 c.take.ensures.others.1 same,
    )
