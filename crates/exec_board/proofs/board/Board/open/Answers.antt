use Rattle.std.proofs.Common.{◌≡◌, List, Some, map, refl, sym, ap, subst, ◌∙◌}
use Rattle.exec_lane.specs.Lane.{Lane}
use Rattle.exec_board.specs.inner.Homes.{AreWithin, word_at}
use Rattle.exec_board.proofs.Begins.{begins}
use Rattle.exec_board.proofs.board.Board.open.Goals as goal

pub new-requires : goal.new-requires
new-requires c =
    let boxes : c.of.result.value.items ≡ c.args.boxes.items = ap (λ v. v.items) c.of.ensures in
    let slice : c.as_slice.result.now ≡ c.of.result.value.items = c.as_slice.ensures.value ∙ sym boxes in
    begins c.of.result.value.items c.args.passes c.as_slice-2.result.now c.in_ok-slots.slots.items c.requires.passes (subst AreWithin slice (c.in_ok-words.ensures.within refl))
    (c.as_slice-2.ensures.value ∙ c.in_ok-words.ensures.words ∙ ap (λ (bs : List Lane). map word_at bs) slice)
    (c.in_ok-slots.ensures ∙ ap (λ (bs : List Lane). map (λ (box : Lane). Some box) bs) (sym boxes))
