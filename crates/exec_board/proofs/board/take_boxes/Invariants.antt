use Rattle.std.proofs.Common.{◌≡◌, ◌<◌, ◌≤◌, ◌-◌, ℕ, map, take, Some, true, false, slice_index_or, vec_capacity}
use Rattle.std.specs.Slots.{slots_filled, slots_items, slots_len}
use Rattle.exec_board.proofs.board.take_boxes.Given as goal

-- the boxes of the slots so far, which are empty, and the others are full
abbrev pub invariant-loop-lane : goal.invariant-loop-lane
invariant-loop-lane l =
    (map (λ lane. Some lane) l.boxes.items ≡ take l.lane (slots_items l.closed.slots))
    × (slots_items l.closed.slots ≡ slots_items l.fn.closed.slots)
    × (slots_len l.closed.slots ≡ slots_len l.fn.closed.slots)
    × (l.lane ≤ slots_len l.closed.slots)
    × (slots_len l.closed.slots ≤ vec_capacity l.boxes)
    × ((k : ℕ) → k < l.lane → slice_index_or (slots_filled l.closed.slots) k false ≡ false)
    × ((k : ℕ) → l.lane ≤ k → k < slots_len l.closed.slots → slice_index_or (slots_filled l.closed.slots) k false ≡ true)

abbrev pub decreases-loop-lane : goal.decreases-loop-lane
decreases-loop-lane l = slots_len l.closed.slots - l.lane
