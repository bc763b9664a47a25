-- Boxes that are at home.
use Rattle.std.specs.Prelude.{⊤, ℕ, ◌≤◌, List, [], ◌∷◌, length, Option, None, Some, if◌then◌else◌, ◌==◌}
use Rattle.exec_lane.specs.Lane.{Lane}
use Rattle.exec_board.specs.declared.rule.TheConstants.{FINISHED, OPEN}

-- a lane's word while its box is at home
abbrev pub word_at : Lane → ℕ
word_at lane = if lane.done == length lane.entries then FINISHED else OPEN

-- no lane has run more callbacks than it has
abbrev pub AreWithin : List Lane → Type 0
AreWithin [] = ⊤
AreWithin (lane ∷ lanes) = (lane.done ≤ length lane.entries) × AreWithin lanes

-- each slot has a box
abbrev pub AreBoxes : List (Option Lane) → Type 0
AreBoxes [] = ⊤
AreBoxes (None ∷ slots) = ⊥
AreBoxes (Some lane ∷ slots) = AreBoxes slots
