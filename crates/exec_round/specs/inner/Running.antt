-- Lanes of which callbacks run.
use Rattle.std.specs.Prelude.{◌≡◌, List, length, map, Bool, false, true, ◌||◌, ◌==◌}
use Rattle.std.specs.List.{list_all}
use Rattle.exec_lane.specs.Lane.{Lane}

-- a lane as it was opened
abbrev pub opening_of : Lane → Lane
opening_of lane = record lane { done = 0; failed = false }

abbrev pub openings_of : List Lane → List Lane
openings_of lanes = map opening_of lanes

-- whether all callbacks of a lane ran
abbrev pub is_done : Lane → Bool
is_done lane = lane.done == length lane.entries

abbrev pub are_done : List Lane → Bool
are_done lanes = list_all is_done lanes

-- whether a lane was run to its end: all its callbacks ran, or one was refused memory
abbrev pub is_run : Lane → Bool
is_run lane = is_done lane || lane.failed

-- what a lane was opened with, and whether it was run to its end
abbrev pub as_left : Lane → Lane × Bool
as_left lane = (opening_of lane, is_run lane)

-- what a lane that is run has to be
abbrev pub as_wanted : Lane → Lane × Bool
as_wanted lane = (opening_of lane, true)

-- lanes that were run to their ends are these, in their order
abbrev pub AreRun : List Lane → List Lane → Type 0
AreRun before after = map as_left after ≡ map as_wanted before
