-- A lane among those that were opened, and what stays of it however often it is moved.
use Rattle.std.specs.Prelude.{◌≡◌, ℕ, List, [], slice_index_or, false}
use Rattle.exec_script.specs.Zeros.{zeros}
use Rattle.exec_lane.specs.Lane.{Lane}

-- a lane with no callback, for a number that no lane has
abbrev pub no_lane : Lane
no_lane = record { variables = zeros; entries = []; done = 0; failed = false }

-- the lane of a number, from 0, as it was opened
abbrev pub opened_lane : List Lane → ℕ → Lane
opened_lane opening lane = slice_index_or opening lane no_lane

-- a lane is that of an opening: of the same callbacks, from the same variables
pub record IsLaneOf (opening lane : Lane) : Type 0 where
  pub variables : lane.variables ≡ opening.variables
  pub entries : lane.entries ≡ opening.entries
