-- Where callbacks are that ran: in lanes that came home.
use Rattle.std.specs.Prelude.{◌≡◌, ℕ, suc, ◌<◌, List, [], ◌∷◌, ◌++◌, length, slice_index_or}
use Rattle.exec_lane.specs.Gather.{Ran}
use Rattle.exec_lane.specs.declared.gathering.Spot.{Spot}
use Rattle.exec_lane.specs.inner.Buffered.{no_callback}
use Rattle.exec_script.specs.declared.effects.Close.TheVariants as close

-- a callback for a place at which none ran
abbrev pub no_ran : Ran
no_ran = record { ready = no_callback; effects = record { list = []; close = close.Nothing } }

abbrev pub ran_at : List Ran → ℕ → Ran
ran_at ran index = slice_index_or ran index no_ran

abbrev pub spot_ran : List (List Ran) → Spot → Ran
spot_ran lanes spot = ran_at (slice_index_or lanes spot.lane []) spot.index

-- a callback is there, and it has this position
pub record IsSpotOf (lanes : List (List Ran)) (spot : Spot) : Type 0 where
  pub lane : spot.lane < length lanes
  pub index : spot.index < length (slice_index_or lanes spot.lane [])
  pub position : (spot_ran lanes spot).ready.position ≡ spot.position

-- where the callbacks of a lane are from this one on, and those of all lanes from this one on
abbrev pub spots_from : ℕ → ℕ → List Ran → List Spot
spots_from number index [] = []
spots_from number index (one ∷ ran) = record { position = one.ready.position; lane = number; index = index } ∷ spots_from number (suc index) ran

abbrev pub all_spots : ℕ → List (List Ran) → List Spot
all_spots number [] = []
all_spots number (lane ∷ lanes) = spots_from number 0 lane ++ all_spots (suc number) lanes
