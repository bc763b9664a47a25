-- The numbers of arrivals of what a snapshot listed, and the callbacks run by them.
use Rattle.std.specs.Prelude.{◌≡◌, ℕ, List, [], ◌∷◌, ◌++◌, drop, length, slice_get, take}
use Rattle.std.specs.Bool.{⊤}
use Rattle.std.specs.List.{flat_map, fold}
use Rattle.std.specs.Option.{option_map_or, option_to_list}
use Rattle.exec_plan.specs.declared.order.Order.{Order}
use Rattle.exec_plan.specs.declared.order.Order.TheVariants as order
use Rattle.exec_rules.specs.Ready.{arrival_for}
use Rattle.exec_rules.specs.Run.{run}
use Rattle.exec_rules.specs.Sorting.{sorted_by}
use Rattle.exec_rules.specs.Transcript.{run_all}
use Rattle.exec_rules.specs.World.{WorldState}
use Rattle.exec_rules.specs.declared.ready.Ready.{Ready}
use Rattle.exec_world.specs.declared.arrived.Arrived.{Arrived}

-- arrivals with the number of the next callback's behind them
abbrev pub with_arrived : List Arrived → ℕ → List Arrived
with_arrived arrivals number = arrivals ++ record { number = number; place = length arrivals } ∷ []

-- the arrivals of callbacks in a world
abbrev pub arrived_in : WorldState → List Ready → List Arrived
arrived_in world all = fold (λ arrivals one. with_arrived arrivals (arrival_for one.entity one.cause world)) [] all

-- arrivals as a round lists them under an order: nothing is asked of them under that of kinds, and under that of arrival they are
-- those of the callbacks, the earliest first
abbrev pub AreListed : Order → WorldState → List Ready → List Arrived → Type 0
AreListed order.Kind world all arrivals = ⊤
AreListed order.Arrival world all arrivals = arrivals ≡ sorted_by (λ one. one.number) (arrived_in world all)

-- the callback at a place, from 0, if there is one
abbrev pub callback_at : List Ready → ℕ → List Ready
callback_at all place = option_to_list (slice_get all place)

-- the callbacks at the places of arrivals
abbrev pub callbacks_at : List Ready → List Arrived → List Ready
callbacks_at all arrivals = flat_map (λ arrived. callback_at all arrived.place) arrivals

-- the world after the callback at a place, from 0, if there is one
abbrev pub run_at : List Ready → WorldState → ℕ → WorldState
run_at all world place = option_map_or (λ one. run one world) (slice_get all place) world

-- the world after the callbacks at the places of arrivals
abbrev pub run_arrived : List Ready → WorldState → List Arrived → WorldState
run_arrived all world arrivals = fold (λ before arrived. run_at all before arrived.place) world arrivals

-- the world after what a snapshot listed has run under an order: the callbacks of the list, the first of which, so many, come before
-- polls, and the polls
abbrev pub run_listed : Order → ℕ → List Ready → List Ready → List Arrived → WorldState → WorldState
run_listed order.Kind before list polls arrivals world = run_all (drop before list) (run_all polls (run_all (take before list) world))
run_listed order.Arrival before list polls arrivals world = run_arrived (list ++ polls) world arrivals
