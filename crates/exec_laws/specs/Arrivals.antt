-- Words of the laws of arrivals.
use Rattle.std.specs.Prelude.{◌≡◌, ℕ, ◌<◌, ◌≤◌, List, [], ◌++◌, map, Bool, true, ◌&&◌, ◌==◌}
use Rattle.std.specs.List.{All, find, flat_map, list_any, zip}
use Rattle.std.specs.List.Sorted.{IsStrictlyIncreasing}
use Rattle.std.specs.Option.{option_map_or, unwrap_or}
use Rattle.exec_msg.specs.Numbers.{EntityNo, Moment}
use Rattle.exec_msg.specs.declared.kind.Kind.{Kind}
use Rattle.exec_rules.specs.Ready.{arrival_for, ready_list}
use Rattle.exec_rules.specs.World.{HeldGoal, Queue, ServerEntry, WorldState, is_queue}
use Rattle.exec_rules.specs.declared.item.Item.{Item}
use Rattle.exec_rules.specs.declared.ready.Ready.{Ready}

-- ---- numbers

-- a number of an arrival, of which the last has this number: they count from 1
abbrev pub IsArrival : ℕ → ℕ → Type 0
IsArrival last number = (1 ≤ number) × (number ≤ last)

-- the numbers of a queue's items
abbrev pub numbers_in : Queue → List ℕ
numbers_in queue = unwrap_or queue.arrivals []

-- the numbers of the goals that a server holds
abbrev pub numbers_at : ServerEntry → List ℕ
numbers_at entry = map (λ held. held.arrival) entry.held

-- the numbers of all that has arrived in a world and is still there
abbrev pub all_numbers : WorldState → List ℕ
all_numbers world = flat_map numbers_in world.queues ++ flat_map numbers_at world.servers

-- the numbers of a queue's items rise, and each is that of an arrival
abbrev pub HasRisingNumbers : ℕ → Queue → Type 0
HasRisingNumbers last queue = IsStrictlyIncreasing (numbers_in queue) × All (IsArrival last) (numbers_in queue)

-- ---- what arrived earlier

-- a queue's items, the oldest first, each with the number of its arrival
abbrev pub numbered_items : Queue → List (ℕ × Item)
numbered_items queue = zip (numbers_in queue) queue.items

-- the same of an entity's queue of a kind
abbrev pub arrived_in : EntityNo → Kind → WorldState → List (ℕ × Item)
arrived_in entity of world = option_map_or numbered_items (find (is_queue entity of) world.queues) []

-- a queue that held these items before, after the arrival of this number, holds those after more arrivals: some of the first are
-- gone, the others are left in their order, and after them come those that have arrived since
pub record AreLeftOf (last : ℕ) (before after : List (ℕ × Item)) : Type 0 where
  pub gone : List (ℕ × Item)
  pub left : List (ℕ × Item)
  pub since : List (ℕ × Item)
  pub parts : before ≡ gone ++ left
  pub joined : after ≡ left ++ since
  pub later : All (λ one. last < one.0) since

-- whether a goal has the identifier and the number of this one
abbrev pub arrived_as : HeldGoal → HeldGoal → Bool
arrived_as held other = (other.goal.id == held.goal.id) && (other.arrival == held.arrival)

-- a goal of a server that held these before, after the arrival of this number: if it has no later number, it had its own before
abbrev pub HadItsNumber : ℕ → List HeldGoal → HeldGoal → Type 0
HadItsNumber last before held = held.arrival ≤ last → list_any (arrived_as held) before ≡ true

-- the number of the arrival that made a callback of a world ready; a timer's is 0
abbrev pub arrival_of : WorldState → Ready → ℕ
arrival_of world one = arrival_for one.entity one.cause world

-- the ready list of a world at a moment has first all callbacks that are ready by arrivals up to the one of this number, and then
-- those that are by later ones
pub record HasEarlierFirst (last : ℕ) (moment : Moment) (world : WorldState) : Type 0 where
  pub earlier : List Ready
  pub later : List Ready
  pub parts : ready_list moment world ≡ earlier ++ later
  pub up_to : All (λ one. arrival_of world one ≤ last) earlier
  pub above : All (λ one. last < arrival_of world one) later
