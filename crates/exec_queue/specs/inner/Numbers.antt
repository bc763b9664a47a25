-- The numbers of arrivals that lie with a queue's items.
use Rattle.std.specs.Prelude.{ℕ, List, map, Bool, Option}
use Rattle.std.specs.Bool.{then_some}
use Rattle.exec_queue.specs.declared.queue.entry.Sent.{Sent}
use Rattle.exec_rules.specs.declared.item.Item.{Item}

-- the items of what was sent
abbrev pub items_of : List Sent → List Item
items_of all = map (λ (one : Sent). one.item) all

-- the numbers of their arrivals, if numbers are kept
abbrev pub numbers_of : Bool → List Sent → Option (List ℕ)
numbers_of numbered all = then_some numbered (map (λ (one : Sent). one.number) all)
