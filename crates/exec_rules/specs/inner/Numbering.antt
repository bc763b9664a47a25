-- Which queues keep the numbers of arrivals.
use Rattle.std.specs.Prelude.{◌≡◌, ℕ, List, length, None, Some}
use Rattle.exec_plan.specs.declared.order.Order.{Order}
use Rattle.exec_plan.specs.declared.order.Order.TheVariants as order
use Rattle.exec_rules.specs.World.{Queue}

-- under the order of arrival a queue has a number for each of its items, and under the order of kinds it has none
abbrev pub IsNumbered : Order → Queue → Type 0
IsNumbered order.Kind queue = queue.arrivals ≡ None
IsNumbered order.Arrival queue = (numbers : List ℕ) × (queue.arrivals ≡ Some numbers) × (length numbers ≡ length queue.items)
