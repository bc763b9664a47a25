-- Schedules: the moments of a plan and what is fed at them, and why they are refused.
use Rattle.std.specs.Prelude.{ℕ, List, [], ◌∷◌, length, map, Bool, true, false, not, ◌&&◌, nat_le, max, is_some, Option, Some, find}
use Rattle.std.specs.List.{list_all}
use Rattle.std.specs.Option.{option_map_or}
use Rattle.exec_msg.specs.Numbers.{GoalId, Moment, Ticks}
use Rattle.exec_plan.specs.Entity.{is_from_1}
use Rattle.exec_plan.specs.Lawful.{is_ascending_from}
use Rattle.exec_plan.specs.declared.fault.PlanFault.{PlanFault}
use Rattle.exec_plan.specs.declared.fault.PlanFault.TheVariants.{Limit, Clock, Id}
use Rattle.exec_plan.specs.Plan.{Feed}
use Rattle.exec_plan.specs.declared.plan.FedOf.{FedOf}
use Rattle.exec_plan.specs.declared.plan.FedOf.TheVariants.{Message, Goal, Cancel}
use Rattle.exec_plan.specs.declared.plan.FeedOf.{FeedOf}
use Rattle.exec_msg.specs.declared.limits.TheConstants.{MOMENTS, FEED, TICKS}

-- the number of moments, the number of entries of a feed and the greatest stamp in it are within their limits
abbrev pub numbers_fit : ℕ → ℕ → Ticks → Bool
numbers_fit moments entries stamp = nat_le moments MOMENTS && nat_le entries FEED && nat_le stamp TICKS

-- these are, and so is each moment
abbrev pub schedule_fits : List Moment → ℕ → Ticks → Bool
schedule_fits moments entries stamp = numbers_fit (length moments) entries stamp && list_all (λ moment. nat_le moment TICKS) moments

-- the greatest of numbers, or 0 where there is none
abbrev pub greatest : List ℕ → ℕ
greatest [] = 0
greatest (number ∷ numbers) = max number (greatest numbers)

-- the stamp of what is fed; that of a message or of a goal request is 0
abbrev pub stamp_of : {N I : Type 0} → FedOf N I → Ticks
stamp_of (Cancel server id stamp) = stamp
stamp_of _ = 0

-- the greatest stamp of a feed, or 0 where there is none
abbrev pub greatest_stamp : {N I : Type 0} → List (FeedOf N I) → Ticks
greatest_stamp feed = greatest (map (λ entry. stamp_of entry.fed) feed)

-- no moment is below the one before it, and each round of the feed is one of the moments'
abbrev pub is_in_order : List Moment → List ℕ → Bool
is_in_order moments rounds = is_ascending_from 0 moments && list_all (is_from_1 (length moments)) rounds

-- whether a request has an identifier, which is read so, and a goal's isn't 0
abbrev pub is_identified : {N I : Type 0} → (I → Option GoalId) → FedOf N I → Bool
is_identified read (Message topic value) = true
is_identified read (Goal server id value) = option_map_or (nat_le 1) (read id) false
is_identified read (Cancel server id stamp) = is_some (read id)

-- whether moments and a feed have what a fault says, each fault being read where they have no lesser one
abbrev pub has_plan_fault : PlanFault → List Moment → List Feed → Bool
has_plan_fault Limit moments feed = not (schedule_fits moments (length feed) (greatest_stamp feed))
has_plan_fault Clock moments feed = not (is_in_order moments (map (λ entry. entry.round) feed))
has_plan_fault Id moments feed = not (list_all (λ entry. is_identified Some entry.fed) feed)

-- the faults of a plan in order
abbrev pub plan_faults_in_order : List PlanFault
plan_faults_in_order = Limit ∷ Clock ∷ Id ∷ []

-- the fault of moments and a feed: the first that they have
abbrev pub plan_fault_in : List Moment → List Feed → Option PlanFault
plan_fault_in moments feed = find (λ fault. has_plan_fault fault moments feed) plan_faults_in_order

-- the number of a fault
abbrev pub plan_fault_number : PlanFault → ℕ
plan_fault_number Limit = 5
plan_fault_number Clock = 8
plan_fault_number Id = 9
