-- Plans: a graph, the order in which ready callbacks are run, the moments of its rounds, and what is fed to it.
use Rattle.std.specs.Prelude.{List}
use Rattle.exec_msg.specs.Numbers.{EntityNo, GoalId, Moment}
use Rattle.exec_plan.specs.Graph.{GraphData}
use Rattle.exec_plan.specs.declared.order.Order.{Order}
use Rattle.exec_plan.specs.declared.plan.FedOf.{FedOf}
use Rattle.exec_plan.specs.declared.plan.FeedOf.{FeedOf}

-- what a plan is fed: topics and servers by their numbers, with identifiers that were read
abbrev pub Fed : Type 0
Fed = FedOf EntityNo GoalId

-- an entry of a plan's feed
abbrev pub Feed : Type 0
Feed = FeedOf EntityNo GoalId

-- a plan: the graph, the order in which ready callbacks are run, the moment of each round, and the feed
pub record PlanData : Type 0 where
  pub graph : GraphData
  pub order : Order
  pub moments : List Moment
  pub feed : List Feed
