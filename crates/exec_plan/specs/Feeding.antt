-- What a plan feeds, and in which round.
use Rattle.std.specs.Prelude.{ℕ, suc, ◌-◌, ◌^◌, List, [], ◌∷◌, Bool, true, ◌==◌, nat_le}
use Rattle.std.specs.List.{filter}
use Rattle.exec_plan.specs.Graph.{GraphData, is_topic, is_server}
use Rattle.exec_plan.specs.Lawful.{is_at}
use Rattle.exec_plan.specs.Plan.{PlanData, Fed, Feed}
use Rattle.exec_plan.specs.declared.plan.FedOf.TheVariants.{Message, Goal, Cancel}

-- whether what is fed goes to a topic or to a server of the graph
abbrev pub goes_somewhere : GraphData → Fed → Bool
goes_somewhere graph (Message number value) = is_at is_topic graph number
goes_somewhere graph (Goal number id value) = is_at is_server graph number
goes_somewhere graph (Cancel number id stamp) = is_at is_server graph number

-- the identifier of what is fed has 128 bits
abbrev pub has_128_bits : Fed → Bool
has_128_bits (Message topic value) = true
has_128_bits (Goal server id value) = nat_le id (2 ^ 128 - 1)
has_128_bits (Cancel server id stamp) = nat_le id (2 ^ 128 - 1)

-- the entries of a round, in the order of the feed
abbrev pub fed_in : ℕ → List Feed → List Feed
fed_in round feed = filter (λ entry. entry.round == round) feed

-- the entries of each round in turn, the first of which has this number, as many rounds as there are moments
abbrev pub feeds_from : ℕ → List ℕ → List Feed → List (List Feed)
feeds_from round [] feed = []
feeds_from round (moment ∷ moments) feed = fed_in round feed ∷ feeds_from (suc round) moments feed

-- the entries of each round of a plan, from the first
abbrev pub feeds_by_round : PlanData → List (List Feed)
feeds_by_round plan = feeds_from 1 plan.moments plan.feed
