-- What a graph is fed by a draft whose names are those of the graph.
use Rattle.std.specs.Prelude.{ℕ, Bool, true, is_some, Option}
use Rattle.std.specs.Option.{option_map, unwrap_or}
use Rattle.exec_doc.specs.Draft.{FedDraft, EntryDraft}
use Rattle.exec_plan.specs.Graph.{GraphData, topic_at, server_at}
use Rattle.exec_plan.specs.Plan.{Fed, Feed}
use Rattle.exec_plan.specs.declared.plan.FedOf.TheVariants.{Message, Goal, Cancel}

-- an identifier, and 0 where there is none
abbrev pub id_or_0 : Option ℕ → ℕ
id_or_0 id = unwrap_or id 0

-- what is fed to the graph's own topics and servers
abbrev pub fed_by : GraphData → FedDraft → Option Fed
fed_by graph (Message name value) = option_map (λ topic. Message topic value) (topic_at graph name)
fed_by graph (Goal name id value) = option_map (λ server. Goal server (id_or_0 id) value) (server_at graph name)
fed_by graph (Cancel name id stamp) = option_map (λ server. Cancel server (id_or_0 id) stamp) (server_at graph name)

-- whether a cancel request has an identifier: the graph's has 0 in place of none, which stands for no goal; a goal request's
-- 0 is refused as such
abbrev pub is_cancel_identified : FedDraft → Bool
is_cancel_identified (Cancel name id stamp) = is_some id
is_cancel_identified _ = true

-- an entry of the feed
abbrev pub entry_by : GraphData → EntryDraft → Option Feed
entry_by graph entry = option_map (λ fed. record { round = entry.round; fed = fed }) (fed_by graph entry.fed)
