-- Which document says which plan.
use Rattle.std.specs.Prelude.{ℕ, List, Option, None, Some}
use Rattle.serde_json.specs.Data.{Data}
use Rattle.exec_doc.specs.Draft.{DocumentDraft, FedDraft, EntryDraft}
use Rattle.exec_graph.specs.declared.draft.GraphDraft.{GraphDraft}
use Rattle.exec_doc.specs.Forms.{draft_of}
use Rattle.exec_graph.specs.Numbers.{topic_named, server_named}
use Rattle.exec_graph.specs.Resolved.{resolved_graph}
use Rattle.exec_msg.specs.Options.{◌>>=◌, each}
use Rattle.exec_doc.specs.Refusals.{document_value, refusal_in}
use Rattle.exec_doc.specs.declared.refused.Refused.{Refused}
use Rattle.exec_plan.specs.Plan.{PlanData, Feed, Fed}
use Rattle.exec_plan.specs.declared.plan.FedOf.TheVariants.{Message, Goal, Cancel}

-- ---- the feed

-- what is fed
abbrev pub resolved_fed : GraphDraft → FedDraft → Option Fed
resolved_fed drafted (Message name value) = do
  topic ← topic_named drafted name
  Some (Message topic value)
resolved_fed drafted (Goal name said value) = do
  server ← server_named drafted name
  id ← said
  Some (Goal server id value)
resolved_fed drafted (Cancel name said stamp) = do
  server ← server_named drafted name
  id ← said
  Some (Cancel server id stamp)

-- an entry of the feed
abbrev pub resolved_entry : GraphDraft → EntryDraft → Option Feed
resolved_entry drafted entry = do
  fed ← resolved_fed drafted entry.fed
  Some (record { round = entry.round; fed = fed })

-- ---- the plan

-- the plan of a draft, where what is fed goes to what is declared and has identifiers
abbrev pub plan_of : DocumentDraft → Option PlanData
plan_of document = do
  made ← resolved_graph document.graph
  feed ← each (resolved_entry document.graph) document.feed
  Some (record { graph = made; order = document.order; moments = document.moments; feed = feed })

-- something where nothing is refused
abbrev pub unless_refused : {A : Type 0} → Option Refused → Option A → Option A
unless_refused None found = found
unless_refused (Some code) found = None

-- the plan of a value that was read, where it isn't refused
abbrev pub plan_in : Option Data → Option PlanData
plan_in value = unless_refused (refusal_in value) (value >>= draft_of >>= plan_of)

-- the plan that bytes say, where they are a document
abbrev pub document_of : List ℕ → Option PlanData
document_of bytes = plan_in (document_value bytes)
