-- What a reader answers of drafts: a plan, or the refusal.
use Rattle.std.specs.Prelude.{◌≡◌, ℕ, ◌⊎◌, List, Bool, true, false, not, ◌&&◌, Option, None, Some, find, Result, Ok, Err}
use Rattle.exec_doc.specs.Draft.{DocumentDraft, EntryDraft}
use Rattle.exec_doc.specs.Refusals.{has_fault_of, codes_in_order, is_version}
use Rattle.exec_doc.specs.declared.refused.Refused.{Refused}
use Rattle.exec_doc.specs.declared.refused.Refused.TheVariants as refused
use Rattle.exec_graph.specs.declared.draft.GraphDraft.{GraphDraft}
use Rattle.exec_plan.specs.Graph.{GraphData}
use Rattle.exec_graph.specs.Refusals.{fault_in}
use Rattle.exec_graph.specs.Resolved.{resolved_graph}
use Rattle.exec_graph.specs.declared.fault.GraphFault.{GraphFault}
use Rattle.exec_graph.specs.declared.fault.GraphFault.TheVariants as graph_fault
use Rattle.exec_plan.specs.declared.fault.PlanFault.{PlanFault}
use Rattle.exec_plan.specs.declared.fault.PlanFault.TheVariants as plan_fault
use Rattle.exec_graph.specs.Faults.{has_faulty_script, shares_variables, is_small, is_well_named}

-- the refusal of a draft: the first code that holds of it
abbrev pub draft_refusal : DocumentDraft → Option Refused
draft_refusal document = find (λ code. has_fault_of code document) codes_in_order

-- whether a code up to that of group variables holds of a graph with a schedule that is within its limits or isn't
abbrev pub has_graph_fault : GraphDraft → Bool → Refused → Bool
has_graph_fault graph within refused.Name = not (is_well_named graph)
has_graph_fault graph within refused.Limit = not (is_small graph && within)
has_graph_fault graph within refused.Script = has_faulty_script graph
has_graph_fault graph within refused.GroupVariable = shares_variables graph
has_graph_fault graph within _ = false

-- the refusal of such a graph
abbrev pub graph_refusal : GraphDraft → Bool → Option Refused
graph_refusal graph within = find (has_graph_fault graph within) codes_in_order

-- a document of a version that is read, of this graph, which has no fault, these moments and this feed
pub record IsReady (document : DocumentDraft) (graph : GraphData) (moments : List ℕ) (feed : List EntryDraft) : Type 0 where
  pub version : is_version document.version ≡ true
  pub faultless : fault_in document.graph ≡ None
  pub made : resolved_graph document.graph ≡ Some graph
  pub ticks : document.moments ≡ moments
  pub entries : document.feed ≡ feed

-- the code of a graph's fault
abbrev pub graph_code_of : GraphFault → Refused
graph_code_of graph_fault.Name = refused.Name
graph_code_of graph_fault.Limit = refused.Limit
graph_code_of graph_fault.Script = refused.Script
graph_code_of graph_fault.GroupVariable = refused.GroupVariable
graph_code_of graph_fault.Memory = refused.Memory

-- the code of a plan's fault
abbrev pub plan_refusal : PlanFault → Refused
plan_refusal plan_fault.Limit = refused.Limit
plan_refusal plan_fault.Clock = refused.Clock
plan_refusal plan_fault.Id = refused.Id

-- what is found where nothing is refused, and else the refusal; unless memory was refused
abbrev pub Answers : {A : Type 0} → Option Refused → Option A → Result A Refused → Type 0
Answers refusal said (Ok found) = (refusal ≡ None) × (said ≡ Some found)
Answers refusal said (Err code) = (code ≡ refused.Memory) ⊎ (refusal ≡ Some code)
