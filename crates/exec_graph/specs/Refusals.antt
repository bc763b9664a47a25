-- Why a graph is refused: the predicate of each fault, and the least fault whose predicate holds.
use Rattle.std.specs.Prelude.{ℕ, List, [], ◌∷◌, Bool, false, not, Option, find}
use Rattle.exec_graph.specs.declared.draft.GraphDraft.{GraphDraft}
use Rattle.exec_graph.specs.Faults.{is_well_named, is_small, has_faulty_script, shares_variables}
use Rattle.exec_graph.specs.declared.fault.GraphFault.{GraphFault}
use Rattle.exec_graph.specs.declared.fault.GraphFault.TheVariants.{Name, Limit, Script, GroupVariable, Memory}

-- whether a draft has what a fault says, each fault being read on drafts that have no lesser one
abbrev pub has_fault : GraphFault → GraphDraft → Bool
has_fault Name draft = not (is_well_named draft)
has_fault Limit draft = not (is_small draft)
has_fault Script draft = has_faulty_script draft
has_fault GroupVariable draft = shares_variables draft
has_fault Memory draft = false

-- the faults of a draft in order
abbrev pub faults_in_order : List GraphFault
faults_in_order = Name ∷ Limit ∷ Script ∷ GroupVariable ∷ []

-- the fault of a draft: the first that it has
abbrev pub fault_in : GraphDraft → Option GraphFault
fault_in draft = find (λ fault. has_fault fault draft) faults_in_order

-- the number of a fault
abbrev pub graph_fault_number : GraphFault → ℕ
graph_fault_number Name = 4
graph_fault_number Limit = 5
graph_fault_number Script = 6
graph_fault_number GroupVariable = 7
graph_fault_number Memory = 10
