-- Why a document is refused: the predicate of each code, and the least code whose predicate holds.
use Rattle.std.specs.Prelude.{ℕ, List, [], ◌∷◌, length, map, Bool, false, not, ◌&&◌, ◌||◌, ◌==◌, is_some, is_none, if◌then◌else◌, Option, None, find}
use Rattle.std.specs.List.{list_all}
use Rattle.std.specs.Option.{option_map_or}
use Rattle.std.specs.Str.{is_utf8}
use Rattle.serde_json.specs.Data.{Data}
use Rattle.serde_json.specs.Read.{read}
use Rattle.exec_plan.specs.declared.plan.FedOf.TheVariants.{Message, Goal, Cancel}
use Rattle.exec_doc.specs.Draft.{DocumentDraft, FedDraft}
use Rattle.exec_graph.specs.declared.draft.GraphDraft.{GraphDraft}
use Rattle.exec_doc.specs.Forms.{draft_of, has_order}
use Rattle.exec_graph.specs.Faults.{has_faulty_script, shares_variables, is_small, is_well_named}
use Rattle.exec_msg.specs.Options.{◌>>=◌}
use Rattle.exec_graph.specs.Numbers.{topic_named, server_named}
use Rattle.exec_doc.specs.declared.refused.Refused.{Refused}
use Rattle.exec_doc.specs.declared.refused.Refused.TheVariants as refused
use Rattle.exec_plan.specs.Schedule.{schedule_fits, greatest_stamp, is_in_order, is_identified}

-- ---- 1: no JSON

-- the value that bytes have: they are UTF-8, and JSON that nests at most 127 levels deep
abbrev pub document_value : List ℕ → Option Data
document_value bytes = if is_utf8 bytes then read bytes else None

-- ---- 3: the version

-- whether documents of a version are read
abbrev pub is_version : ℕ → Bool
is_version version = version == 1 || has_order version

-- ---- 4: names

-- what is fed goes to a topic or to a server that is declared
abbrev pub feeds : GraphDraft → FedDraft → Bool
feeds draft (Message name value) = is_some (topic_named draft name)
feeds draft (Goal name id value) = is_some (server_named draft name)
feeds draft (Cancel name id stamp) = is_some (server_named draft name)

-- the graph is well named, and what is fed goes to what is declared
abbrev pub has_declared_names : DocumentDraft → Bool
has_declared_names document = is_well_named document.graph && list_all (λ entry. feeds document.graph entry.fed) document.feed

-- ---- 5: limits

-- no moment, no stamp, and no number of moments or entries is beyond its limit
abbrev pub has_small_schedule : DocumentDraft → Bool
has_small_schedule document = schedule_fits document.moments (length document.feed) (greatest_stamp document.feed)

-- ---- 8: the clock

-- no moment is below the one before it, and each round of the feed is one of the document
abbrev pub is_clocked : DocumentDraft → Bool
is_clocked document = is_in_order document.moments (map (λ entry. entry.round) document.feed)

-- ---- 9: identifiers

-- each identifier is one, and a goal's isn't 0
abbrev pub has_identifier : FedDraft → Bool
has_identifier = is_identified (λ id. id)

-- ---- the refusal

-- the number of a code
abbrev pub refused_number : Refused → ℕ
refused_number refused.NotJson = 1
refused_number refused.Shape = 2
refused_number refused.Version = 3
refused_number refused.Name = 4
refused_number refused.Limit = 5
refused_number refused.Script = 6
refused_number refused.GroupVariable = 7
refused_number refused.Clock = 8
refused_number refused.Id = 9
refused_number refused.Memory = 10

-- whether a draft has what a code refuses, each code being read on drafts that no lesser one refuses
abbrev pub has_fault_of : Refused → DocumentDraft → Bool
has_fault_of refused.Version document = not (is_version document.version)
has_fault_of refused.Name document = not (has_declared_names document)
has_fault_of refused.Limit document = not (is_small document.graph && has_small_schedule document)
has_fault_of refused.Script document = has_faulty_script document.graph
has_fault_of refused.GroupVariable document = shares_variables document.graph
has_fault_of refused.Clock document = not (is_clocked document)
has_fault_of refused.Id document = not (list_all (λ entry. has_identifier entry.fed) document.feed)
has_fault_of _ document = false

-- whether a code may refuse the value that was read: it isn't there, or hasn't the forms of a document, or its draft has
-- what the code refuses
abbrev pub may_refuse : Refused → Option Data → Bool
may_refuse refused.NotJson value = is_none value
may_refuse refused.Shape value = is_none (value >>= draft_of)
may_refuse code value = option_map_or (has_fault_of code) (value >>= draft_of) false

-- the codes by which documents are refused
abbrev pub codes_in_order : List Refused
codes_in_order =
    refused.NotJson ∷ refused.Shape ∷ refused.Version ∷ refused.Name ∷ refused.Limit
    ∷ refused.Script ∷ refused.GroupVariable ∷ refused.Clock ∷ refused.Id ∷ []

-- the refusal of a value that was read: the first code that holds
abbrev pub refusal_in : Option Data → Option Refused
refusal_in value = find (λ code. may_refuse code value) codes_in_order

-- the refusal of bytes
abbrev pub refusal_of : List ℕ → Option Refused
refusal_of bytes = refusal_in (document_value bytes)
