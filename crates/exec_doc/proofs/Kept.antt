-- What a document keeps that no code refuses.
use Rattle.std.proofs.Common.{◌≡◌, Bool, true, false, not, ◌&&◌, ◌||◌, is_none, Option, None, Some, find}
use Rattle.std.specs.List.{list_all}
use Rattle.std.specs.Option.{option_map_or}
use Rattle.std.proofs.lemmas.Bool.{and_parts, or_parts, not-false}
use Rattle.exec_doc.specs.Draft.{DocumentDraft}
use Rattle.exec_doc.specs.Refusals.{feeds, has_identifier, has_small_schedule, has_declared_names, is_clocked, has_fault_of, codes_in_order, is_version}
use Rattle.exec_doc.specs.declared.refused.Refused.{Refused}
use Rattle.exec_doc.specs.declared.refused.Refused.TheVariants as refused
use Rattle.exec_graph.specs.Faults.{has_faulty_script, shares_variables, is_well_named, is_small}
use Rattle.exec_graph.specs.Refusals.{fault_in}
use Rattle.exec_graph.proofs.Kept.{without_fault}
use Rattle.exec_plan.proofs.NonePasses.{none_passes}

-- what each code leaves of a document that it doesn't refuse
pub record IsKept (document : DocumentDraft) : Type 0 where
  pub graph : fault_in document.graph ≡ None
  pub feeding : list_all (λ entry. feeds document.graph entry.fed) document.feed ≡ true
  pub within : has_small_schedule document ≡ true
  pub clock : is_clocked document ≡ true
  pub identified : list_all (λ entry. has_identifier entry.fed) document.feed ≡ true

-- the test of codes on what may be a draft
abbrev pub holds_of : Option DocumentDraft → Refused → Bool
holds_of draft refused.NotJson = false
holds_of draft refused.Shape = is_none draft
holds_of draft code = option_map_or (has_fault_of code) draft false

-- a document that no code refuses keeps what each of them asks
pub kept : (document : DocumentDraft) → find (holds_of (Some document)) codes_in_order ≡ None → IsKept document
kept document found =
    let ids = list_all (λ entry. has_identifier entry.fed) document.feed in
    let feeding = list_all (λ entry. feeds document.graph entry.fed) document.feed in
    let limits = is_small document.graph && has_small_schedule document in
    let last = not ids || false in
    let seventh = not (is_clocked document) || last in
    let sixth = shares_variables document.graph || seventh in
    let fifth = has_faulty_script document.graph || sixth in
    let fourth = not limits || fifth in
    let third = not (has_declared_names document) || fourth in
    let past_version = (or_parts (not (is_version document.version)) third (none_passes (holds_of (Some document)) codes_in_order found)).1 in
    let past_names = (or_parts (not (has_declared_names document)) fourth past_version).1 in
    let past_limits = (or_parts (not limits) fifth past_names).1 in
    let past_scripts = (or_parts (has_faulty_script document.graph) sixth past_limits).1 in
    let past_variables = (or_parts (shares_variables document.graph) seventh past_scripts).1 in
    let past_clock = (or_parts (not (is_clocked document)) last past_variables).1 in
    let named = not-false (has_declared_names document) (or_parts (not (has_declared_names document)) fourth past_version).0 in
    let limited = not-false limits (or_parts (not limits) fifth past_names).0 in
    record {
      graph = without_fault document.graph (and_parts (is_well_named document.graph) feeding named).0 (and_parts (is_small document.graph) (has_small_schedule document) limited).0
          (or_parts (has_faulty_script document.graph) sixth past_limits).0 (or_parts (shares_variables document.graph) seventh past_scripts).0;
      feeding = (and_parts (is_well_named document.graph) feeding named).1;
      within = (and_parts (is_small document.graph) (has_small_schedule document) limited).1;
      clock = not-false (is_clocked document) (or_parts (not (is_clocked document)) last past_variables).0;
      identified = not-false ids (or_parts (not ids) false past_clock).0;
    }
