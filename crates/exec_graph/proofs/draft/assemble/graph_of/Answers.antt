use Rattle.std.proofs.Common.{ℕ, Some, ◌==◌, inl, inr, ap, sym, ◌∙◌, ◌≡◌, string_bytes, true}
use Rattle.std.proofs.lemmas.Result.{err_from_is_err_and}
use Rattle.exec_graph.specs.inner.Directory.{DirectoryData}
use Rattle.exec_plan.specs.inner.Entries.{entities_in as entries_of}
use Rattle.exec_graph.specs.Faults.{is_small}
use Rattle.exec_plan.specs.Graph.{GraphData}
use Rattle.exec_graph.proofs.Assembled.{few_names, few_nodes, few_groups, few_texts, directory_is, distinct, of_unread, of_script, of_variable, of_none, graph_with, graph_is, is_lawful, names_are, mapped_none, mapped_is}
use Rattle.exec_graph.proofs.Linking.{are_linked, entities_linked}
use Rattle.exec_plan.proofs.Reading.{nothing_else}
use Rattle.exec_graph.proofs.draft.assemble.graph_of.Goals as goal

pub declarations_of-requires-clause-links : goal.declarations_of-requires-clause-links
declarations_of-requires-clause-links c =
    let draft = c.args.draft.now in
    let small : is_small draft ≡ true = sym c.is_small.ensures ∙ c.if-not-is_small.false in
    are_linked draft c.args.directory.now (directory_is draft c.args.directory.now c.requires.named) (few_names draft c.args.directory.now c.requires.named small) (few_groups draft c.args.directory.now c.requires.named small) c.args.linked.now c.requires.linked

pub declarations_of-requires-clause-entities : goal.declarations_of-requires-clause-entities
declarations_of-requires-clause-entities c =
    let draft = c.args.draft.now in
    entities_linked c.args.directory.now c.args.linked.now c.requires.linked ∙ ap (λ (directory : DirectoryData). directory.entities) (directory_is draft c.args.directory.now c.requires.named)

pub declarations_of-requires-clause-directory : goal.declarations_of-requires-clause-directory
declarations_of-requires-clause-directory c = directory_is c.args.draft.now c.args.directory.now c.requires.named

pub declarations_of-requires-clause-distinct : goal.declarations_of-requires-clause-distinct
declarations_of-requires-clause-distinct c = distinct c.args.draft.now c.args.directory.now c.requires.named

pub names_of-requires : goal.names_of-requires
names_of-requires c = c.entities-3.ensures ∙ ap (λ (directory : DirectoryData). directory.entities) (directory_is c.args.draft.now c.args.directory.now c.requires.named)

pub returns-in_default-clause-fault : goal.returns-in_default-clause-fault
returns-in_default-clause-fault c =
    let draft = c.args.draft.now in
    let small : is_small draft ≡ true = sym c.is_small.ensures ∙ c.if-not-is_small.false in
    let found = c.in_ok-entities.ensures in
    inr (of_unread draft c.args.directory.now c.requires.named small (mapped_none _ _ _ found (nothing_else c.in_ok-entities.field-0 c.in_default.not-Some)))

pub returns-then-is_any_faulty-clause-fault : goal.returns-then-is_any_faulty-clause-fault
returns-then-is_any_faulty-clause-fault c =
    let draft = c.args.draft.now in
    let small : is_small draft ≡ true = sym c.is_small.ensures ∙ c.if-not-is_small.false in
    let found = c.in_ok-entities.ensures in
    inr (of_script draft c.args.directory.now c.requires.named small c.deref.result.now (c.deref.ensures.value ∙ c.in_ok-groups.ensures) c.in-Some.entities.entries (mapped_is _ _ _ _ found c.in-Some.is) c.deref-2.result.now (c.deref-2.ensures.value ∙ c.in_ok-faults.ensures) (sym c.if-is_any_faulty.true ∙ c.is_any_faulty.ensures))

pub returns-then-not-is_empty-clause-fault : goal.returns-then-not-is_empty-clause-fault
returns-then-not-is_empty-clause-fault c =
    let draft = c.args.draft.now in
    let small : is_small draft ≡ true = sym c.is_small.ensures ∙ c.if-not-is_small.false in
    let found = c.in_ok-entities.ensures in
    inr (of_variable draft c.args.directory.now c.requires.named small c.deref.result.now (c.deref.ensures.value ∙ c.in_ok-groups.ensures) c.in-Some.entities.entries (mapped_is _ _ _ _ found c.in-Some.is) c.deref-2.result.now (c.deref-2.ensures.value ∙ c.in_ok-faults.ensures) (sym c.if-is_any_faulty.false ∙ c.is_any_faulty.ensures) (ap (λ (n : ℕ). n == 0) c.deref-2.ensures.len ∙ sym c.is_empty.ensures ∙ c.if-not-is_empty.true))

pub returns-in_err-names-clause-fault : goal.returns-in_err-names-clause-fault
returns-in_err-names-clause-fault c =
    let p = err_from_is_err_and c.from_residual-in_err-names.result c.from_residual-in_err-names.ensures.1 in
    rw (p.1) (inl p.2)

pub of-requires-2 : goal.of-requires-2
of-requires-2 c =
    let draft = c.args.draft.now in
    let small : is_small draft ≡ true = sym c.is_small.ensures ∙ c.if-not-is_small.false in
    few_texts draft c.args.directory.now c.requires.named small c.in_ok-names.names.items string_bytes c.in_ok-names.ensures

pub of-requires : goal.of-requires
of-requires c =
    let draft = c.args.draft.now in
    let small : is_small draft ≡ true = sym c.is_small.ensures ∙ c.if-not-is_small.false in
    few_nodes draft c.args.directory.now c.requires.named small c.in_ok-nodes.nodes.items string_bytes (c.in_ok-nodes.ensures)

pub from_parts-requires-clause-lawful : goal.from_parts-requires-clause-lawful
from_parts-requires-clause-lawful c =
    let draft = c.args.draft.now in
    let small : is_small draft ≡ true = sym c.is_small.ensures ∙ c.if-not-is_small.false in
    let found = c.in_ok-entities.ensures in
    let faultless = of_none draft c.args.directory.now c.requires.named small c.deref.result.now (c.deref.ensures.value ∙ c.in_ok-groups.ensures) c.in-Some.entities.entries (mapped_is _ _ _ _ found c.in-Some.is) c.deref-2.result.now (c.deref-2.ensures.value ∙ c.in_ok-faults.ensures) (sym c.if-is_any_faulty.false ∙ c.is_any_faulty.ensures) (ap (λ (n : ℕ). n == 0) c.deref-2.ensures.len ∙ sym c.is_empty.ensures ∙ c.if-not-is_empty.false) in
    let made : GraphData = graph_with c.of.result c.in_ok-groups.groups.items (entries_of c.in-Some.entities.entries) in
    let nodes = c.of.ensures ∙ c.in_ok-nodes.ensures in
    let gathered = c.in_ok-groups.ensures in
    is_lawful draft made nodes gathered (mapped_is _ _ _ _ found c.in-Some.is) faultless

pub from_parts-requires-clause-names : goal.from_parts-requires-clause-names
from_parts-requires-clause-names c =
    let draft = c.args.draft.now in
    let small : is_small draft ≡ true = sym c.is_small.ensures ∙ c.if-not-is_small.false in
    let found = c.in_ok-entities.ensures in
    let made : GraphData = graph_with c.of.result c.in_ok-groups.groups.items (entries_of c.in-Some.entities.entries) in
    let nodes = c.of.ensures ∙ c.in_ok-nodes.ensures in
    let gathered = c.in_ok-groups.ensures in
    c.of-2.ensures ∙ c.in_ok-names.ensures ∙ names_are draft made nodes gathered (mapped_is _ _ _ _ found c.in-Some.is)

pub returns-clause-graph : goal.returns-clause-graph
returns-clause-graph c =
    let draft = c.args.draft.now in
    let small : is_small draft ≡ true = sym c.is_small.ensures ∙ c.if-not-is_small.false in
    let found = c.in_ok-entities.ensures in
    let faultless = of_none draft c.args.directory.now c.requires.named small c.deref.result.now (c.deref.ensures.value ∙ c.in_ok-groups.ensures) c.in-Some.entities.entries (mapped_is _ _ _ _ found c.in-Some.is) c.deref-2.result.now (c.deref-2.ensures.value ∙ c.in_ok-faults.ensures) (sym c.if-is_any_faulty.false ∙ c.is_any_faulty.ensures) (ap (λ (n : ℕ). n == 0) c.deref-2.ensures.len ∙ sym c.is_empty.ensures ∙ c.if-not-is_empty.false) in
    let made : GraphData = graph_with c.of.result c.in_ok-groups.groups.items (entries_of c.in-Some.entities.entries) in
    (faultless, graph_is draft made (c.of.ensures ∙ c.in_ok-nodes.ensures) (c.in_ok-groups.ensures) (mapped_is _ _ _ _ found c.in-Some.is) ∙ sym (ap Some c.from_parts.ensures))
