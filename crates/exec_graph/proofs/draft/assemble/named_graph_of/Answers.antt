use Rattle.std.proofs.Common.{◌≡◌, ◌∙◌, sym, ap, Bool, true, None, Some, map}
use Rattle.std.specs.Bool.{then_some}
use Rattle.exec_graph.specs.inner.Directory.{linked_in}
use Rattle.exec_graph.specs.Faults.{are_names, is_well_named}
use Rattle.exec_msg.specs.Options.{each}
use Rattle.exec_graph.proofs.Assembled.{mapped_none, mapped_is}
use Rattle.exec_plan.proofs.Reading.{nothing_else}
use Rattle.exec_graph.proofs.WellNamed.{is_named, is_misnamed, directory_there}
use Rattle.exec_graph.proofs.draft.assemble.named_graph_of.Goals as goal

pub returns-in_default-2 : goal.returns-in_default-2
returns-in_default-2 c =
    let nodes : true ≡ are_names (map (λ node. node.name) c.args.draft.now.nodes) = sym c.if-not-branch.false ∙ c.in_ok-has_node_names.ensures in
    let none : each (linked_in c.in-Some.directory) c.in-Some.directory.entities ≡ None = mapped_none _ _ _ (sym c.in_ok-linked.ensures) (nothing_else c.in_ok-linked.field-0 c.in_default-2.not-Some) in
    ap (λ (b : Bool). then_some b c.args.draft.now) (sym (is_misnamed c.args.draft.now c.in-Some.directory nodes (sym c.in-Some.is ∙ c.in_ok-directory.ensures) none))

pub invariant_of-result : goal.invariant_of-result
invariant_of-result c =
    let nodes : true ≡ are_names (map (λ node. node.name) c.args.draft.now.nodes) = sym c.if-not-branch.false ∙ c.in_ok-has_node_names.ensures in
    let all : each (linked_in c.in-Some.directory) c.in-Some.directory.entities ≡ Some c.in-Some-2.linked.items = mapped_is _ _ _ _ (sym c.in_ok-linked.ensures) c.in-Some-2.is in
    let named : is_well_named c.args.draft.now ≡ true = is_named c.args.draft.now c.in-Some.directory nodes (sym c.in-Some.is ∙ c.in_ok-directory.ensures) c.in-Some-2.linked.items all in
    (directory_there c.args.draft.now c.in-Some.directory nodes (sym c.in-Some.is ∙ c.in_ok-directory.ensures) named, all)

pub returns : goal.returns
returns c =
    let nodes : true ≡ are_names (map (λ node. node.name) c.args.draft.now.nodes) = sym c.if-not-branch.false ∙ c.in_ok-has_node_names.ensures in
    let all : each (linked_in c.in-Some.directory) c.in-Some.directory.entities ≡ Some c.in-Some-2.linked.items = mapped_is _ _ _ _ (sym c.in_ok-linked.ensures) c.in-Some-2.is in
    ap (λ (b : Bool). then_some b c.args.draft.now) (sym (is_named c.args.draft.now c.in-Some.directory nodes (sym c.in-Some.is ∙ c.in_ok-directory.ensures) c.in-Some-2.linked.items all))
