use Rattle.std.proofs.Common.{◌∙◌, ap, sym, map, List}
use Rattle.exec_graph.specs.Faults.{are_names}
use Rattle.exec_graph.specs.declared.draft.NodeDraft.{NodeDraft}
use Rattle.exec_graph.proofs.NameLists.{next_name, no_name, no_more, are_so, are_not}
use Rattle.exec_graph.proofs.draft.directory.has_node_names.Goals as goal

pub loop-node-preserved : goal.loop-node-preserved
loop-node-preserved c =
    next_name (λ node. node.name) c.as_slice-nodes.result.now c.loop-node.node-index c.node-item.result c.loop-node.names c.loop-node-test.true c.node-item.is
    c.in_ok-add_name.field-0 c.as_str.result.now c.add_name.new.names c.if-not-branch.false c.as_str.ensures c.in_ok-add_name.ensures.added c.in_ok-add_name.ensures.names
    ∙ c.loop-node.invariant

pub returns-then-not-branch : goal.returns-then-not-branch
returns-then-not-branch c =
    are_not (map (λ node. node.name) c.as_slice-nodes.result.now)
    (sym (no_name (λ node. node.name) c.as_slice-nodes.result.now c.loop-node.node-index c.node-item.result c.loop-node.names c.loop-node-test.true c.node-item.is c.in_ok-add_name.field-0 c.as_str.result.now c.if-not-branch.true c.as_str.ensures c.in_ok-add_name.ensures.added)
    ∙ c.loop-node.invariant)
    ∙ ap (λ (nodes : List NodeDraft). are_names (map (λ node. node.name) nodes)) c.as_slice-nodes.ensures

pub returns : goal.returns
returns c =
    are_so c.loop-node.names (map (λ node. node.name) c.as_slice-nodes.result.now)
    (sym (no_more (λ node. node.name) c.as_slice-nodes.result.now c.loop-node.node-index c.loop-node.names c.loop-node-test.false) ∙ c.loop-node.invariant)
    ∙ ap (λ (nodes : List NodeDraft). are_names (map (λ node. node.name) nodes)) c.as_slice-nodes.ensures
