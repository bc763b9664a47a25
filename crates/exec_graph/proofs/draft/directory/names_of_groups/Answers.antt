use Rattle.std.proofs.Common.{◌∙◌, sym, map}
use Rattle.exec_graph.proofs.NameLists.{next_name, no_name, no_more, added_to_none}
use Rattle.exec_graph.proofs.draft.directory.names_of_groups.Goals as goal

pub loop-group-preserved : goal.loop-group-preserved
loop-group-preserved c =
    next_name (λ group. group.name) c.args.groups.now c.loop-group.group-index c.group-item.result c.loop-group.names c.loop-group-test.true c.group-item.is
    c.in_ok-add_name.field-0 c.as_str.result.now c.add_name.new.names c.if-not-branch.false c.as_str.ensures c.in_ok-add_name.ensures.added c.in_ok-add_name.ensures.names
    ∙ c.loop-group.invariant

pub returns-then-not-branch : goal.returns-then-not-branch
returns-then-not-branch c =
    sym (no_name (λ group. group.name) c.args.groups.now c.loop-group.group-index c.group-item.result c.loop-group.names c.loop-group-test.true c.group-item.is c.in_ok-add_name.field-0 c.as_str.result.now c.if-not-branch.true c.as_str.ensures c.in_ok-add_name.ensures.added)
    ∙ c.loop-group.invariant ∙ added_to_none (map (λ group. group.name) c.args.groups.now)

pub returns : goal.returns
returns c =
    sym (no_more (λ group. group.name) c.args.groups.now c.loop-group.group-index c.loop-group.names c.loop-group-test.false)
    ∙ c.loop-group.invariant ∙ added_to_none (map (λ group. group.name) c.args.groups.now)
