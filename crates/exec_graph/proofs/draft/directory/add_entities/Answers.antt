use Rattle.std.proofs.Common.{◌∙◌, sym, ap}
use Rattle.exec_graph.specs.Numbers.{NodeEntity}
use Rattle.exec_graph.proofs.NameLists.{next_name, no_name}
use Rattle.exec_graph.proofs.draft.directory.add_entities.Goals as goal

pub loop-placed-preserved : goal.loop-placed-preserved
loop-placed-preserved c =
    next_name (λ placed. placed.entity.name) c.args.entities.now c.loop-placed.placed-index c.placed-item.result c.loop-placed.names c.loop-placed-test.true c.placed-item.is
    c.in_ok-add_name.field-0 c.as_str.result.now c.add_name.new.names c.if-not-branch.false (c.as_str.ensures ∙ ap (λ (placed : NodeEntity). placed.entity.name) c.placed.view_is) c.in_ok-add_name.ensures.added c.in_ok-add_name.ensures.names
    ∙ c.loop-placed.invariant

pub returns-then-not-branch : goal.returns-then-not-branch
returns-then-not-branch c =
    sym c.loop-placed.invariant
    ∙ no_name (λ placed. placed.entity.name) c.args.entities.now c.loop-placed.placed-index c.placed-item.result c.loop-placed.names c.loop-placed-test.true c.placed-item.is c.in_ok-add_name.field-0 c.as_str.result.now c.if-not-branch.true (c.as_str.ensures ∙ ap (λ (placed : NodeEntity). placed.entity.name) c.placed.view_is) c.in_ok-add_name.ensures.added
