use Rattle.std.proofs.Common.{◌<◌, String, ap, sym, ◌∙◌, true, false, rules}
use Rattle.std.specs.Global.{Global}
use Rattle.std.specs.List.{position_from}
use Rattle.exec_plan.specs.inner.Entries.{entry_data, entities_in}
use Rattle.exec_plan.specs.Graph.{GraphData, is_topic}
use Rattle.exec_plan.specs.declared.entity.Declared.{Declared}
use Rattle.exec_plan.proofs.Counting.{number_below}
use Rattle.exec_plan.proofs.Looking.{is_named, found_none, found_as}
use Rattle.exec_plan.proofs.Positions.{slice_get-map}
use Rattle.exec_plan.proofs.graph.Graph.topic_at.Goals as goal

pub returns-in_err-place : goal.returns-in_err-place
returns-in_err-place c =
    c.from_residual.ensures
    ∙ found_none is_topic c.args.name.now c.self.inside.entities.entries c.in_err-place.ensures.index
    ∙ ap (λ (shape : GraphData). position_from (is_named is_topic c.args.name.now) 0 shape.entities) c.self.view_is

pub overflow_cast-result : goal.overflow_cast-result
overflow_cast-result c =
    let shape : GraphData = record { nodes = c.self.inside.nodes; groups = c.self.inside.groups.items; entities = entities_in c.self.inside.entities.entries } in
    let entry : String Global × Declared = (c.in_ok-place.field-0-1.now, c.in_ok-place.declared.now) in
    let below : c.in_ok-place.place < 65536 = number_below shape c.in_ok-place.place (entry_data entry) c.self.invariant.0 (slice_get-map entry_data c.self.inside.entities.entries c.in_ok-place.place entry c.in_ok-place.ensures.entry) in
    search rules

pub returns-then-is_topic : goal.returns-then-is_topic
returns-then-is_topic c =
    found_as is_topic c.args.name.now c.self.inside.entities.entries c.in_ok-place.place (c.in_ok-place.field-0-1.now, c.in_ok-place.declared.now) true
    c.self.invariant.0.distinct_names c.in_ok-place.ensures.index c.in_ok-place.ensures.entry (sym c.is_topic.ensures ∙ c.if-is_topic.true)
    ∙ ap (λ (shape : GraphData). position_from (is_named is_topic c.args.name.now) 0 shape.entities) c.self.view_is

pub returns-else-is_topic : goal.returns-else-is_topic
returns-else-is_topic c =
    found_as is_topic c.args.name.now c.self.inside.entities.entries c.in_ok-place.place (c.in_ok-place.field-0-1.now, c.in_ok-place.declared.now) false
    c.self.invariant.0.distinct_names c.in_ok-place.ensures.index c.in_ok-place.ensures.entry (sym c.is_topic.ensures ∙ c.if-is_topic.false)
    ∙ ap (λ (shape : GraphData). position_from (is_named is_topic c.args.name.now) 0 shape.entities) c.self.view_is
