use Rattle.std.proofs.Common.{List, [], ◌∷◌, ◌++◌, ap, ◌∙◌}
use Rattle.exec_msg.proofs.Cells.{cells_added, whole_added}
use Rattle.exec_msg.specs.declared.line.Line.{Line}
use Rattle.exec_msg.proofs.transcript.TranscriptLines.add.Goals as goal

pub invariant_of-self-then-push_line : goal.invariant_of-self-then-push_line
invariant_of-self-then-push_line c =
    let added = cells_added c.self.inside.cells.items c.reserve.new.self.items c.push_line.new.cells.items c.self.inside.told c.push_line.new.told c.self.inside.wholes.items c.args.line.now c.self.invariant.0 c.self.invariant.1 c.in_ok-reserve.ensures.items
    (c.push_line.ensures.pushed c.if-push_line.true) in
    (added.1, added.2)

pub returns-then-push_line-clause-ok : goal.returns-then-push_line-clause-ok
returns-then-push_line-clause-ok c =
    (cells_added c.self.inside.cells.items c.reserve.new.self.items c.push_line.new.cells.items c.self.inside.told c.push_line.new.told c.self.inside.wholes.items c.args.line.now c.self.invariant.0 c.self.invariant.1 c.in_ok-reserve.ensures.items
    (c.push_line.ensures.pushed c.if-push_line.true)).0
    ∙ ap (λ (lines : List Line). lines ++ c.args.line.now ∷ []) c.self.view_is

pub invariant_of-self-2 : goal.invariant_of-self-2
invariant_of-self-2 c =
    let left = c.push_line.ensures.left c.if-push_line.false in
    let added = whole_added c.self.inside.cells.items c.push_line.new.cells.items c.push_reserved.new.self.items c.self.inside.told c.push_line.new.told c.self.inside.wholes.items c.args.line.now c.self.invariant.0 c.self.invariant.1 (left.0 ∙ c.in_ok-reserve.ensures.items)
    c.push_copy.new.items.items c.push_reserved.ensures.items c.in_ok-push_copy.ensures.ok left.1 in
    (added.1, added.2)

pub returns-clause-ok : goal.returns-clause-ok
returns-clause-ok c =
    let left = c.push_line.ensures.left c.if-push_line.false in
    (whole_added c.self.inside.cells.items c.push_line.new.cells.items c.push_reserved.new.self.items c.self.inside.told c.push_line.new.told c.self.inside.wholes.items c.args.line.now c.self.invariant.0 c.self.invariant.1 (left.0 ∙ c.in_ok-reserve.ensures.items)
    c.push_copy.new.items.items c.push_reserved.ensures.items c.in_ok-push_copy.ensures.ok left.1).0
    ∙ ap (λ (lines : List Line). lines ++ c.args.line.now ∷ []) c.self.view_is
