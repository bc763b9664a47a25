use Rattle.std.proofs.Common.{◌∙◌, ◌==◌, ℕ, List, sym, ap, map, length}
use Rattle.exec_goal.proofs.Looping.{empty-map, nonempty-map, code-unmoved, table-unmoved}
use Rattle.exec_goal.proofs.ReturnCodes.{none_from}
use Rattle.exec_goal.specs.Cancel.{moved, moves_by, after_answer_by}
use Rattle.exec_goal.specs.Table.{GoalRecord}
use Rattle.std.specs.List.{filter}
use Rattle.exec_goal.proofs.goals.Goals.answer.Goals as goal

pub returns-then-is_empty-clause-code : goal.returns-then-is_empty-clause-code
returns-then-is_empty-clause-code c =
    let ids = λ (goal : GoalRecord). goal.id in
    let listed = c.in_ok-moved.ensures ∙ (λ i. map ids (filter (moves_by (λ id. c.in_ok-accepted.ensures id i)) c.args.self.now)) in
    let none = empty-map ids (moved c.args.decisions.now c.args.self.now) (ap (λ (moved : List ℕ). length moved == 0) (sym listed) ∙ sym c.is_empty.ensures ∙ c.if-is_empty.true) in
    c.code_unmoved-code.ensures ∙ code-unmoved c.args.request.now c.args.decisions.now c.args.self.now none

pub returns-then-is_empty-clause-table : goal.returns-then-is_empty-clause-table
returns-then-is_empty-clause-table c =
    let ids = λ (goal : GoalRecord). goal.id in
    let listed = c.in_ok-moved.ensures ∙ (λ i. map ids (filter (moves_by (λ id. c.in_ok-accepted.ensures id i)) c.args.self.now)) in
    let none = empty-map ids (moved c.args.decisions.now c.args.self.now) (ap (λ (moved : List ℕ). length moved == 0) (sym listed) ∙ sym c.is_empty.ensures ∙ c.if-is_empty.true) in
    sym (table-unmoved c.args.decisions.now c.args.self.now none)

pub returns-clause-code : goal.returns-clause-code
returns-clause-code c =
    let ids = λ (goal : GoalRecord). goal.id in
    let listed = c.in_ok-moved.ensures ∙ (λ i. map ids (filter (moves_by (λ id. c.in_ok-accepted.ensures id i)) c.args.self.now)) in
    sym (none_from c.args.request.now c.args.decisions.now c.args.self.now
    (nonempty-map ids (moved c.args.decisions.now c.args.self.now) (ap (λ (moved : List ℕ). length moved == 0) (sym listed) ∙ sym c.is_empty.ensures ∙ c.if-is_empty.false)))

pub returns-clause-table : goal.returns-clause-table
returns-clause-table c = c.cancel.ensures ∙ (λ i. map (after_answer_by (λ id. c.in_ok-accepted.ensures id i)) c.args.self.now)
