use Rattle.std.proofs.Common.{ℕ, ◌∙◌, sym, ap, Bool}
use Rattle.std.specs.Option.{option_map}
use Rattle.exec_goal.proofs.Looping.{record-at}
use Rattle.exec_goal.specs.Table.{GoalRecord}
use Rattle.exec_goal.specs.declared.held.GoalEntry.{GoalEntry}
use Rattle.exec_goal.specs.inner.Tally.{first_with, first_with_goal}
use Rattle.exec_goal.proofs.goals.Goals.first_with_goal.Goals as goal

pub returns : goal.returns
returns c = λ d.
    let entry : ℕ × GoalEntry = (c.unwrap.result.0.now, c.unwrap.result.1.now) in
    c.first_with.ensures ∙ ap (λ (b : Bool). first_with b entry.1.ended c.args.first) c.is_terminal.ensures
    ∙ ap (λ (goal : GoalRecord). first_with_goal goal c.args.first) (sym (record-at c.self.inside.held.entries c.args.self.now c.args.index entry c.self.view_is (sym c.get_index.ensures.entry ∙ ap (option_map (λ p. (p.0.now, p.1.now))) c.unwrap.ensures) d))
