use Rattle.std.proofs.Common.{ℕ, ◌∙◌, sym, ap, Some}
use Rattle.std.specs.Option.{option_map}
use Rattle.exec_goal.proofs.Looping.{record-at}
use Rattle.exec_goal.specs.Table.{is_expired}
use Rattle.exec_goal.specs.declared.held.GoalEntry.{GoalEntry}
use Rattle.exec_goal.proofs.goals.Goals.is_expired_at.Goals as goal

pub returns : goal.returns
returns c = λ d.
    let entry : ℕ × GoalEntry = (c.unwrap.result.0.now, c.unwrap.result.1.now) in
    c.is_expired.ensures entry.0
    ∙ ap (is_expired c.args.moment (Some c.args.timeout)) (sym (record-at c.self.inside.held.entries c.args.self.now c.args.index entry c.self.view_is (sym c.get_index.ensures.entry ∙ ap (option_map (λ p. (p.0.now, p.1.now))) c.unwrap.ensures) d))
