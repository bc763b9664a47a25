use Rattle.std.proofs.Common.{◌∙◌, sym, ap, None, Some}
use Rattle.std.specs.Option.{option_map}
use Rattle.exec_goal.proofs.Entries.{ids_decide, key_test, found-in}
use Rattle.exec_goal.specs.Table.{GoalRecord}
use Rattle.exec_goal.proofs.goals.Goals.state.Goals as goal

pub returns-in_err-held : goal.returns-in_err-held
returns-in_err-held c =
    c.from_residual.ensures
    ∙ sym (ap (option_map (λ (goal : GoalRecord). goal.state)) (found-in _ c.args.id (key_test _ (λ a b. ids_decide a b) c.args.id) c.self.inside.held.entries c.args.self.now None c.self.view_is c.in_err-held.ensures.value))

pub returns : goal.returns
returns c =
    sym (ap (option_map (λ (goal : GoalRecord). goal.state)) (found-in _ c.args.id (key_test _ (λ a b. ids_decide a b) c.args.id) c.self.inside.held.entries c.args.self.now (Some c.in_ok-held.held.now) c.self.view_is c.in_ok-held.ensures.value))
