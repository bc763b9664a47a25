use Rattle.std.proofs.Common.{◌∙◌, sym, ap, None, Some, slice_get, Option}
use Rattle.exec_goal.proofs.Entries.{ids_decide, key_test, found-in}
use Rattle.exec_goal.specs.Calls.{askers_of}
use Rattle.exec_goal.specs.Table.{GoalRecord}
use Rattle.exec_goal.proofs.goals.Goals.asker.Goals as goal

pub returns-in_err-goal : goal.returns-in_err-goal
returns-in_err-goal c =
    c.from_residual.ensures
    ∙ sym (ap (λ (found : Option GoalRecord). slice_get (askers_of found) c.args.index) (found-in _ c.args.id (key_test _ (λ a b. ids_decide a b) c.args.id) c.self.inside.held.entries c.args.self.now None c.self.view_is c.in_err-goal.ensures.value))

pub returns : goal.returns
returns c =
    c.copied.ensures
    ∙ c.get-2.ensures
    ∙ sym (ap (λ (found : Option GoalRecord). slice_get (askers_of found) c.args.index) (found-in _ c.args.id (key_test _ (λ a b. ids_decide a b) c.args.id) c.self.inside.held.entries c.args.self.now (Some c.in_ok-goal.goal.now) c.self.view_is c.in_ok-goal.ensures.value))
