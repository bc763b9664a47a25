use Rattle.std.proofs.Common.{◌∙◌, sym, ap}
use Rattle.exec_goal.specs.Table.{holds_id}
use Rattle.exec_goal.proofs.Entries.{ids_decide, key_test, holds-lookup}
use Rattle.exec_goal.proofs.goals.Goals.holds.Goals as goal

pub returns : goal.returns
returns c = c.contains_key.ensures ∙ sym (holds-lookup _ c.args.id (key_test _ (λ a b. ids_decide a b) c.args.id) c.self.inside.held.entries) ∙ ap (λ goals. holds_id c.args.id goals) c.self.view_is
