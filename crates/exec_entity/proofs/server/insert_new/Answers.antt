use Rattle.std.proofs.Common.{ap, ◌∙◌}
use Rattle.exec_goal.proofs.Entries.{ids_decide}
use Rattle.exec_entity.proofs.HeldEntries.{inserted-new, on_ok}
use Rattle.exec_entity.specs.inner.Server.{all_kept}
use Rattle.exec_entity.proofs.server.insert_new.Goals as goal

pub returns : goal.returns
returns c = ap all_kept (on_ok c.insert.result (c.insert.ensures.succeeds c.requires.room) c.insert.ensures.entries) ∙ inserted-new _ (λ a b. ids_decide a b) c.args.id _ c.args.held.now.entries c.requires.new
