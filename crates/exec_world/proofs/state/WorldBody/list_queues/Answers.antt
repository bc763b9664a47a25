use Rattle.std.proofs.Common.{ap, ◌∙◌}
use Rattle.std.proofs.lemmas.Result.{on_ok_weaker}
use Rattle.exec_world.proofs.Snapshots.{listed_in_part}
use Rattle.exec_world.specs.inner.Mail.{MailState}
use Rattle.exec_world.proofs.state.WorldBody.list_queues.Goals as goal

pub returns-clause-list : goal.returns-clause-list
returns-clause-list g c =
    on_ok_weaker c.list_all.result
    (listed_in_part c.args.before_polls c.queues.result.now c.deref.result.now c.args.moment c.args.scratch.now.list c.list_all.new.list
    c.self.view_is (c.queues.ensures ∙ ap (λ (mail : MailState). mail.queues) c.list_filled.ensures.same) (c.deref.ensures.value ∙ c.in_ok-list_filled.ensures.places))
    c.list_all.ensures
