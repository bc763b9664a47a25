use Rattle.std.proofs.Common.{ℕ, List, take, ap, sym, ◌∙◌}
use Rattle.std.specs.List.{fold}
use Rattle.std.proofs.lemmas.List.{take_all}
use Rattle.std.proofs.lemmas.List.Sums.{fold_more}
use Rattle.exec_world.specs.inner.Mail.{MailState, sent_to, sent_to_each}
use Rattle.exec_world.proofs.mail.Mail.send_each.Goals as goal

pub loop-entity-preserved : goal.loop-entity-preserved
loop-entity-preserved g c =
    let step = λ (mail : MailState) (entity : ℕ). sent_to entity c.args.item.now mail in
    c.in_ok-send.ensures
    ∙ ap (λ (mail : MailState). step mail c.entity-item.result) c.loop-entity.invariant
    ∙ ap (step (fold step c.args.self.now (take c.loop-entity.entity-index c.args.entities.now))) c.entity-item.is
    ∙ sym (fold_more step c.args.self.now c.args.entities.now c.loop-entity.entity-index c.entity-item.result c.loop-entity-test.true)

pub returns : goal.returns
returns g c =
    c.loop-entity.invariant
    ∙ ap (λ (all : List ℕ). sent_to_each all c.args.item.now c.args.self.now) (take_all c.loop-entity.entity-index c.args.entities.now c.loop-entity-test.false)
