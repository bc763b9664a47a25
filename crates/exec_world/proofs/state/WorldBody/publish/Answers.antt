use Rattle.std.proofs.Common.{◌≡◌, SFits, rules, ◌==◌, Some, find, w64, ap, sym, ◌∙◌}
use Rattle.std.proofs.lemmas.Int.{to_z-of_z}
use Rattle.std.proofs.lemmas.Result.{on_ok_weaker}
use Rattle.exec_world.proofs.Giving.{published}
use Rattle.exec_rules.specs.World.{TopicEntry, WorldState}
use Rattle.exec_rules.specs.declared.item.Item.TheVariants as item
use Rattle.exec_world.specs.inner.Mail.{mail_of, sent_to_each, with_mail}
use Rattle.exec_world.proofs.state.WorldBody.publish.Goals as goal

pub returns : goal.returns
returns g c =
    let here = c.self.view_is in
    let fits : SFits w64 c.args.value = search rules in
    let value = to_z-of_z w64 c.args.value fits in
    let there : find (λ (one : TopicEntry). one.entity == c.args.topic) c.args.self.now.topics ≡ Some c.in-Some.found.now =
    ap (λ (world : WorldState). find (λ (one : TopicEntry). one.entity == c.args.topic) world.topics) (sym here) ∙ sym c.in-Some.ensures in
    on_ok_weaker c.send_each.result (λ sent.
    (λ i. with_mail (sent i) (here i))
    ∙ (λ i. with_mail (sent_to_each (c.subscribers.ensures i) (item.Message (value i)) (mail_of (here i))) c.args.self.now)
    ∙ published c.args.topic c.args.value c.args.self.now c.in-Some.found.now there) c.send_each.ensures
