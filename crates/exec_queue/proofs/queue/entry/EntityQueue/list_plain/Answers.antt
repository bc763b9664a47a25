use Rattle.std.proofs.Common.{List, None, is_some, true, refl, sym, ap, ◌∙◌}
use Rattle.std.specs.Option.{option_copied}
use Rattle.exec_rules.specs.Ready.{candidates_for, item_ready, ready_for, script_to_take}
use Rattle.exec_rules.specs.World.{Queue}
use Rattle.exec_rules.specs.declared.ready.Cause.TheVariants as cause
use Rattle.exec_rules.specs.inner.Listing.{listed_behind}
use Rattle.exec_queue.proofs.PlainFronts.{first_listed}
use Rattle.exec_queue.specs.inner.Numbers.{items_of}
use Rattle.exec_queue.proofs.queue.entry.EntityQueue.list_plain.Goals as goal

pub returns-clause-listed : goal.returns-clause-listed
returns-clause-listed c is goals =
    let handler = c.self.inside.handler in
    let item = c.in-Some.item.now in
    let moment = c.args.moment in
    first_listed moment handler goals (items_of c.self.inside.queue.items) item c.args.list.now c.push.new.self (sym c.front_of.ensures ∙ ap option_copied c.in-Some.is)
    (c.in_ok-push.ensures.listed (ready_for moment handler (cause.Took item) (candidates_for item goals) (script_to_take item goals handler.script))
    ((λ i. record {
      ready = ready_for moment handler (cause.Took item) (c.if-asks_server.ensures.candidates refl goals i) None;
      runs = is_some (c.if-asks_server.ensures.script refl goals handler.script i);
    })
    ∙ sym (c.listed.ensures ∙ ap (λ (infos : List _). record { ready = ready_for moment handler (cause.Took item) infos None; runs = true }) c.new.ensures)))
    ∙ ap (λ (queue : Queue). listed_behind c.args.list.now (item_ready moment queue.handler goals queue.items)) c.self.view_is
