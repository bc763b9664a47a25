use Rattle.std.proofs.Common.{[], Option, slice_get, ap, sym, ◌∙◌}
use Rattle.std.proofs.lemmas.Result.{on_ok_weaker}
use Rattle.std.specs.Option.{option_map_or}
use Rattle.exec_world.proofs.ListedFronts.{front_listed}
use Rattle.exec_rules.specs.World.{Handler, ServerEntry, goals_in, records_of}
use Rattle.exec_rules.specs.inner.Listing.{listed_behind}
use Rattle.exec_world.proofs.fronts.Fronts.list_served.Goals as goal

pub returns : goal.returns
returns c =
    let servers = c.args.self.now.servers.now in
    let held = ap (λ (found : Option ServerEntry). option_map_or (λ entry. records_of entry.held) found []) c.find-server.ensures
    ∙ ap (λ (handler : Handler). goals_in handler.entity servers) (c.handler.view_is ∙ c.handler-handler.ensures) in
    on_ok_weaker c.push.result
    (λ listed. listed _ (sym c.in_ok-listed_for_item.ensures) ∙ ap (listed_behind c.args.list.now)
    (front_listed c.args.self.now.moment servers (slice_get c.args.queues.now c.args.place) c.in-Some.queue.now c.in-Some-front.item c.handler-handler.result.now _
    c.in-Some.ensures c.in-Some-front.ensures held c.handler-handler.ensures))
    c.push.ensures.listed
