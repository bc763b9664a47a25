use Rattle.std.proofs.Common.{SFits, rules, ℕ, ◌+◌, w64, refl, ap, sym, ◌∙◌}
use Rattle.std.proofs.lemmas.Int.{to_z-of_z}
use Rattle.std.specs.Option.{option_map}
use Rattle.std.proofs.lemmas.Result.{on_ok_weaker}
use Rattle.exec_msg.specs.Lists.{change_first}
use Rattle.exec_msg.specs.declared.line.Line.TheVariants as line
use Rattle.exec_world.proofs.Giving.{called}
use Rattle.exec_rules.specs.World.{ClientEntry, WorldState, add_line, client_at, client_called, is_client_at, push}
use Rattle.exec_rules.specs.declared.item.Item.TheVariants as item
use Rattle.exec_world.proofs.state.WorldBody.call.Goals as goal

pub returns : goal.returns
returns g c =
    let here = c.self.view_is in
    let fits : SFits w64 c.args.value = search rules in
    let value = to_z-of_z w64 c.args.value fits in
    let clients = c.in_ok-made.ensures.called ∙ ap (λ (world : WorldState). change_first (is_client_at c.args.client) client_called world.clients) here in
    let made = ap (λ (world : WorldState). option_map {U = ℕ × ℕ} (λ (entry : ClientEntry). (entry.service, entry.calls + 1)) (client_at c.args.client world)) (sym here) ∙ sym c.in_ok-made.ensures.made ∙ c.in-Some.is in
    on_ok_weaker c.send.result (λ sent. sent
    ∙ (λ i. push c.in-Some.made.0 (item.Request c.args.client c.in-Some.made.1 (value i)) (add_line (line.Call c.args.client c.in-Some.made.1 (value i)) (record (here i) { clients = clients i })))
    ∙ called c.args.client c.args.value c.args.self.now (client_at c.args.client c.args.self.now) refl c.in-Some.made.0 c.in-Some.made.1 made) c.send.ensures
