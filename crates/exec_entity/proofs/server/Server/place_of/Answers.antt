use Rattle.std.proofs.Common.{ℕ, Some, List, slice_get, ap, sym, ◌∙◌}
use Rattle.std.specs.Option.{option_map}
use Rattle.exec_goal.proofs.Entries.{ids_decide}
use Rattle.exec_entity.proofs.Joined.{ids-now}
use Rattle.exec_entity.proofs.Placed.{named-there}
use Rattle.exec_entity.proofs.server.Server.place_of.Goals as goal

pub returns-in-Some-clause-at : goal.returns-in-Some-clause-at
returns-in-Some-clause-at c =
    let there = ap (option_map (λ p. (p.0.now, p.1.now))) (sym c.in-Some.is) ∙ c.get_index.ensures.entry in
    ap (λ (ids : List ℕ). slice_get ids c.self.inside.next) (sym (ids-now c.self.invariant.0 c.self.view_is))
    ∙ named-there c.self.inside.held.entries c.self.inside.next (c.in-Some.key.now, c.in-Some.field-0-1.now) there
    ∙ ap Some ((ids_decide c.in-Some.key.now c.args.id).0 (sym c.eq.ensures ∙ c.if-eq.true))
