use Rattle.std.proofs.Common.{◌≡◌, ◌∙◌, Some, ap, sym}
use Rattle.std.specs.List.{list_any}
use Rattle.exec_entity.proofs.Expiring.{lasting-in, settled}
use Rattle.exec_entity.proofs.Joined.{goals-now}
use Rattle.exec_goal.specs.Table.{is_expired}
use Rattle.exec_rules.specs.World.{ServerEntry, records_of}
use Rattle.exec_entity.proofs.server.Server.has_expired.Goals as goal

pub returns-in-None-clause-found : goal.returns-in-None-clause-found
returns-in-None-clause-found c = sym (lasting-in c.args.moment c.args.self.now.timeout (records_of c.args.self.now.held) (sym (ap (λ (server : ServerEntry). server.timeout) c.self.view_is) ∙ c.in-None.is))

pub returns-in-None-clause-settled : goal.returns-in-None-clause-settled
returns-in-None-clause-settled c = λ none. settled c.args.moment c.args.self.now (sym (returns-in-None-clause-found c))

pub returns-in-Some-clause-found : goal.returns-in-Some-clause-found
returns-in-Some-clause-found c =
    let lasts : Some c.in-Some.timeout ≡ c.args.self.now.timeout = sym c.in-Some.is ∙ ap (λ (server : ServerEntry). server.timeout) c.self.view_is in
    c.has_expired.ensures.found ∙ (λ i. list_any (is_expired c.args.moment (lasts i)) (goals-now c.self.invariant.0 c.self.view_is i))

pub returns-in-Some-clause-settled : goal.returns-in-Some-clause-settled
returns-in-Some-clause-settled c = λ none. settled c.args.moment c.args.self.now (sym (returns-in-Some-clause-found c) ∙ none)
