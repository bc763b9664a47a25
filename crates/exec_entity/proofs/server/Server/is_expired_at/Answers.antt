use Rattle.std.proofs.Common.{◌≡◌, Some, slice_index_or, ap, sym, ◌∙◌, arith}
use Rattle.exec_goal.specs.Table.{is_expired}
use Rattle.exec_entity.proofs.Joined.{goals-now, length-now}
use Rattle.exec_rules.specs.World.{ServerEntry}
use Rattle.exec_entity.proofs.server.Server.is_expired_at.Goals as goal

pub is_expired_at-requires : goal.is_expired_at-requires
is_expired_at-requires c = omega (arith, c.requires, length-now c.self.invariant.0 c.self.view_is)

pub returns-in-Some : goal.returns-in-Some
returns-in-Some c = λ d.
    let lasts : Some c.in-Some.timeout ≡ c.args.self.now.timeout = sym c.in-Some.is ∙ ap (λ (server : ServerEntry). server.timeout) c.self.view_is in
    c.is_expired_at.ensures d ∙ (λ i. is_expired c.args.moment (lasts i) (slice_index_or (goals-now c.self.invariant.0 c.self.view_is i) c.args.index d))
