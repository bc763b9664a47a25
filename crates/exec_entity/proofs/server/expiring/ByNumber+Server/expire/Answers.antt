use Rattle.exec_entity.proofs.Closings.{finds_alike, mapped_back}
use Rattle.exec_rules.specs.World.{ServerEntry}
use Rattle.exec_entity.proofs.server.expiring.ByNumber+Server.expire.Goals as goal

pub invariant_of-self : goal.invariant_of-self
invariant_of-self g c =
    finds_alike c.self.inside.places c.self.inside.entries.items _
    (mapped_back (λ (server : ServerEntry). server.handler.entity) c.self.inside.entries.items c.deref_mut.result.now c.expire_each.new.servers c.self.inside.entries.len c.expire_each.ensures.numbers c.deref_mut.ensures.value c.deref_mut.ensures.len)
    c.self.invariant
