use Rattle.std.proofs.Common.{◌≡◌, take}
use Rattle.exec_world.specs.inner.Mail.{sent_to_each}
use Rattle.exec_world.proofs.mail.Mail.send_each.Given as goal

-- the entities so far have the item
abbrev pub invariant-loop-entity : goal.invariant-loop-entity
invariant-loop-entity g l = l.self ≡ sent_to_each (take l.entity-index l.entities) l.item l.initial.self
