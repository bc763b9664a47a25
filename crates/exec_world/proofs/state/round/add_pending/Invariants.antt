use Rattle.std.proofs.Common.{◌≡◌, ◌++◌, length, take}
use Rattle.std.specs.List.{flat_map}
use Rattle.exec_rules.specs.Transcript.{pending_by}
use Rattle.exec_rules.specs.World.{ClientEntry}
use Rattle.exec_world.proofs.state.round.add_pending.Given as goal

-- the clients so far have their lines
abbrev pub invariant-loop-client : goal.invariant-loop-client
invariant-loop-client g l =
    l.mail ≡ record l.initial.mail { lines = l.initial.mail.lines ++ flat_map (λ (entry : ClientEntry). pending_by entry.entity (length entry.pending)) (take l.client-index l.clients) }
