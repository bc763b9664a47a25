use Rattle.std.proofs.Common.{◌≡◌, ◌++◌, map, take, drop}
use Rattle.std.specs.List.{flat_map}
use Rattle.exec_rules.specs.Transcript.{expire_lines, server_expired}
use Rattle.exec_rules.specs.World.{ServerEntry}
use Rattle.exec_entity.proofs.server.expiring.expire_each.Given as goal

-- the servers so far are without what they forget, each with its lines
abbrev pub invariant-loop-place : goal.invariant-loop-place
invariant-loop-place g l = record {
  servers : l.servers ≡ map (server_expired l.moment) (take l.place l.initial.servers) ++ drop l.place l.initial.servers;
  lines : g.L.Lines.lines l.lines ≡ g.L.Lines.lines l.initial.lines ++ flat_map (expire_lines l.moment) (take l.place l.initial.servers);
  numbers : map (λ (server : ServerEntry). server.handler.entity) l.servers ≡ map (λ (server : ServerEntry). server.handler.entity) l.initial.servers;
}
