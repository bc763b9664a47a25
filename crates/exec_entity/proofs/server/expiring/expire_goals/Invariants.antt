use Rattle.std.proofs.Common.{◌≡◌, ◌++◌}
use Rattle.exec_rules.specs.Transcript.{expire_lines, server_expired}
use Rattle.exec_entity.proofs.server.expiring.expire_goals.Given as goal

-- what is left to forget, from here, is the whole, from the start
abbrev pub invariant-loop-turn : goal.invariant-loop-turn
invariant-loop-turn g l = record {
  kept : server_expired l.moment l.server ≡ server_expired l.moment l.initial.server;
  lines : g.L.Lines.lines l.lines ++ expire_lines l.moment l.server ≡ g.L.Lines.lines l.initial.lines ++ expire_lines l.moment l.initial.server;
}
