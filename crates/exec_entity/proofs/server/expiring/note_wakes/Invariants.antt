use Rattle.std.proofs.Common.{◌≡◌, length, take}
use Rattle.exec_entity.specs.inner.Server.{all_kept}
use Rattle.exec_entity.specs.inner.Waking.{wakes_of}
use Rattle.exec_entity.proofs.server.expiring.note_wakes.Given as goal

-- the moments so far are written, and none is taken away
abbrev pub invariant-loop-place : goal.invariant-loop-place
invariant-loop-place l = record {
  written : take l.place l.wakes.items ≡ take l.place (wakes_of (all_kept l.held.entries));
  long : length l.wakes.items ≡ length l.initial.wakes.items;
}
