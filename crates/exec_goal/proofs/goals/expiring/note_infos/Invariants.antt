use Rattle.std.proofs.Common.{◌≡◌, length, map, take}
use Rattle.exec_goal.specs.Info.{info_of}
use Rattle.exec_goal.specs.inner.Held.{records_of}
use Rattle.exec_goal.proofs.goals.expiring.note_infos.Given as goal

-- what is known of the goals so far is written, and nothing is taken away
abbrev pub invariant-loop-place : goal.invariant-loop-place
invariant-loop-place l = record {
  written : take l.place l.infos.items ≡ take l.place (map info_of (records_of l.held.entries));
  long : length l.infos.items ≡ length l.initial.infos.items;
}
