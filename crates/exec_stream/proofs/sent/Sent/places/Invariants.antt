use Rattle.std.proofs.Common.{◌≡◌, length}
use Rattle.exec_stream.specs.Sent.{AreFound}
use Rattle.exec_stream.proofs.sent.Sent.places.Given as goal

-- the places of the first outcomes are noted
abbrev pub invariant-loop-place : goal.invariant-loop-place
invariant-loop-place l = record {
  len : length l.places.items ≡ l.count;
  found : AreFound l.self l.place l.places.items;
}
