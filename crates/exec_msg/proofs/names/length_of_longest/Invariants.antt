use Rattle.std.proofs.Common.{◌≡◌, drop, map, max, string_bytes}
use Rattle.exec_msg.specs.Line.{greatest_length}
use Rattle.exec_msg.proofs.names.length_of_longest.Given as goal

-- the longest so far, or one that is left, is the longest
abbrev pub invariant-loop-text : goal.invariant-loop-text
invariant-loop-text l = max l.longest (greatest_length (map string_bytes (drop l.text-index l.texts))) ≡ greatest_length (map string_bytes l.texts)
