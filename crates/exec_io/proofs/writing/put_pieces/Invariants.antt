-- What is written, what stands in front of the buffer and what is left are the whole text.
use Rattle.std.proofs.Common.{◌≡◌, ◌+◌, ◌++◌, ◌≤◌, ℕ, List, length, take}
use Rattle.std.specs.Io.KnownBytes.{Appends}
use Rattle.exec_msg.specs.Line.{line_room, transcript_text}
use Rattle.exec_io.proofs.writing.put_pieces.Given as goal

abbrev pub invariant-loop-end : goal.invariant-loop-end
invariant-loop-end g l =
    ((written : List ℕ) × Appends (g.O.Out.sink l.initial.out).contents (g.O.Out.sink l.out).contents written
    × (written ++ (take l.at l.buffer ++ transcript_text l.fn.reader.names l.reader.lines) ≡ transcript_text l.fn.reader.names l.fn.reader.lines))
    × (l.reader.names ≡ l.fn.reader.names)
    × ((g.O.Out.sink l.out).failed ≡ (g.O.Out.sink l.initial.out).failed)
    × (l.at + line_room l.fn.reader.names ≤ length l.buffer)

abbrev pub decreases-loop-end : goal.decreases-loop-end
decreases-loop-end g l = length l.reader.lines
