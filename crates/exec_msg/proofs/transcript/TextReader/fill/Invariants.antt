use Rattle.std.proofs.Common.{◌≡◌, ◌++◌, ◌<◌, ◌≤◌, length, take}
use Rattle.exec_msg.specs.Line.{transcript_text}
use Rattle.exec_msg.proofs.transcript.TextReader.fill.Given as goal

-- what is placed and what is left are the whole, and something was placed
abbrev pub invariant-loop-end : goal.invariant-loop-end
invariant-loop-end l =
    (take l.fn.at l.fn.buffer ++ transcript_text l.fn.self.names l.fn.self.lines ≡ take l.end l.buffer ++ transcript_text l.fn.self.names l.left)
    × (l.self-inside.texts ≡ l.fn.self.names)
    × (l.end ≤ length l.buffer)
    × (length l.buffer ≡ length l.fn.buffer)
    × (length l.left < length l.fn.self.lines)

abbrev pub decreases-loop-end : goal.decreases-loop-end
decreases-loop-end l = length l.left
