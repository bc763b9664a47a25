use Rattle.std.proofs.Common.{◌≡◌, ◌++◌, ◌≤◌, length, take}
use Rattle.exec_msg.specs.Line.{transcript_text}
use Rattle.exec_msg.proofs.transcript.Transcript.text.Given as goal

-- what is placed and what is left are the whole
abbrev pub invariant-loop-text : goal.invariant-loop-text
invariant-loop-text l =
    (take l.end l.text.items ++ transcript_text l.fn.names l.reader.lines ≡ transcript_text l.fn.names l.fn.self)
    × (l.reader.names ≡ l.fn.names)
    × (l.end ≤ length l.text.items)

abbrev pub decreases-loop-text : goal.decreases-loop-text
decreases-loop-text l = length l.reader.lines
