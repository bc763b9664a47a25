use Rattle.std.proofs.Common.{◌≡◌, map, take}
use Rattle.exec_board.specs.inner.Homes.{AreWithin, word_at}
use Rattle.exec_board.proofs.board.home_words.Given as goal

-- the words of the boxes so far, each of which has run no more callbacks than it has
abbrev pub invariant-loop-lane : goal.invariant-loop-lane
invariant-loop-lane l = (l.words.items ≡ map word_at (take l.lane-index l.boxes)) × AreWithin (take l.lane-index l.boxes)
