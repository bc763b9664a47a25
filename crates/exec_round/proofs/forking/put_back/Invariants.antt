use Rattle.std.proofs.Common.{◌≡◌, ◌++◌, map, vec_len, reverse}
use Rattle.exec_round.specs.inner.Shares.{put_back}
use Rattle.exec_round.proofs.forking.put_back.Given as goal

-- what is left to put back, and what was, is all
abbrev pub invariant-loop-left : goal.invariant-loop-left
invariant-loop-left l =
    (put_back l.count l.left (map (λ share. share.items) l.shares.items) ++ reverse l.lanes.items ≡ put_back l.count l.number (map (λ share. share.items) l.fn.shares.items))
    × (vec_len l.shares ≡ l.count)

abbrev pub decreases-loop-left : goal.decreases-loop-left
decreases-loop-left l = l.left
