use Rattle.std.proofs.Common.{◌≡◌, ◌<◌, ◌+◌, ◌^◌, [], map, replicate, vec_len, reverse}
use Rattle.exec_round.specs.inner.Shares.{dealt, dealt_from}
use Rattle.exec_round.proofs.forking.deal.Given as goal

-- so many shares have nothing
abbrev pub invariant-loop : goal.invariant-loop
invariant-loop l = map (λ share. share.items) l.shares.items ≡ replicate l.counter []

-- what is dealt from here is what is dealt from the first lane on
abbrev pub invariant-loop-lane : goal.invariant-loop-lane
invariant-loop-lane l =
    (dealt_from l.count l.number (reverse l.lanes.items) (map (λ share. share.items) l.shares.items) ≡ dealt l.count l.fn.lanes.items)
    × (vec_len l.shares ≡ l.count)
    × (l.number + vec_len l.lanes < 2 ^ 64)

abbrev pub decreases-loop-lane : goal.decreases-loop-lane
decreases-loop-lane l = vec_len l.lanes
