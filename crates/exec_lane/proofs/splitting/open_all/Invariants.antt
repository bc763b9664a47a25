use Rattle.std.proofs.Common.{◌≡◌, ◌++◌, length, map, reverse}
use Rattle.std.specs.Arc.{arc_value}
use Rattle.std.specs.List.{AllByRecursion}
use Rattle.exec_lane.specs.inner.Buffered.{entries_in}
use Rattle.exec_lane.specs.inner.Cuts.{IsUnrun, opened_entries}
use Rattle.exec_lane.proofs.splitting.open_all.Given as goal

-- what is opened and what is still to be opened are all
abbrev pub invariant-loop-lane : goal.invariant-loop-lane
invariant-loop-lane g l =
    (l.opened.items ++ map (λ lane. opened_entries l.fn.world.state (entries_in (arc_value l.list).items lane.value)) (reverse l.lanes.items)
    ≡ map (opened_entries l.fn.world.state) (map (λ lane. entries_in (arc_value l.list).items lane.value) l.fn.lanes.items))
    × (l.world ≡ l.fn.world)
    × AllByRecursion (λ lane. IsUnrun (arc_value l.list).items lane.value) (reverse l.lanes.items)

abbrev pub decreases-loop-lane : goal.decreases-loop-lane
decreases-loop-lane g l = length l.lanes.items
