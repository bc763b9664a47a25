use Rattle.std.proofs.Common.{◌≡◌, ◌++◌, map, reverse, vec_len}
use Rattle.exec_lane.specs.Gather.{ran_in}
use Rattle.exec_lane.specs.Lane.{lanes_home}
use Rattle.exec_lane.proofs.gathering.bring_lanes_home.Given as goal

-- what is left to bring home, from here, is the whole, from the start
abbrev pub invariant-loop-lane : goal.invariant-loop-lane
invariant-loop-lane g l = record {
  ran : l.homes.items ++ map ran_in (reverse l.left.items) ≡ map ran_in l.fn.lanes.items;
  home : record l.world { state = lanes_home (reverse l.left.items) l.world.state } ≡ record l.fn.world { state = lanes_home l.fn.lanes.items l.fn.world.state };
}

abbrev pub decreases-loop-lane : goal.decreases-loop-lane
decreases-loop-lane g l = vec_len l.left
