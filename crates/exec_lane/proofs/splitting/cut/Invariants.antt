use Rattle.std.proofs.Common.{◌≡◌, drop}
use Rattle.exec_lane.proofs.Taken.{CutsOn}
use Rattle.exec_lane.proofs.splitting.cut.Given as goal

-- what is cut from the rest is what is cut from the whole
abbrev pub invariant-loop-place : goal.invariant-loop-place
invariant-loop-place g l = (l.cut.list ≡ l.fn.list.items) × CutsOn l.cut.lanes (drop l.place l.fn.list.items) l.world l.fn.list.items l.fn.world
