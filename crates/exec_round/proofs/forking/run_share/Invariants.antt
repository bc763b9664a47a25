use Rattle.std.proofs.Common.{◌≡◌, take, true}
use Rattle.std.specs.List.{list_all}
use Rattle.exec_round.specs.inner.Running.{is_run, openings_of}
use Rattle.exec_round.proofs.forking.run_share.Given as goal

-- they are the lanes that they were, and the first of them were run
abbrev pub invariant-loop-lane : goal.invariant-loop-lane
invariant-loop-lane g l = (openings_of l.lane-items ≡ openings_of l.initial.lane-items) × (list_all is_run (take l.lane-index l.lane-items) ≡ true)
