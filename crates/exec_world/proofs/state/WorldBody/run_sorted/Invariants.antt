use Rattle.std.proofs.Common.{◌≡◌, take}
use Rattle.exec_world.specs.inner.Arrivals.{run_arrived}
use Rattle.exec_world.proofs.state.WorldBody.run_sorted.Given as goal

-- the callbacks of the arrivals so far ran
abbrev pub invariant-loop-arrived : goal.invariant-loop-arrived
invariant-loop-arrived g l = l.self ≡ run_arrived l.parts l.initial.self (take l.arrived-index l.arrived-items)
