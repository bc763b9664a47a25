use Rattle.std.proofs.Common.{◌≡◌, take}
use Rattle.exec_rules.specs.Transcript.{run_all}
use Rattle.exec_world.proofs.state.WorldBody.run_all.Given as goal

-- the callbacks so far ran
abbrev pub invariant-loop-one : goal.invariant-loop-one
invariant-loop-one g l = l.self ≡ run_all (take l.one-index l.list) l.initial.self
