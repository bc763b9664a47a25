use Rattle.std.proofs.Common.{◌≡◌, map, take}
use Rattle.exec_rules.specs.Transcript.{run_all}
use Rattle.exec_rules.specs.inner.Listing.{with_script_of}
use Rattle.exec_world.proofs.state.WorldBody.run_each.Given as goal

-- the callbacks so far ran
abbrev pub invariant-loop-listed : goal.invariant-loop-listed
invariant-loop-listed g l = l.self ≡ run_all (map (with_script_of l.graph) (take l.listed-index l.list)) l.initial.self
