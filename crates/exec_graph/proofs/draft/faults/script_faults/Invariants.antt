use Rattle.std.proofs.Common.{◌≡◌, ◌++◌, drop, flat_map}
use Rattle.std.specs.Map.{values_of}
use Rattle.exec_graph.specs.inner.Directory.{faults_of}
use Rattle.exec_graph.proofs.draft.faults.script_faults.Given as goal

-- the faults so far, and then those of the numbers that are left, are those of all
abbrev pub invariant-loop-number : goal.invariant-loop-number
invariant-loop-number l =
    l.faults.items ++ flat_map (faults_of l.groups) (drop l.number (values_of l.entities.entries))
    ≡ flat_map (faults_of l.groups) (values_of l.entities.entries)
