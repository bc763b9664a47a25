use Rattle.std.proofs.Common.{◌≡◌, ◌++◌, drop, filter_map, option_and_then}
use Rattle.exec_graph.specs.inner.Directory.{fault_at, faults_of}
use Rattle.exec_graph.proofs.draft.faults.append_faults.Given as goal

-- the faults so far, and then those of the scripts that are left, are those before and those of all
abbrev pub invariant-loop-script : goal.invariant-loop-script
invariant-loop-script l =
    l.faults.items ++ filter_map (option_and_then (fault_at l.reentrant)) (drop l.script-index l.script-items)
    ≡ l.fn.faults.items ++ faults_of l.groups l.declared
