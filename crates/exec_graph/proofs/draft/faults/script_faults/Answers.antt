use Rattle.std.proofs.Common.{◌∙◌}
use Rattle.std.specs.Map.{values_of}
use Rattle.exec_graph.specs.inner.Directory.{faults_of}
use Rattle.exec_graph.proofs.EntityOrder.{next_at}
use Rattle.exec_graph.proofs.draft.faults.script_faults.Goals as goal

pub loop-number-preserved : goal.loop-number-preserved
loop-number-preserved c =
    next_at (faults_of c.args.groups.now) (values_of c.args.entities.now.entries) c.loop-number.number c.index.result.now
    c.loop-number.faults.items c.append_faults.new.faults.items c.index.ensures c.in_ok-append_faults.ensures
    ∙ c.loop-number.invariant
