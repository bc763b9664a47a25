use Rattle.std.proofs.Common.{Bool, List, ◌++◌, filter_map, option_and_then, sym, ap, ◌∙◌, arith}
use Rattle.exec_script.specs.declared.fault.ScriptFault.{ScriptFault}
use Rattle.exec_plan.specs.Entity.{scripts_of}
use Rattle.exec_graph.specs.inner.Directory.{fault_at, faults_of}
use Rattle.exec_graph.proofs.EntityOrder.{next_listed, listed_of_there}
use Rattle.exec_graph.proofs.draft.faults.append_faults.Goals as goal

pub loop-script-init : goal.loop-script-init
loop-script-init c =
    ap (λ (faults : List ScriptFault). c.args.faults.now.items ++ faults)
    (listed_of_there (fault_at c.is_reentrant-reentrant.result) c.scripts.result
    ∙ ap (filter_map (fault_at c.is_reentrant-reentrant.result)) c.scripts.ensures
    ∙ ap (λ (reentrant : Bool). filter_map (fault_at reentrant) (scripts_of c.in-Entity.entity.is)) c.is_reentrant-reentrant.ensures
    ∙ ap (faults_of c.args.groups.now) (sym c.in-Entity.is))

pub loop-script-preserved : goal.loop-script-preserved
loop-script-preserved c =
    next_listed (option_and_then (fault_at c.is_reentrant-reentrant.result)) c.scripts.result c.loop-script.script-index c.script-item.result
    c.loop-script.faults.items c.append_fault.new.faults.items c.fault_of.result (omega (arith, c.loop-script-test.true, c.type_inv.script-items)) c.script-item.is
    c.in_ok-append_fault.ensures
    (c.fault_of.ensures ∙ ap (option_and_then (fault_at c.is_reentrant-reentrant.result)) (sym c.script-item.is))
    ∙ c.loop-script.invariant
