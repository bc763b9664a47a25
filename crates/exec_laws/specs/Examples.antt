-- Worked plans of which laws speak.
use Rattle.std.specs.Prelude.{pos, [], ◌∷◌, codes, true, None, Some}
use Rattle.exec_plan.specs.Graph.{in_group}
use Rattle.exec_plan.specs.declared.entity.EntityOf.TheVariants.{ActionClient, Server, Timer}
use Rattle.exec_plan.specs.Plan.{PlanData}
use Rattle.exec_plan.specs.declared.order.Order.TheVariants as order
use Rattle.exec_script.specs.declared.instr.Destination.TheVariants as destination
use Rattle.exec_script.specs.Instruction as instr
use Rattle.exec_script.specs.declared.instr.Operand.TheVariants as operand
use Rattle.exec_script.specs.declared.instr.Operation.TheVariants as operation

-- a timer `t` of period 10 whose calls at 20 and 30 no round sees
abbrev pub late : PlanData
late = record {
  graph = record {
    nodes = codes "n" ∷ [];
    groups = record { node = 0; name = None; exclusive = true } ∷ [];
    entities =
        record { name = codes "t"; is = in_group 0 (Timer (record { period = 10; script = instr.Log operand.Now ∷ [] })) }
        ∷ [];
  };
  order = order.Kind;
  moments = 0 ∷ 10 ∷ 35 ∷ 40 ∷ [];
  feed = [];
}

-- an action client whose queue of results is full
abbrev pub full_result_queue : PlanData
full_result_queue = record {
  graph = record {
    nodes = codes "n" ∷ [];
    groups = record { node = 0; name = None; exclusive = true } ∷ [];
    entities =
        record { name = codes "t"; is = in_group 0 (Timer (record { period = 9; script = instr.Goal 2 (operand.Value (pos 1)) ∷ instr.Goal 2 (operand.Value (pos 2)) ∷ instr.Goal 2 (operand.Value (pos 3)) ∷ instr.Goal 3 (operand.Value (pos 4)) ∷ [] })) }
        ∷ record { name = codes "a"; is = in_group 0 (Server (record { depth = 4; result_timeout = None; on_goal = instr.Decide (operand.Value (pos 2)) ∷ []; on_cancel = instr.Decide (operand.Value (pos 2)) ∷ []; script = instr.Set (destination.Register 0) operation.Sub (operand.Value (pos 15)) operand.Now ∷ instr.Wait (operand.Register 0) ∷ instr.Succeed operand.In ∷ [] })) }
        ∷ record { name = codes "k1"; is = in_group 0 (ActionClient (record { server = 1; depth = 1; on_response = []; on_code = []; on_feedback = []; on_result = Some (instr.Log operand.Aux ∷ []) })) }
        ∷ record { name = codes "k2"; is = in_group 0 (ActionClient (record { server = 1; depth = 1; on_response = []; on_code = []; on_feedback = []; on_result = Some (instr.Log operand.In ∷ []) })) }
        ∷ [];
  };
  order = order.Kind;
  moments = 9 ∷ 10 ∷ 11 ∷ 12 ∷ 13 ∷ 14 ∷ 15 ∷ 16 ∷ 17 ∷ [];
  feed = [];
}
