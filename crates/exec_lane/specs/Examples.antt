-- A worked example: the lane of two timers of one callback group in their first round.
use Rattle.std.specs.Prelude.{ℤ, pos, List, [], ◌∷◌, codes, map, true, None}
use Rattle.exec_lane.specs.Lane.{LaneCallback, LeftByCallback, LaneState}
use Rattle.exec_plan.specs.Graph.{in_group}
use Rattle.exec_plan.specs.Plan.{PlanData}
use Rattle.exec_plan.specs.declared.order.Order.TheVariants as order
use Rattle.exec_plan.specs.declared.entity.EntityOf.TheVariants.{Timer}
use Rattle.exec_rules.specs.Calls.{new_world, ready_in}
use Rattle.exec_rules.specs.declared.ready.Ready.{Ready}
use Rattle.exec_script.specs.Instruction as instr
use Rattle.exec_script.specs.declared.effects.Close.TheVariants as close
use Rattle.exec_script.specs.declared.effects.Effect.TheVariants as effect
use Rattle.exec_script.specs.declared.instr.Destination.TheVariants as destination
use Rattle.exec_script.specs.declared.instr.Operand.TheVariants as operand
use Rattle.exec_script.specs.declared.instr.Operation.TheVariants as operation

-- two timers `d` and `a` of one callback group, both due in the one round: the first doubles the variable 0 and the second
-- adds 1 to it, and both log it
abbrev pub shared : PlanData
shared = record {
  graph = record {
    nodes = codes "n" ∷ [];
    groups = record { node = 0; name = None; exclusive = true } ∷ [];
    entities =
        record {
          name = codes "d";
          is = in_group 0 (Timer (record {
            period = 1;
            script = instr.Set (destination.Variable 0) operation.Mul (operand.Variable 0) (operand.Value (pos 2)) ∷ instr.Log (operand.Variable 0) ∷ [];
          }));
        }
        ∷ record {
          name = codes "a";
          is = in_group 0 (Timer (record {
            period = 1;
            script = instr.Set (destination.Variable 0) operation.Add (operand.Variable 0) (operand.Value (pos 1)) ∷ instr.Log (operand.Variable 0) ∷ [];
          }));
        }
        ∷ [];
  };
  order = order.Kind;
  moments = 1 ∷ [];
  feed = [];
}

-- the ready list of that round
abbrev pub first_ready : List Ready
first_ready = ready_in 1 (new_world shared)

-- a callback that polls no goal
abbrev pub alone : Ready → LaneCallback
alone one = record { ready = one; work = None }

-- the entries of their lane
abbrev pub first_entries : List LaneCallback
first_entries = map alone first_ready

-- a callback that logs a value
abbrev pub logs : ℤ → LeftByCallback
logs value = record { effects = record { list = effect.Log value ∷ []; close = close.Nothing }; work = None }

-- the lane after both: the first doubled the variable 0, and the second added 1 to it
abbrev pub lane_done : LaneState
lane_done = record { variables = pos 1 ∷ pos 0 ∷ pos 0 ∷ pos 0 ∷ pos 0 ∷ pos 0 ∷ pos 0 ∷ pos 0 ∷ []; left = logs (pos 0) ∷ logs (pos 1) ∷ [] }
