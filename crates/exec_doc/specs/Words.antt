-- Words of the worked examples.
use Rattle.std.specs.Prelude.{ℕ, pos, List, [], ◌∷◌, codes, true, None}
use Rattle.exec_plan.specs.Graph.{EntityData}
use Rattle.exec_plan.specs.Plan.{PlanData, Feed}
use Rattle.exec_plan.specs.declared.order.Order.TheVariants as order
use Rattle.exec_script.specs.declared.instr.Operand.{Operand}
use Rattle.exec_script.specs.declared.instr.Operand.TheVariants as operand

-- a plan of one node `n`, all of whose entities are in its default group
abbrev pub one_node : List EntityData → List ℕ → List Feed → PlanData
one_node entities moments feed = record {
  graph = record {
    nodes = codes "n" ∷ [];
    groups = record { node = 0; name = None; exclusive = true } ∷ [];
    entities = entities;
  };
  order = order.Kind;
  moments = moments;
  feed = feed;
}

-- a written value
abbrev pub value : ℕ → Operand
value n = operand.Value (pos n)
