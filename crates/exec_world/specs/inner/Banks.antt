-- The variables of callback groups, and spare ones behind them.
use Rattle.std.specs.Prelude.{◌-◌, List, length, take, Bool, if◌then◌else◌, slice_set}
use Rattle.exec_plan.specs.Graph.{GroupNo}
use Rattle.exec_script.specs.Script.{Variables}

-- those that groups keep: all but the last
abbrev pub kept_of : List Variables → List Variables
kept_of all = take (length all - 1) all

-- what groups keep after a callback of one left these, whether its group is mutually exclusive or not
abbrev pub left_by : Bool → GroupNo → Variables → List Variables → List Variables
left_by exclusive group variables kept = if exclusive then slice_set kept group variables else kept
