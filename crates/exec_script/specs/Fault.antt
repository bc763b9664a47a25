-- The numbers of a script's faults.
use Rattle.std.specs.Prelude.{ℕ}
use Rattle.exec_script.specs.declared.fault.ScriptFault.{ScriptFault}
use Rattle.exec_script.specs.declared.fault.ScriptFault.TheVariants as fault

-- the number of a fault: of several faults in one instruction the least counts
abbrev pub fault_number : ScriptFault → ℕ
fault_number fault.Instruction = 1
fault_number fault.Count = 2
fault_number fault.Operand = 3
fault_number fault.UnknownName = 4
fault_number fault.Skip = 5
fault_number fault.Place = 6
fault_number fault.GroupVariable = 7
fault_number fault.Memory = 8
