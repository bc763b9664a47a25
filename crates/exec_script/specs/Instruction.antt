-- What an instruction of a script is.
use Rattle.std.specs.Prelude.{ℕ, List}
use Rattle.exec_msg.specs.Numbers.{EntityNo}
use Rattle.exec_script.specs.declared.instr.Destination.{Destination}
use Rattle.exec_script.specs.declared.instr.Operand.{Operand}
use Rattle.exec_script.specs.declared.instr.Operation.{Operation}

-- an instruction, with the numbers of the entities that it names: `set` stores what an operation gives for two operands;
-- `skip` has a condition and how many instructions it passes over; `pub`, `call`, `goal` and the two forms of `cancel` (which
-- have a stamp last, 0 for none; the second has the number of a goal before it) send something; `execute` has a server; the
-- others have an operand, but for `yield`
pub data Instruction : Type 0 where
  Set : Destination → Operation → Operand → Operand → Instruction
  Skip : Operand → ℕ → Instruction
  Pub : EntityNo → Operand → Instruction
  Call : EntityNo → Operand → Instruction
  Goal : EntityNo → Operand → Instruction
  CancelAll : EntityNo → Operand → Instruction
  CancelGoal : EntityNo → Operand → Operand → Instruction
  Execute : EntityNo → Instruction
  Log : Operand → Instruction
  Reply : Operand → Instruction
  Decide : Operand → Instruction
  Feedback : Operand → Instruction
  Wait : Operand → Instruction
  Yield : Instruction
  Succeed : Operand → Instruction
  Abort : Operand → Instruction
  Canceled : Operand → Instruction

-- a script: its instructions
abbrev pub Script : Type 0
Script = List Instruction
