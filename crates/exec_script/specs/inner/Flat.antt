-- Instructions in their flat form.
use Rattle.std.specs.Prelude.{ℕ, pos}
use Rattle.exec_script.specs.Instruction.{Instruction, Set, Skip, Pub, Call, Goal, CancelAll, CancelGoal, Execute, Log, Reply, Decide, Feedback, Wait, Yield, Succeed, Abort, Canceled}
use Rattle.exec_script.specs.Script.{at_least_0}
use Rattle.exec_script.specs.inner.Cells.{cell_operand, cell_of, constant_of}
use Rattle.exec_script.specs.declared.instr.Destination.TheVariants as destination
use Rattle.exec_script.specs.declared.instr.Flat.{Flat}
use Rattle.exec_script.specs.declared.instr.Operand.{Operand}
use Rattle.exec_script.specs.declared.instr.Operand.TheVariants as operand
use Rattle.exec_script.specs.declared.instr.Operation.{Operation}
use Rattle.exec_script.specs.declared.instr.Operation.TheVariants as operation
use Rattle.exec_script.specs.declared.instr.Opcode.{Opcode}
use Rattle.exec_script.specs.declared.instr.Opcode.TheVariants as opcode

-- the two operands of a flat instruction
abbrev pub left_of : Flat → Operand
left_of flat = cell_operand flat.left_place flat.left

abbrev pub right_of : Flat → Operand
right_of flat = cell_operand flat.right_place flat.right

-- the instruction of this kind that a flat one is
abbrev pub made : Opcode → Flat → Instruction
made opcode.Set flat = Set flat.target flat.operation (left_of flat) (right_of flat)
made opcode.Skip flat = Skip (left_of flat) (at_least_0 flat.right)
made opcode.Pub flat = Pub flat.entity (left_of flat)
made opcode.Call flat = Call flat.entity (left_of flat)
made opcode.Goal flat = Goal flat.entity (left_of flat)
made opcode.CancelAll flat = CancelAll flat.entity (left_of flat)
made opcode.CancelGoal flat = CancelGoal flat.entity (left_of flat) (right_of flat)
made opcode.Execute flat = Execute flat.entity
made opcode.Log flat = Log (left_of flat)
made opcode.Reply flat = Reply (left_of flat)
made opcode.Decide flat = Decide (left_of flat)
made opcode.Feedback flat = Feedback (left_of flat)
made opcode.Wait flat = Wait (left_of flat)
made opcode.Yield flat = Yield
made opcode.Succeed flat = Succeed (left_of flat)
made opcode.Abort flat = Abort (left_of flat)
made opcode.Canceled flat = Canceled (left_of flat)

-- the instruction that a flat one is
abbrev pub as_instruction : Flat → Instruction
as_instruction flat = made flat.opcode flat

-- a flat instruction of one entity and two operands, with the first destination and operation
abbrev pub parts_of : Opcode → ℕ → Operand → Operand → Flat
parts_of kind entity left right = record {
  left = constant_of left;
  right = constant_of right;
  entity = entity;
  target = destination.Register 0;
  left_place = cell_of left;
  right_place = cell_of right;
  operation = operation.Add;
  opcode = kind;
}

-- the place of an operation among all
abbrev pub operation_number : Operation → ℕ
operation_number operation.Add = 0
operation_number operation.Sub = 1
operation_number operation.Mul = 2
operation_number operation.Min = 3
operation_number operation.Max = 4
operation_number operation.Lt = 5
operation_number operation.Eq = 6

-- an operand that is always 0
abbrev pub no_operand : Operand
no_operand = operand.Value (pos 0)

-- the flat form of an instruction
abbrev pub flat_of : Instruction → Flat
flat_of (Set target does left right) = record (parts_of opcode.Set 0 left right) { target = target; operation = does }
flat_of (Skip condition count) = parts_of opcode.Skip 0 condition (operand.Value (pos count))
flat_of (Pub topic value) = parts_of opcode.Pub topic value no_operand
flat_of (Call client value) = parts_of opcode.Call client value no_operand
flat_of (Goal client value) = parts_of opcode.Goal client value no_operand
flat_of (CancelAll client stamp) = parts_of opcode.CancelAll client stamp no_operand
flat_of (CancelGoal client goal stamp) = parts_of opcode.CancelGoal client goal stamp
flat_of (Execute server) = parts_of opcode.Execute server no_operand no_operand
flat_of (Log value) = parts_of opcode.Log 0 value no_operand
flat_of (Reply value) = parts_of opcode.Reply 0 value no_operand
flat_of (Decide value) = parts_of opcode.Decide 0 value no_operand
flat_of (Feedback value) = parts_of opcode.Feedback 0 value no_operand
flat_of (Wait ticks) = parts_of opcode.Wait 0 ticks no_operand
flat_of Yield = parts_of opcode.Yield 0 no_operand no_operand
flat_of (Succeed value) = parts_of opcode.Succeed 0 value no_operand
flat_of (Abort value) = parts_of opcode.Abort 0 value no_operand
flat_of (Canceled value) = parts_of opcode.Canceled 0 value no_operand
