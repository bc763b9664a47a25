-- The integers of a frame, by their places in its one array: registers, group variables, `in`, `aux`, `now`, and one that is
-- always 0.
use Rattle.std.specs.Prelude.{ℕ, zero, suc, ◌+◌, ◌-◌, nat_lt, Bool, true, false, if◌then◌else◌, ℤ, pos}
use Rattle.exec_script.specs.declared.instr.Destination.{Destination}
use Rattle.exec_script.specs.declared.instr.Destination.TheVariants as destination
use Rattle.exec_script.specs.declared.instr.Operand.{Operand}
use Rattle.exec_script.specs.declared.instr.Operand.TheVariants as operand

-- what an operand reads of a frame; one that is written in the script reads the 0, to which its value is added
pub data OperandCell : Type 0 where
  Register : ℕ → OperandCell
  Variable : ℕ → OperandCell
  In : OperandCell
  Aux : OperandCell
  Now : OperandCell
  Zero : OperandCell

-- what stands behind the registers and the variables
abbrev pub cell_behind : ℕ → OperandCell
cell_behind zero = In
cell_behind (suc zero) = Aux
cell_behind (suc (suc zero)) = Now
cell_behind (suc (suc (suc n))) = Zero

-- what stands at a place
abbrev pub cell_at : ℕ → OperandCell
cell_at place = if nat_lt place 8 then Register place else (if nat_lt place 16 then Variable (place - 8) else cell_behind (place - 16))

-- the place of a cell
abbrev pub place_of : OperandCell → ℕ
place_of (Register slot) = slot
place_of (Variable slot) = slot + 8
place_of In = 16
place_of Aux = 17
place_of Now = 18
place_of Zero = 19

-- the destination at a place
abbrev pub target_at : ℕ → Destination
target_at place = if nat_lt place 8 then destination.Register place else destination.Variable (place - 8)

-- the place of a destination
abbrev pub place_of_target : Destination → ℕ
place_of_target (destination.Register slot) = slot
place_of_target (destination.Variable slot) = slot + 8

-- the operand that a cell is with a constant that is added to it
abbrev pub cell_operand : OperandCell → ℤ → Operand
cell_operand (Register slot) constant = operand.Register slot
cell_operand (Variable slot) constant = operand.Variable slot
cell_operand In constant = operand.In
cell_operand Aux constant = operand.Aux
cell_operand Now constant = operand.Now
cell_operand Zero constant = operand.Value constant

-- the cell of an operand
abbrev pub cell_of : Operand → OperandCell
cell_of (operand.Value value) = Zero
cell_of (operand.Register slot) = Register slot
cell_of (operand.Variable slot) = Variable slot
cell_of operand.In = In
cell_of operand.Aux = Aux
cell_of operand.Now = Now

-- the constant of an operand
abbrev pub constant_of : Operand → ℤ
constant_of (operand.Value value) = value
constant_of (operand.Register slot) = pos 0
constant_of (operand.Variable slot) = pos 0
constant_of operand.In = pos 0
constant_of operand.Aux = pos 0
constant_of operand.Now = pos 0

-- a group variable is read
abbrev pub reads_variable : OperandCell → Bool
reads_variable (Register slot) = false
reads_variable (Variable slot) = true
reads_variable In = false
reads_variable Aux = false
reads_variable Now = false
reads_variable Zero = false
