-- Which scripts are legal where.
use Rattle.std.specs.Prelude.{ℕ, [], ◌∷◌, length, Bool, true, false, not, ◌&&◌, ◌||◌, nat_le, if◌then◌else◌, Result, Ok, Err}
use Rattle.std.specs.List.{list_any, list_all}
use Rattle.exec_script.specs.declared.fault.ScriptFault.{ScriptFault}
use Rattle.exec_script.specs.declared.fault.ScriptFault.TheVariants as fault
use Rattle.exec_script.specs.declared.instr.Destination.{Destination}
use Rattle.exec_script.specs.declared.instr.Destination.TheVariants as destination
use Rattle.exec_script.specs.Instruction.{Instruction, Script}
use Rattle.exec_script.specs.Instruction as instr
use Rattle.exec_script.specs.declared.instr.Operand.{Operand}
use Rattle.exec_script.specs.declared.instr.Operand.TheVariants as operand
use Rattle.exec_script.specs.declared.place.Place.{Place}
use Rattle.exec_script.specs.declared.place.Role.{Role}
use Rattle.exec_script.specs.declared.place.Role.TheVariants as role

-- how many of the instructions behind it an instruction may pass over
abbrev pub reach_of : Instruction → ℕ
reach_of (instr.Skip condition count) = count
reach_of _ = 0

-- no skip leads beyond the script's end
abbrev pub skips_end_within : Script → Bool
skips_end_within [] = true
skips_end_within (instruction ∷ rest) = nat_le (reach_of instruction) (length rest) && skips_end_within rest

-- one of g0 to g7
abbrev pub is_variable : Operand → Bool
is_variable (operand.Variable slot) = true
is_variable _ = false

-- to one of g0 to g7
abbrev pub goes_to_variable : Destination → Bool
goes_to_variable (destination.Register slot) = false
goes_to_variable (destination.Variable slot) = true

-- an operand or the destination is one of g0 to g7
abbrev pub names_variable : Instruction → Bool
names_variable (instr.Set destination operation left right) = goes_to_variable destination || is_variable left || is_variable right
names_variable (instr.Skip condition count) = is_variable condition
names_variable (instr.Pub topic value) = is_variable value
names_variable (instr.Call client value) = is_variable value
names_variable (instr.Goal client value) = is_variable value
names_variable (instr.CancelAll client stamp) = is_variable stamp
names_variable (instr.CancelGoal client goal stamp) = is_variable goal || is_variable stamp
names_variable (instr.Execute server) = false
names_variable (instr.Log value) = is_variable value
names_variable (instr.Reply value) = is_variable value
names_variable (instr.Decide value) = is_variable value
names_variable (instr.Feedback value) = is_variable value
names_variable (instr.Wait ticks) = is_variable ticks
names_variable instr.Yield = false
names_variable (instr.Succeed value) = is_variable value
names_variable (instr.Abort value) = is_variable value
names_variable (instr.Canceled value) = is_variable value

-- whether a script of this role has a reply
abbrev pub replies : Role → Bool
replies role.Service = true
replies _ = false

-- whether it decides
abbrev pub decides : Role → Bool
decides role.GoalHandler = true
decides role.CancelHandler = true
decides _ = false

-- whether it is a goal's own work
abbrev pub works : Role → Bool
works role.Goal = true
works _ = false

-- whether an instruction is allowed in a script of this role
abbrev pub is_allowed : Role → Instruction → Bool
is_allowed role (instr.Reply value) = replies role
is_allowed role (instr.Decide value) = decides role
is_allowed role (instr.Feedback value) = works role
is_allowed role (instr.Wait ticks) = works role
is_allowed role instr.Yield = works role
is_allowed role (instr.Succeed value) = works role
is_allowed role (instr.Abort value) = works role
is_allowed role (instr.Canceled value) = works role
is_allowed role _ = true

-- a script in its place, or the first of its faults: a skip, then an instruction that isn't allowed there, then a group
-- variable where the group is reentrant
abbrev pub legality_of : Script → Place → Result (Unit {0}) ScriptFault
legality_of script place =
    if not (skips_end_within script) then Err fault.Skip else
    (if not (list_all (is_allowed place.role) script) then Err fault.Place else
    (if place.reentrant && list_any names_variable script then Err fault.GroupVariable else Ok tt))
