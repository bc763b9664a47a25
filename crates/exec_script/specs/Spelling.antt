-- How words spell a script, and the fault of each misspelling.
use Rattle.std.specs.Prelude.{ℕ, ◌-◌, pos, negsuc, List, [], ◌∷◌, codes, ◌==◌, nat_le, ◌&&◌, if◌then◌else◌, Option, None, Some, option_and_then, Result, Ok, Err, ◌≤◌, length, ⊤}
use Rattle.std.specs.Map.{lookup}
use Rattle.std.specs.Option.{option_map, option_or, ok_or}
use Rattle.std.specs.Str.{bytes_eq}
use Rattle.exec_msg.specs.Numbers.{EntityNo}
use Rattle.exec_script.specs.declared.fault.ScriptFault.{ScriptFault}
use Rattle.exec_script.specs.declared.fault.ScriptFault.TheVariants as fault
use Rattle.exec_script.specs.declared.instr.Destination.{Destination}
use Rattle.exec_script.specs.declared.instr.Destination.TheVariants as destination
use Rattle.exec_script.specs.Instruction.{Instruction, Script}
use Rattle.exec_script.specs.Instruction as instr
use Rattle.exec_script.specs.declared.instr.Operand.{Operand}
use Rattle.exec_script.specs.declared.instr.Operand.TheVariants as operand
use Rattle.exec_script.specs.declared.instr.Operation.{Operation}
use Rattle.exec_script.specs.declared.instr.Operation.TheVariants as operation
use Rattle.exec_script.specs.declared.word.Word.{Word}
use Rattle.exec_script.specs.declared.word.Word.TheVariants.{Text, Number}
use Rattle.exec_script.specs.declared.word.WordRef.{WordRef}
use Rattle.exec_script.specs.declared.word.WordRef.TheVariants as word_ref

-- the word that is read where it stands
abbrev pub word_of : WordRef → Word
word_of (word_ref.Text text) = Text text.now
word_of (word_ref.Number value) = Number value

-- a word that holds its text in place
abbrev pub IsShort : Word → Type 0
IsShort (Number value) = ⊤
IsShort (Text text) = length text ≤ 24

-- the names that a script may use: for each name the number of the topic, the service client, the action client or the
-- action server that has it
pub record ScopeNames : Type 0 where
  pub topic : List ℕ → Option EntityNo
  pub client : List ℕ → Option EntityNo
  pub action_client : List ℕ → Option EntityNo
  pub server : List ℕ → Option EntityNo

-- the value, and what's made of it
infixl 10 ◌>>=◌
abbrev pub ◌>>=◌ : {A B E : Type 0} → Result A E → (A → Result B E) → Result B E
(Ok value) >>= f = f value
(Err fault) >>= f = Err fault

-- the place that a digit from 0 to 7 names
abbrev pub slot_named : ℕ → Option ℕ
slot_named digit = if nat_le 48 digit && nat_le digit 55 then Some (digit - 48) else None

-- r is for registers, and g for group variables
abbrev pub cell_by : ℕ → ℕ → Option Destination
cell_by letter slot = if letter == 114 then Some (destination.Register slot) else (if letter == 103 then Some (destination.Variable slot) else None)

-- r0 to r7 and g0 to g7
abbrev pub cell_named : List ℕ → Option Destination
cell_named (letter ∷ digit ∷ []) = option_and_then (cell_by letter) (slot_named digit)
cell_named _ = None

-- what stands in a register or a group variable
abbrev pub operand_at : Destination → Operand
operand_at (destination.Register slot) = operand.Register slot
operand_at (destination.Variable slot) = operand.Variable slot

-- the operands that have a name of their own
abbrev pub inputs : List (List ℕ × Operand)
inputs =
    (codes "in", operand.In) ∷
    (codes "aux", operand.Aux) ∷
    (codes "now", operand.Now) ∷ []

-- the operand that a text names
abbrev pub operand_named : List ℕ → Option Operand
operand_named text = option_or (lookup (bytes_eq text) inputs) (option_map operand_at (cell_named text))

-- an operand is a value, or named by a text
abbrev pub operand_of : Word → Option Operand
operand_of (Number value) = Some (operand.Value value)
operand_of (Text text) = operand_named text

-- a destination is named by a text
abbrev pub destination_of : Word → Option Destination
destination_of (Number value) = None
destination_of (Text text) = cell_named text

-- the operations
abbrev pub operations : List (List ℕ × Operation)
operations =
    (codes "add", operation.Add) ∷
    (codes "sub", operation.Sub) ∷
    (codes "mul", operation.Mul) ∷
    (codes "min", operation.Min) ∷
    (codes "max", operation.Max) ∷
    (codes "lt", operation.Lt) ∷
    (codes "eq", operation.Eq) ∷ []

-- an operation is named by a text
abbrev pub operation_of : Word → Option Operation
operation_of (Number value) = None
operation_of (Text text) = lookup (bytes_eq text) operations

-- a number of instructions to pass over: a written value, at least 1
abbrev pub count_of : Word → Option ℕ
count_of (Number (pos n)) = if nat_le 1 n then Some n else None
count_of (Number (negsuc n)) = None
count_of (Text text) = None

-- a text that stands where a name does
abbrev pub text_in : Word → Option (List ℕ)
text_in (Number value) = None
text_in (Text text) = Some text

-- an item that its place takes
abbrev pub or_wrong_operand : {A : Type 0} → Option A → Result A ScriptFault
or_wrong_operand item = ok_or item fault.Operand

-- a name that the scope has
abbrev pub known : {A : Type 0} → Option A → Result A ScriptFault
known found = ok_or found fault.UnknownName

-- set: a destination, an operation and two operands
abbrev pub set_of : List Word → Result Instruction ScriptFault
set_of (d ∷ o ∷ a ∷ b ∷ []) = do
  destination ← or_wrong_operand (destination_of d)
  operation ← or_wrong_operand (operation_of o)
  left ← or_wrong_operand (operand_of a)
  right ← or_wrong_operand (operand_of b)
  Ok (instr.Set destination operation left right)
set_of _ = Err fault.Count

-- skip: an operand and a count
abbrev pub skip_of : List Word → Result Instruction ScriptFault
skip_of (a ∷ n ∷ []) = do
  condition ← or_wrong_operand (operand_of a)
  count ← or_wrong_operand (count_of n)
  Ok (instr.Skip condition count)
skip_of _ = Err fault.Count

-- an operand, and nothing more
abbrev pub operand_alone : List Word → Result Operand ScriptFault
operand_alone (a ∷ []) = or_wrong_operand (operand_of a)
operand_alone _ = Err fault.Count

-- the instruction that is made of one operand
abbrev pub of_operand : (Operand → Instruction) → List Word → Result Instruction ScriptFault
of_operand make items = do
  value ← operand_alone items
  Ok (make value)

-- the instruction that is made of what a name finds and of an operand
abbrev pub of_name_and_operand : (List ℕ → Option EntityNo) → (EntityNo → Operand → Instruction) → List Word → Result Instruction ScriptFault
of_name_and_operand find make (n ∷ a ∷ []) = do
  name ← or_wrong_operand (text_in n)
  value ← or_wrong_operand (operand_of a)
  entity ← known (find name)
  Ok (make entity value)
of_name_and_operand find make _ = Err fault.Count

-- execute: a server's name
abbrev pub execute_of : ScopeNames → List Word → Result Instruction ScriptFault
execute_of scope (n ∷ []) = do
  name ← or_wrong_operand (text_in n)
  server ← known (scope.server name)
  Ok (instr.Execute server)
execute_of scope _ = Err fault.Count

-- yield: nothing more
abbrev pub yield_of : List Word → Result Instruction ScriptFault
yield_of [] = Ok instr.Yield
yield_of _ = Err fault.Count

-- cancel all: a client's name, and no stamp
abbrev pub cancel_all_of : ScopeNames → Word → List Word → Result Instruction ScriptFault
cancel_all_of scope n [] = do
  name ← or_wrong_operand (text_in n)
  client ← known (scope.action_client name)
  Ok (instr.CancelAll client (operand.Value (pos 0)))
cancel_all_of scope n _ = Err fault.Count

-- cancel before: a client's name and a stamp
abbrev pub cancel_before_of : ScopeNames → Word → List Word → Result Instruction ScriptFault
cancel_before_of scope n (s ∷ []) = do
  name ← or_wrong_operand (text_in n)
  stamp ← or_wrong_operand (operand_of s)
  client ← known (scope.action_client name)
  Ok (instr.CancelAll client stamp)
cancel_before_of scope n _ = Err fault.Count

-- cancel goal: a client's name and the number of one of its goals, and no stamp
abbrev pub cancel_goal_of : ScopeNames → Word → List Word → Result Instruction ScriptFault
cancel_goal_of scope n (k ∷ []) = do
  name ← or_wrong_operand (text_in n)
  goal ← or_wrong_operand (operand_of k)
  client ← known (scope.action_client name)
  Ok (instr.CancelGoal client goal (operand.Value (pos 0)))
cancel_goal_of scope n _ = Err fault.Count

-- cancel goal-before: a client's name, the number of one of its goals, and a stamp
abbrev pub cancel_goal_before_of : ScopeNames → Word → List Word → Result Instruction ScriptFault
cancel_goal_before_of scope n (k ∷ s ∷ []) = do
  name ← or_wrong_operand (text_in n)
  goal ← or_wrong_operand (operand_of k)
  stamp ← or_wrong_operand (operand_of s)
  client ← known (scope.action_client name)
  Ok (instr.CancelGoal client goal stamp)
cancel_goal_before_of scope n _ = Err fault.Count

-- the forms of cancel, and how each reads what stands behind it
abbrev pub cancel_forms : List (List ℕ × (ScopeNames → Word → List Word → Result Instruction ScriptFault))
cancel_forms =
    (codes "all", cancel_all_of) ∷
    (codes "before", cancel_before_of) ∷
    (codes "goal", cancel_goal_of) ∷
    (codes "goal-before", cancel_goal_before_of) ∷ []

-- cancel in its form of this name
abbrev pub cancel_named : ScopeNames → Word → List ℕ → List Word → Result Instruction ScriptFault
cancel_named scope n form items = do
  read ← or_wrong_operand (lookup (bytes_eq form) cancel_forms)
  read scope n items

-- cancel: a client's name, a form, and what the form takes
abbrev pub cancel_of : ScopeNames → List Word → Result Instruction ScriptFault
cancel_of scope (n ∷ Text form ∷ items) = cancel_named scope n form items
cancel_of scope (n ∷ Number value ∷ items) = Err fault.Operand
cancel_of scope _ = Err fault.Count

-- the instructions, and how each reads the items behind its name
abbrev pub instructions : ScopeNames → List (List ℕ × (List Word → Result Instruction ScriptFault))
instructions scope =
    (codes "set", set_of) ∷
    (codes "skip", skip_of) ∷
    (codes "pub", of_name_and_operand scope.topic instr.Pub) ∷
    (codes "call", of_name_and_operand scope.client instr.Call) ∷
    (codes "goal", of_name_and_operand scope.action_client instr.Goal) ∷
    (codes "cancel", cancel_of scope) ∷
    (codes "execute", execute_of scope) ∷
    (codes "log", of_operand instr.Log) ∷
    (codes "reply", of_operand instr.Reply) ∷
    (codes "decide", of_operand instr.Decide) ∷
    (codes "feedback", of_operand instr.Feedback) ∷
    (codes "wait", of_operand instr.Wait) ∷
    (codes "yield", yield_of) ∷
    (codes "succeed", of_operand instr.Succeed) ∷
    (codes "abort", of_operand instr.Abort) ∷
    (codes "canceled", of_operand instr.Canceled) ∷ []

-- the instruction of this name, with these items behind the name
abbrev pub instruction_named : ScopeNames → List ℕ → List Word → Result Instruction ScriptFault
instruction_named scope name items = do
  read ← ok_or (lookup (bytes_eq name) (instructions scope)) fault.Instruction
  read items

-- the instruction that words spell
abbrev pub instruction_of : ScopeNames → List Word → Result Instruction ScriptFault
instruction_of scope [] = Err fault.Instruction
instruction_of scope (Number value ∷ items) = Err fault.Instruction
instruction_of scope (Text name ∷ items) = instruction_named scope name items

-- the script that lists of words spell, or the fault of the first that is misspelt
abbrev pub script_of : ScopeNames → List (List Word) → Result Script ScriptFault
script_of scope [] = Ok []
script_of scope (words ∷ others) = do
  instruction ← instruction_of scope words
  rest ← script_of scope others
  Ok (instruction ∷ rest)
