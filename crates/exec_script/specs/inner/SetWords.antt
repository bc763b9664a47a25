-- How a `set` is spelled, told by what it is.
use Rattle.std.specs.Prelude.{◌≡◌, ℕ, ◌+◌, List, [], ◌∷◌, codes, Ok, ⊤}
use Rattle.exec_script.specs.Instruction.{Instruction, Set}
use Rattle.exec_script.specs.Spelling.{ScopeNames, instruction_of}
use Rattle.exec_script.specs.declared.instr.Destination.{Destination}
use Rattle.exec_script.specs.declared.instr.Destination.TheVariants as destination
use Rattle.exec_script.specs.declared.instr.Operand.{Operand}
use Rattle.exec_script.specs.declared.instr.Operand.TheVariants as operand
use Rattle.exec_script.specs.declared.instr.Operation.{Operation}
use Rattle.exec_script.specs.declared.instr.Operation.TheVariants as operation
use Rattle.exec_script.specs.declared.spelled.SpelledAs.{SpelledAs}
use Rattle.exec_script.specs.declared.spelled.SpelledAs.TheVariants as kept
use Rattle.exec_script.specs.declared.word.Word.{Word}
use Rattle.exec_script.specs.declared.word.Word.TheVariants.{Text, Number}

-- the text of a register or of a group variable
abbrev pub cell_text : Destination → List ℕ
cell_text (destination.Register slot) = 114 ∷ (slot + 48) ∷ []
cell_text (destination.Variable slot) = 103 ∷ (slot + 48) ∷ []

-- the text of an operation
abbrev pub operation_text : Operation → List ℕ
operation_text operation.Add = codes "add"
operation_text operation.Sub = codes "sub"
operation_text operation.Mul = codes "mul"
operation_text operation.Min = codes "min"
operation_text operation.Max = codes "max"
operation_text operation.Lt = codes "lt"
operation_text operation.Eq = codes "eq"

-- the word of an operand
abbrev pub operand_word : Operand → Word
operand_word (operand.Value value) = Number value
operand_word (operand.Register slot) = Text (cell_text (destination.Register slot))
operand_word (operand.Variable slot) = Text (cell_text (destination.Variable slot))
operand_word operand.In = Text (codes "in")
operand_word operand.Aux = Text (codes "aux")
operand_word operand.Now = Text (codes "now")

-- the words of a `set`; no other instruction is told by what it is
abbrev pub set_words : Instruction → List Word
set_words (Set target does left right) = Text (codes "set") ∷ Text (cell_text target) ∷ Text (operation_text does) ∷ operand_word left ∷ operand_word right ∷ []
set_words _ = []

-- the words of what is kept: a decoded instruction, or its words
abbrev pub words_kept : SpelledAs → List Word
words_kept (kept.Set instruction) = set_words instruction
words_kept (kept.Words words) = words.items

-- what is decoded is what its words spell, whatever names there are
abbrev pub IsDecoded : SpelledAs → Type 0
IsDecoded (kept.Set instruction) = (scope : ScopeNames) → instruction_of scope (set_words instruction) ≡ Ok instruction
IsDecoded (kept.Words words) = ⊤
