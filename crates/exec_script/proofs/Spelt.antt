-- What a `set` is decoded to tells its words.
use Rattle.std.proofs.Common.{◌≡◌, ℕ, ◌-◌, ◌+◌, Bool, true, false, cond, if◌then◌else◌, ◌&&◌, List, [], ◌∷◌, codes, Option, None, Some, Ok, Err, nat_le, ◌==◌, bytes_eq, refl, sym, ap, ◌∙◌, arith, ◌≤◌}
use Rattle.std.specs.List.{AllByRecursion}
use Rattle.std.specs.Map.{lookup}
use Rattle.std.specs.Option.{option_map, option_or}
use Rattle.std.proofs.lemmas.Bool.{eqb-true, leb-true}
use Rattle.std.proofs.lemmas.Option.{none-some, same_Some}
use Rattle.std.proofs.lemmas.Slice.Eq.{bytes_eq-Decides}
use Rattle.std.specs.Prelude.{option_and_then}
use Rattle.std.specs.Result.{result_ok}
use Rattle.exec_script.specs.Instruction.{Instruction, Set}
use Rattle.exec_script.specs.Spelling.{ScopeNames, cell_by, cell_named, inputs, instruction_of, operand_at, operand_named, operand_of, operations, or_wrong_operand, set_of, ◌>>=◌}
use Rattle.exec_script.specs.declared.fault.ScriptFault.TheVariants as fault
use Rattle.exec_script.specs.declared.instr.Destination.{Destination}
use Rattle.exec_script.specs.declared.instr.Destination.TheVariants as destination
use Rattle.exec_script.specs.declared.instr.Operand.{Operand}
use Rattle.exec_script.specs.declared.instr.Operand.TheVariants as operand
use Rattle.exec_script.specs.declared.instr.Operation.{Operation}
use Rattle.exec_script.specs.declared.word.Word.{Word}
use Rattle.exec_script.specs.declared.word.Word.TheVariants.{Text, Number}
use Rattle.exec_script.specs.inner.SetWords.{cell_text, operation_text, operand_word, set_words}

-- what is found by a name of a table, each of whose entries is spelled by its name, is spelled by the name
named_is : {R W : Type 0} (spelled : R → W) (word : List ℕ → W) (name : List ℕ) (table : List (List ℕ × R)) (found : R) → AllByRecursion (λ entry. spelled entry.1 ≡ word entry.0) table → lookup (bytes_eq name) table ≡ Some found → spelled found ≡ word name
named_is spelled word name [] found each h = absurd (none-some found h)
named_is spelled word name (entry ∷ entries) found each h = by (bytes_eq name entry.0) refl (named_is spelled word name entries found each.1) h
  where
    by : (b : Bool) → bytes_eq name entry.0 ≡ b → (lookup (bytes_eq name) entries ≡ Some found → spelled found ≡ word name) → cond b (Some entry.1) (lookup (bytes_eq name) entries) ≡ Some found → spelled found ≡ word name
    by true same later is = ap spelled (sym (same_Some entry.1 found is)) ∙ each.0 ∙ ap word (sym ((bytes_eq-Decides name entry.0).0 same))
    by false other later is = later is

-- a register or a group variable is spelled by the text that names it
cell_is : (text : List ℕ) (cell : Destination) → cell_named text ≡ Some cell → cell_text cell ≡ text
cell_is [] cell h = absurd (none-some cell h)
cell_is (letter ∷ []) cell h = absurd (none-some cell h)
cell_is (letter ∷ digit ∷ more ∷ others) cell h = absurd (none-some cell h)
cell_is (letter ∷ digit ∷ []) cell h = by (nat_le 48 digit) (nat_le digit 55) refl h
  where
    of_letter : (register variable : Bool) → 48 ≤ digit → (letter == 114) ≡ register → (letter == 103) ≡ variable → (if register then Some (destination.Register (digit - 48)) else (if variable then Some (destination.Variable (digit - 48)) else None)) ≡ Some cell → cell_text cell ≡ letter ∷ digit ∷ []
    of_letter true variable least is other found =
        let same : letter ≡ 114 = eqb-true letter 114 is in
        let place : digit - 48 + 48 ≡ digit = omega arith in
        ap cell_text (sym (same_Some (destination.Register (digit - 48)) cell found)) ∙ ap (λ (n : ℕ). 114 ∷ n ∷ []) place ∙ ap (λ (n : ℕ). n ∷ digit ∷ []) (sym same)
    of_letter false true least other is found =
        let same : letter ≡ 103 = eqb-true letter 103 is in
        let place : digit - 48 + 48 ≡ digit = omega arith in
        ap cell_text (sym (same_Some (destination.Variable (digit - 48)) cell found)) ∙ ap (λ (n : ℕ). 103 ∷ n ∷ []) place ∙ ap (λ (n : ℕ). n ∷ digit ∷ []) (sym same)
    of_letter false false least other another found = absurd (none-some cell found)

    by : (low high : Bool) → nat_le 48 digit ≡ low → option_and_then (cell_by letter) (if low && high then Some (digit - 48) else None) ≡ Some cell → cell_text cell ≡ letter ∷ digit ∷ []
    by true true low found = of_letter (letter == 114) (letter == 103) (leb-true 48 digit low) refl refl found
    by true false low found = absurd (none-some cell found)
    by false high low found = absurd (none-some cell found)

-- an operation is spelled by the text that names it
operation_is : (text : List ℕ) (does : Operation) → lookup (bytes_eq text) operations ≡ Some does → operation_text does ≡ text
operation_is text does h = named_is operation_text (λ name. name) text operations does (refl, (refl, (refl, (refl, (refl, (refl, (refl, tt))))))) h

-- an operand is spelled by the text that names it
named_operand_is : (text : List ℕ) (found : Operand) → operand_named text ≡ Some found → operand_word found ≡ Text text
named_operand_is text found h = by (lookup (bytes_eq text) inputs) refl h
  where
    at : (cell : Destination) → operand_word (operand_at cell) ≡ Text (cell_text cell)
    at (destination.Register slot) = refl
    at (destination.Variable slot) = refl

    of_cell : (cell : Option Destination) → cell_named text ≡ cell → option_map operand_at cell ≡ Some found → operand_word found ≡ Text text
    of_cell None named is = absurd (none-some found is)
    of_cell (Some cell) named is = ap operand_word (sym (same_Some (operand_at cell) found is)) ∙ at cell ∙ ap (λ (name : List ℕ). Text name) (cell_is text cell named)

    by : (input : Option Operand) → lookup (bytes_eq text) inputs ≡ input → option_or input (option_map operand_at (cell_named text)) ≡ Some found → operand_word found ≡ Text text
    by None none is = of_cell (cell_named text) refl is
    by (Some input) named is = ap operand_word (sym (same_Some input found is)) ∙ named_is operand_word (λ name. Text name) text inputs input (refl, (refl, (refl, tt))) named

-- an operand is spelled by its word
operand_is : (word : Word) (found : Operand) → operand_of word ≡ Some found → operand_word found ≡ word
operand_is (Number value) found h = ap operand_word (sym (same_Some (operand.Value value) found h))
operand_is (Text text) found h = named_operand_is text found h

-- a `set` that words spell is spelled by these words
pub set_is : (target_text does_text : List ℕ) (left right : Word) (instruction : Instruction) → set_of (Text target_text ∷ Text does_text ∷ left ∷ right ∷ []) ≡ Ok instruction → set_words instruction ≡ Text (codes "set") ∷ Text target_text ∷ Text does_text ∷ left ∷ right ∷ []
set_is target_text does_text left right instruction h = by (cell_named target_text) (lookup (bytes_eq does_text) operations) (operand_of left) (operand_of right) refl refl refl refl h
  where
    spelled : (target : Destination) (does : Operation) (a b : Operand) → cell_named target_text ≡ Some target → lookup (bytes_eq does_text) operations ≡ Some does → operand_of left ≡ Some a → operand_of right ≡ Some b → set_words (Set target does a b) ≡ Text (codes "set") ∷ Text target_text ∷ Text does_text ∷ left ∷ right ∷ []
    spelled target does a b t d l r =
        ap (λ (text : List ℕ). Text (codes "set") ∷ Text text ∷ Text (operation_text does) ∷ operand_word a ∷ operand_word b ∷ []) (cell_is target_text target t)
        ∙ ap (λ (text : List ℕ). Text (codes "set") ∷ Text target_text ∷ Text text ∷ operand_word a ∷ operand_word b ∷ []) (operation_is does_text does d)
        ∙ ap (λ (word : Word). Text (codes "set") ∷ Text target_text ∷ Text does_text ∷ word ∷ operand_word b ∷ []) (operand_is left a l)
        ∙ ap (λ (word : Word). Text (codes "set") ∷ Text target_text ∷ Text does_text ∷ left ∷ word ∷ []) (operand_is right b r)

    wrong : {A : Type 0} → Err fault.Operand ≡ Ok instruction → A
    wrong none = absurd (none-some instruction (ap result_ok none))

    by : (target : Option Destination) (does : Option Operation) (a b : Option Operand) → cell_named target_text ≡ target → lookup (bytes_eq does_text) operations ≡ does → operand_of left ≡ a → operand_of right ≡ b
        → (or_wrong_operand target >>= (λ t. or_wrong_operand does >>= (λ d. or_wrong_operand a >>= (λ l. or_wrong_operand b >>= (λ r. Ok (Set t d l r)))))) ≡ Ok instruction
        → set_words instruction ≡ Text (codes "set") ∷ Text target_text ∷ Text does_text ∷ left ∷ right ∷ []
    by None does a b t d l r found = wrong found
    by (Some target) None a b t d l r found = wrong found
    by (Some target) (Some does) None b t d l r found = wrong found
    by (Some target) (Some does) (Some a) None t d l r found = wrong found
    by (Some target) (Some does) (Some a) (Some b) t d l r found = ap set_words (sym (same_Some (Set target does a b) instruction (ap result_ok found))) ∙ spelled target does a b t d l r

-- and its words spell it, whatever names there are
pub set_decoded : (target_text does_text : List ℕ) (left right : Word) (instruction : Instruction) → set_of (Text target_text ∷ Text does_text ∷ left ∷ right ∷ []) ≡ Ok instruction → (scope : ScopeNames) → instruction_of scope (set_words instruction) ≡ Ok instruction
set_decoded target_text does_text left right instruction h scope = ap (instruction_of scope) (set_is target_text does_text left right instruction h) ∙ h
