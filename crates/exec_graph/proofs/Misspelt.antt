-- The fault of a misspelt script is never that of a group variable.
use Rattle.std.proofs.Common.{◌≡◌, ℕ, false, List, [], ◌∷◌, Option, None, Some, Result, Ok, Err, refl}
use Rattle.exec_graph.proofs.Tables.{◌also◌, read_by_name}
use Rattle.exec_graph.specs.Faults.{is_of_variable}
use Rattle.exec_script.specs.Spelling.{ScopeNames, ◌>>=◌, operand_of, destination_of, operation_of, count_of, text_in, or_wrong_operand, known, set_of, skip_of, operand_alone, of_operand, of_name_and_operand, execute_of, yield_of, cancel_all_of, cancel_before_of, cancel_goal_of, cancel_goal_before_of, cancel_forms, cancel_named, cancel_of, instructions, instruction_named, instruction_of, script_of}
use Rattle.exec_script.specs.declared.fault.ScriptFault.{ScriptFault}
use Rattle.exec_script.specs.declared.fault.ScriptFault.TheVariants as fault
use Rattle.exec_script.specs.declared.instr.Instr.{Instr}
use Rattle.exec_script.specs.Instruction as instr
use Rattle.exec_script.specs.declared.instr.Operand.{Operand}
use Rattle.exec_script.specs.declared.word.Word.{Word}
use Rattle.exec_script.specs.declared.word.Word.TheVariants.{Text, Number}

-- if reading fails, then by another fault
abbrev pub IsOther : {A : Type 0} → Result A ScriptFault → Type 0
IsOther (Ok value) = Unit {0}
IsOther (Err fault) = is_of_variable fault ≡ false

-- ---- steps of reading

then_other : {A B : Type 0} (r : Result A ScriptFault) (f : A → Result B ScriptFault) → IsOther r → ((a : A) → IsOther (f a)) → IsOther (r >>= f)
then_other (Ok a) f first next = next a
then_other (Err fault) f first next = first

item_other : {A : Type 0} (o : Option A) → IsOther (or_wrong_operand o)
item_other None = refl
item_other (Some a) = tt

name_other : {A : Type 0} (o : Option A) → IsOther (known o)
name_other None = refl
name_other (Some a) = tt

-- ---- instructions

set_other : (items : List Word) → IsOther (set_of items)
set_other (d ∷ o ∷ a ∷ b ∷ []) =
    then_other (or_wrong_operand (destination_of d)) _ (item_other (destination_of d)) (λ destination.
    then_other (or_wrong_operand (operation_of o)) _ (item_other (operation_of o)) (λ operation.
    then_other (or_wrong_operand (operand_of a)) _ (item_other (operand_of a)) (λ left.
    then_other (or_wrong_operand (operand_of b)) _ (item_other (operand_of b)) (λ right. tt))))
set_other _ = refl

skip_other : (items : List Word) → IsOther (skip_of items)
skip_other (a ∷ n ∷ []) =
    then_other (or_wrong_operand (operand_of a)) _ (item_other (operand_of a)) (λ condition.
    then_other (or_wrong_operand (count_of n)) _ (item_other (count_of n)) (λ count. tt))
skip_other _ = refl

alone_other : (items : List Word) → IsOther (operand_alone items)
alone_other (a ∷ []) = item_other (operand_of a)
alone_other _ = refl

operand_other : (make : Operand → Instr) (items : List Word) → IsOther (of_operand make items)
operand_other make items = then_other (operand_alone items) _ (alone_other items) (λ value. tt)

named_other : (find : List ℕ → Option ℕ) (make : ℕ → Operand → Instr) (items : List Word) → IsOther (of_name_and_operand find make items)
named_other find make (n ∷ a ∷ []) =
    then_other (or_wrong_operand (text_in n)) _ (item_other (text_in n)) (λ name.
    then_other (or_wrong_operand (operand_of a)) _ (item_other (operand_of a)) (λ value.
    then_other (known (find name)) _ (name_other (find name)) (λ entity. tt)))
named_other find make _ = refl

execute_other : (scope : ScopeNames) (items : List Word) → IsOther (execute_of scope items)
execute_other scope (n ∷ []) =
    then_other (or_wrong_operand (text_in n)) _ (item_other (text_in n)) (λ name.
    then_other (known (scope.server name)) _ (name_other (scope.server name)) (λ server. tt))
execute_other scope _ = refl

yield_other : (items : List Word) → IsOther (yield_of items)
yield_other [] = tt
yield_other (item ∷ items) = refl

all_other : (scope : ScopeNames) (n : Word) (items : List Word) → IsOther (cancel_all_of scope n items)
all_other scope n [] =
    then_other (or_wrong_operand (text_in n)) _ (item_other (text_in n)) (λ name.
    then_other (known (scope.action_client name)) _ (name_other (scope.action_client name)) (λ client. tt))
all_other scope n (item ∷ items) = refl

before_other : (scope : ScopeNames) (n : Word) (items : List Word) → IsOther (cancel_before_of scope n items)
before_other scope n (s ∷ []) =
    then_other (or_wrong_operand (text_in n)) _ (item_other (text_in n)) (λ name.
    then_other (or_wrong_operand (operand_of s)) _ (item_other (operand_of s)) (λ stamp.
    then_other (known (scope.action_client name)) _ (name_other (scope.action_client name)) (λ client. tt)))
before_other scope n _ = refl

goal_other : (scope : ScopeNames) (n : Word) (items : List Word) → IsOther (cancel_goal_of scope n items)
goal_other scope n (k ∷ []) =
    then_other (or_wrong_operand (text_in n)) _ (item_other (text_in n)) (λ name.
    then_other (or_wrong_operand (operand_of k)) _ (item_other (operand_of k)) (λ goal.
    then_other (known (scope.action_client name)) _ (name_other (scope.action_client name)) (λ client. tt)))
goal_other scope n _ = refl

goal_before_other : (scope : ScopeNames) (n : Word) (items : List Word) → IsOther (cancel_goal_before_of scope n items)
goal_before_other scope n (k ∷ s ∷ []) =
    then_other (or_wrong_operand (text_in n)) _ (item_other (text_in n)) (λ name.
    then_other (or_wrong_operand (operand_of k)) _ (item_other (operand_of k)) (λ goal.
    then_other (or_wrong_operand (operand_of s)) _ (item_other (operand_of s)) (λ stamp.
    then_other (known (scope.action_client name)) _ (name_other (scope.action_client name)) (λ client. tt))))
goal_before_other scope n _ = refl

cancel_named_other : (scope : ScopeNames) (n : Word) (form : List ℕ) (items : List Word) → IsOther (cancel_named scope n form items)
cancel_named_other scope n form items =
    read_by_name IsOther (λ read. read scope n items) form cancel_forms fault.Operand refl
    (all_other scope n items
    also before_other scope n items
    also goal_other scope n items
    also goal_before_other scope n items
    also tt)

cancel_other : (scope : ScopeNames) (items : List Word) → IsOther (cancel_of scope items)
cancel_other scope (n ∷ Text form ∷ items) = cancel_named_other scope n form items
cancel_other scope (n ∷ Number value ∷ items) = refl
cancel_other scope (n ∷ []) = refl
cancel_other scope [] = refl

instruction_named_other : (scope : ScopeNames) (name : List ℕ) (items : List Word) → IsOther (instruction_named scope name items)
instruction_named_other scope name items =
    read_by_name IsOther (λ read. read items) name (instructions scope) fault.Instruction refl
    (set_other items
    also skip_other items
    also named_other scope.topic instr.Pub items
    also named_other scope.client instr.Call items
    also named_other scope.action_client instr.Goal items
    also cancel_other scope items
    also execute_other scope items
    also operand_other instr.Log items
    also operand_other instr.Reply items
    also operand_other instr.Decide items
    also operand_other instr.Feedback items
    also operand_other instr.Wait items
    also yield_other items
    also operand_other instr.Succeed items
    also operand_other instr.Abort items
    also operand_other instr.Canceled items
    also tt)

instruction_other : (scope : ScopeNames) (words : List Word) → IsOther (instruction_of scope words)
instruction_other scope [] = refl
instruction_other scope (Number value ∷ items) = refl
instruction_other scope (Text name ∷ items) = instruction_named_other scope name items

-- a script is misspelt by another fault
pub script_other : (scope : ScopeNames) (words : List (List Word)) → IsOther (script_of scope words)
script_other scope [] = tt
script_other scope (words ∷ others) =
    then_other (instruction_of scope words) _ (instruction_other scope words) (λ instruction.
    then_other (script_of scope others) _ (script_other scope others) (λ rest. tt))
