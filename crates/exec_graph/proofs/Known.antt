-- A script that is spelt well names what its scope has.
use Rattle.std.proofs.Common.{◌≡◌, ℕ, suc, true, length, pos, List, [], ◌∷◌, Option, None, Some, Result, Ok, Err, ok_or, refl, ap, subst}
use Rattle.std.specs.List.{list_all}
use Rattle.std.proofs.lemmas.Bool.{and_from}
use Rattle.exec_graph.proofs.Tables.{◌also◌, read_by_name}
use Rattle.exec_plan.specs.Graph.{GraphData, is_topic, is_client, is_server, is_action_client}
use Rattle.exec_plan.specs.Lawful.{is_at, is_at_node, is_known}
use Rattle.exec_script.specs.Spelling.{ScopeNames, ◌>>=◌, operand_of, destination_of, operation_of, count_of, text_in, or_wrong_operand, known, set_of, skip_of, operand_alone, of_operand, of_name_and_operand, execute_of, yield_of, cancel_all_of, cancel_before_of, cancel_goal_of, cancel_goal_before_of, cancel_forms, cancel_named, cancel_of, instructions, instruction_named, instruction_of, script_of}
use Rattle.exec_script.specs.declared.fault.ScriptFault.{ScriptFault}
use Rattle.exec_script.specs.declared.fault.ScriptFault.TheVariants as fault
use Rattle.exec_script.specs.declared.instr.Instr.{Instr}
use Rattle.exec_script.specs.Instruction as instr
use Rattle.exec_script.specs.declared.instr.Operand.{Operand}
use Rattle.exec_script.specs.declared.instr.Operand.TheVariants as operand
use Rattle.exec_script.specs.declared.word.Word.{Word}
use Rattle.exec_script.specs.declared.word.Word.TheVariants.{Text, Number}

-- what a scope has is there in a graph, its clients and servers in a node
pub record Knows (scope : ScopeNames) (graph : GraphData) (node : ℕ) : Type 0 where
  pub topics : (name : List ℕ) (number : ℕ) → scope.topic name ≡ Some number → is_at is_topic graph number ≡ true
  pub clients : (name : List ℕ) (number : ℕ) → scope.client name ≡ Some number → is_at_node is_client graph node number ≡ true
  pub action_clients : (name : List ℕ) (number : ℕ) → scope.action_client name ≡ Some number → is_at_node is_action_client graph node number ≡ true
  pub servers : (name : List ℕ) (number : ℕ) → scope.server name ≡ Some number → is_at_node is_server graph node number ≡ true

-- ---- steps of reading

past : {A B E : Type 0} (K : Type 0) (r : Result A E) (f : A → Result B E) (b : B) → (r >>= f) ≡ Ok b → ((a : A) → r ≡ Ok a → f a ≡ Ok b → K) → K
past K (Ok a) f b e next = next a refl e
past K (Err fault) f b e next = absurd cc

found_of : {A : Type 0} (o : Option A) (a : A) (fault : ScriptFault) → ok_or o fault ≡ Ok a → o ≡ Some a
found_of None a fault e = absurd cc
found_of (Some x) a fault e = cc

abbrev read_as : Instr → Result Instr ScriptFault
read_as i = Ok i

-- an instruction that is read names what is there
abbrev ReadsKnown : GraphData → ℕ → Result Instr ScriptFault → Type 0
ReadsKnown graph node read = (i : Instr) → read ≡ Ok i → is_known graph node i ≡ true

same : (graph : GraphData) (node : ℕ) (i : Instr) → is_known graph node i ≡ true → ReadsKnown graph node (read_as i)
same graph node i is j e = let is_same : i ≡ j = cc in subst (λ k. is_known graph node k ≡ true) is_same is

-- ---- instructions

set_known : (graph : GraphData) (node : ℕ) (items : List Word) → ReadsKnown graph node (set_of items)
set_known graph node (d ∷ o ∷ a ∷ b ∷ []) i e =
    past _ (or_wrong_operand (destination_of d)) _ i e (λ destination _ e1.
    past _ (or_wrong_operand (operation_of o)) _ i e1 (λ operation _ e2.
    past _ (or_wrong_operand (operand_of a)) _ i e2 (λ left _ e3.
    past _ (or_wrong_operand (operand_of b)) _ i e3 (λ right _ e4. same graph node (instr.Set destination operation left right) refl i e4))))
set_known graph node _ i e = absurd cc

skip_known : (graph : GraphData) (node : ℕ) (items : List Word) → ReadsKnown graph node (skip_of items)
skip_known graph node (a ∷ n ∷ []) i e =
    past _ (or_wrong_operand (operand_of a)) _ i e (λ condition _ e1.
    past _ (or_wrong_operand (count_of n)) _ i e1 (λ count _ e2. same graph node (instr.Skip condition count) refl i e2))
skip_known graph node _ i e = absurd cc

operand_known : (graph : GraphData) (node : ℕ) (make : Operand → Instr) (items : List Word) → ((value : Operand) → is_known graph node (make value) ≡ true) → ReadsKnown graph node (of_operand make items)
operand_known graph node make items makes i e = past _ (operand_alone items) _ i e (λ value _ e1. same graph node (make value) (makes value) i e1)

named_known : (graph : GraphData) (node : ℕ) (find : List ℕ → Option ℕ) (make : ℕ → Operand → Instr) (items : List Word) → ((name : List ℕ) (number : ℕ) (value : Operand) → find name ≡ Some number → is_known graph node (make number value) ≡ true) → ReadsKnown graph node (of_name_and_operand find make items)
named_known graph node find make (n ∷ a ∷ []) makes i e =
    past _ (or_wrong_operand (text_in n)) _ i e (λ name _ e1.
    past _ (or_wrong_operand (operand_of a)) _ i e1 (λ value _ e2.
    past _ (known (find name)) _ i e2 (λ number found e3. same graph node (make number value) (makes name number value (found_of (find name) number _ found)) i e3)))
named_known graph node find make _ makes i e = absurd cc

execute_known : (graph : GraphData) (node : ℕ) (scope : ScopeNames) (items : List Word) → Knows scope graph node → ReadsKnown graph node (execute_of scope items)
execute_known graph node scope (n ∷ []) knows i e =
    past _ (or_wrong_operand (text_in n)) _ i e (λ name _ e1.
    past _ (known (scope.server name)) _ i e1 (λ number found e2. same graph node (instr.Execute number) (knows.servers name number (found_of (scope.server name) number _ found)) i e2))
execute_known graph node scope _ knows i e = absurd cc

yield_known : (graph : GraphData) (node : ℕ) (items : List Word) → ReadsKnown graph node (yield_of items)
yield_known graph node [] i e = same graph node instr.Yield refl i e
yield_known graph node (item ∷ items) i e = absurd cc

all_known : (graph : GraphData) (node : ℕ) (scope : ScopeNames) (n : Word) (items : List Word) → Knows scope graph node → ReadsKnown graph node (cancel_all_of scope n items)
all_known graph node scope n [] knows i e =
    past _ (or_wrong_operand (text_in n)) _ i e (λ name _ e1.
    past _ (known (scope.action_client name)) _ i e1 (λ number found e2. same graph node (instr.CancelAll number (operand.Value (pos 0))) (knows.action_clients name number (found_of (scope.action_client name) number _ found)) i e2))
all_known graph node scope n (item ∷ items) knows i e = absurd cc

before_known : (graph : GraphData) (node : ℕ) (scope : ScopeNames) (n : Word) (items : List Word) → Knows scope graph node → ReadsKnown graph node (cancel_before_of scope n items)
before_known graph node scope n (s ∷ []) knows i e =
    past _ (or_wrong_operand (text_in n)) _ i e (λ name _ e1.
    past _ (or_wrong_operand (operand_of s)) _ i e1 (λ stamp _ e2.
    past _ (known (scope.action_client name)) _ i e2 (λ number found e3. same graph node (instr.CancelAll number stamp) (knows.action_clients name number (found_of (scope.action_client name) number _ found)) i e3)))
before_known graph node scope n _ knows i e = absurd cc

goal_known : (graph : GraphData) (node : ℕ) (scope : ScopeNames) (n : Word) (items : List Word) → Knows scope graph node → ReadsKnown graph node (cancel_goal_of scope n items)
goal_known graph node scope n (k ∷ []) knows i e =
    past _ (or_wrong_operand (text_in n)) _ i e (λ name _ e1.
    past _ (or_wrong_operand (operand_of k)) _ i e1 (λ goal _ e2.
    past _ (known (scope.action_client name)) _ i e2 (λ number found e3. same graph node (instr.CancelGoal number goal (operand.Value (pos 0))) (knows.action_clients name number (found_of (scope.action_client name) number _ found)) i e3)))
goal_known graph node scope n _ knows i e = absurd cc

goal_before_known : (graph : GraphData) (node : ℕ) (scope : ScopeNames) (n : Word) (items : List Word) → Knows scope graph node → ReadsKnown graph node (cancel_goal_before_of scope n items)
goal_before_known graph node scope n (k ∷ s ∷ []) knows i e =
    past _ (or_wrong_operand (text_in n)) _ i e (λ name _ e1.
    past _ (or_wrong_operand (operand_of k)) _ i e1 (λ goal _ e2.
    past _ (or_wrong_operand (operand_of s)) _ i e2 (λ stamp _ e3.
    past _ (known (scope.action_client name)) _ i e3 (λ number found e4. same graph node (instr.CancelGoal number goal stamp) (knows.action_clients name number (found_of (scope.action_client name) number _ found)) i e4))))
goal_before_known graph node scope n _ knows i e = absurd cc

cancel_named_known : (graph : GraphData) (node : ℕ) (scope : ScopeNames) (n : Word) (form : List ℕ) (items : List Word) → Knows scope graph node → ReadsKnown graph node (cancel_named scope n form items)
cancel_named_known graph node scope n form items knows =
    read_by_name (ReadsKnown graph node) (λ read. read scope n items) form cancel_forms fault.Operand (λ i e. absurd cc)
    (all_known graph node scope n items knows
    also before_known graph node scope n items knows
    also goal_known graph node scope n items knows
    also goal_before_known graph node scope n items knows
    also tt)

cancel_known : (graph : GraphData) (node : ℕ) (scope : ScopeNames) (items : List Word) → Knows scope graph node → ReadsKnown graph node (cancel_of scope items)
cancel_known graph node scope (n ∷ Text form ∷ items) knows i e = cancel_named_known graph node scope n form items knows i e
cancel_known graph node scope (n ∷ Number value ∷ items) knows i e = absurd cc
cancel_known graph node scope _ knows i e = absurd cc

-- the instruction of a name
instruction_known : (graph : GraphData) (node : ℕ) (scope : ScopeNames) (name : List ℕ) (items : List Word) → Knows scope graph node → ReadsKnown graph node (instruction_named scope name items)
instruction_known graph node scope name items knows =
    read_by_name (ReadsKnown graph node) (λ read. read items) name (instructions scope) fault.Instruction (λ i e. absurd cc)
    (set_known graph node items
    also skip_known graph node items
    also named_known graph node scope.topic instr.Pub items (λ name number value. knows.topics name number)
    also named_known graph node scope.client instr.Call items (λ name number value. knows.clients name number)
    also named_known graph node scope.action_client instr.Goal items (λ name number value. knows.action_clients name number)
    also cancel_known graph node scope items knows
    also execute_known graph node scope items knows
    also operand_known graph node instr.Log items (λ value. refl)
    also operand_known graph node instr.Reply items (λ value. refl)
    also operand_known graph node instr.Decide items (λ value. refl)
    also operand_known graph node instr.Feedback items (λ value. refl)
    also operand_known graph node instr.Wait items (λ value. refl)
    also yield_known graph node items
    also operand_known graph node instr.Succeed items (λ value. refl)
    also operand_known graph node instr.Abort items (λ value. refl)
    also operand_known graph node instr.Canceled items (λ value. refl)
    also tt)

one_known : (graph : GraphData) (node : ℕ) (scope : ScopeNames) (words : List Word) → Knows scope graph node → ReadsKnown graph node (instruction_of scope words)
one_known graph node scope [] knows i e = absurd cc
one_known graph node scope (Number value ∷ items) knows i e = absurd cc
one_known graph node scope (Text name ∷ items) knows i e = instruction_known graph node scope name items knows i e

-- ---- scripts

-- a script has an instruction for each list of words, and each names what is there
pub record IsSpeltBy (graph : GraphData) (node : ℕ) (words : List (List Word)) (script : List Instr) : Type 0 where
  pub as_long : length script ≡ length words
  pub known : list_all (is_known graph node) script ≡ true

abbrev script_as : List Instr → Result (List Instr) ScriptFault
script_as script = Ok script

as_read : (graph : GraphData) (node : ℕ) (words : List (List Word)) (script other : List Instr) → IsSpeltBy graph node words script → script_as script ≡ Ok other → IsSpeltBy graph node words other
as_read graph node words script other is e = let is_same : script ≡ other = cc in subst (IsSpeltBy graph node words) is_same is

pub spelt_by : (graph : GraphData) (node : ℕ) (scope : ScopeNames) (words : List (List Word)) (script : List Instr) → Knows scope graph node → script_of scope words ≡ Ok script → IsSpeltBy graph node words script
spelt_by graph node scope [] script knows e = as_read graph node [] [] script (record { as_long = refl; known = refl }) e
spelt_by graph node scope (words ∷ others) script knows e =
    past _ (instruction_of scope words) _ script e (λ i first e1.
    past _ (script_of scope others) _ script e1 (λ rest later e2.
    let behind = spelt_by graph node scope others rest knows later in
    as_read graph node (words ∷ others) (i ∷ rest) script
    (record {
      as_long = ap suc behind.as_long;
      known = and_from (is_known graph node i) (list_all (is_known graph node) rest) (one_known graph node scope words knows i first) behind.known;
    }) e2))
