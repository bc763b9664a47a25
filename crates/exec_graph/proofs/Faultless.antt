-- Scripts without faults: each is spelt well.
use Rattle.std.proofs.Common.{◌≡◌, Bool, true, false, not, is_some, List, [], ◌∷◌, ◌++◌, Option, None, Some, Result, Ok, Err, filter_map, option_map, refl, ap, sym, ◌∙◌}
use Rattle.std.specs.List.{cons_option, list_all, list_any}
use Rattle.std.specs.Result.{result_ok, result_err}
use Rattle.std.proofs.lemmas.Bool.{or_parts, and_from}
use Rattle.std.proofs.lemmas.Option.{same_Some}
use Rattle.exec_graph.specs.inner.Directory.{fault_at}
use Rattle.exec_script.specs.Instruction.{Script}
use Rattle.exec_plan.specs.Entity.{Spelled, RoleScriptData}
use Rattle.exec_graph.specs.Faults.{is_of_variable}
use Rattle.exec_graph.specs.Resolved.{resolved_script}
use Rattle.exec_graph.specs.Scripts.{fault_of}
use Rattle.exec_script.specs.Legality.{legality_of}
use Rattle.exec_script.specs.Spelling.{ScopeNames, script_of, ◌>>=◌}
use Rattle.exec_script.specs.declared.fault.ScriptFault.{ScriptFault}
use Rattle.exec_script.specs.declared.instr.Instr.{Instr}
use Rattle.exec_script.specs.declared.place.Role.{Role}
use Rattle.exec_graph.proofs.EntityReading.{roled, roled_by}
use Rattle.exec_graph.proofs.Misspelt.{IsOther, script_other}
use Rattle.exec_plan.proofs.Reading.{AreRead}

-- ---- lists with nothing in them

pub front_nothing : {A : Type 0} (xs ys : List A) → xs ++ ys ≡ [] → xs ≡ []
front_nothing [] ys e = refl
front_nothing (x ∷ xs) ys e = absurd cc

pub back_nothing : {A : Type 0} (xs ys : List A) → xs ++ ys ≡ [] → ys ≡ []
back_nothing [] ys e = e
back_nothing (x ∷ xs) ys e = absurd cc

pub first_none : {A : Type 0} (o : Option A) (xs : List A) → cons_option o xs ≡ [] → o ≡ None
first_none None xs e = refl
first_none (Some x) xs e = absurd cc

pub others_nothing : {A : Type 0} (o : Option A) (xs : List A) → cons_option o xs ≡ [] → xs ≡ []
others_nothing None xs e = e
others_nothing (Some x) xs e = absurd cc

-- ---- scripts

-- whether a fault isn't that of a group variable
abbrev pub is_another : ScriptFault → Bool
is_another fault = not (is_of_variable fault)

spelt_by : (read : Result (List Instr) ScriptFault) (legal : List Instr → Result (Unit {0}) ScriptFault) (others : List ScriptFault) → IsOther read → list_any is_another (cons_option (result_err (read >>= legal)) others) ≡ false → is_some (result_ok read) ≡ true
spelt_by (Ok script) legal others other none = refl
spelt_by (Err fault) legal others other none =
    let contrary : true ≡ false = sym (ap not other) ∙ (or_parts (is_another fault) (list_any is_another others) none).0 in
    absurd cc

others_none : (o : Option ScriptFault) (others : List ScriptFault) → list_any is_another (cons_option o others) ≡ false → list_any is_another others ≡ false
others_none None others none = none
others_none (Some fault) others none = (or_parts (is_another fault) (list_any is_another others) none).1

-- scripts of which none has another fault than that of a variable are spelt well
pub all_spelt : (scope : ScopeNames) (reentrant : Bool) (scripts : List (RoleScriptData Spelled)) → list_any is_another (filter_map (fault_of scope reentrant) scripts) ≡ false → list_all (λ roled. is_some (resolved_script scope roled.script)) scripts ≡ true
all_spelt scope reentrant [] none = refl
all_spelt scope reentrant (roled ∷ scripts) none =
    let others = filter_map (fault_of scope reentrant) scripts in
    and_from (is_some (resolved_script scope roled.script)) (list_all (λ roled. is_some (resolved_script scope roled.script)) scripts)
    (spelt_by (script_of scope roled.script) (λ script. legality_of script (record { reentrant = reentrant; role = roled.role })) others (script_other scope roled.script) none)
    (all_spelt scope reentrant scripts (others_none (fault_of scope reentrant roled) others none))

-- ---- faults of scripts that were read

fault_by : (reentrant : Bool) (runs : Role) (read : Result (List Instr) ScriptFault) (is : RoleScriptData Script) → option_map (roled runs) (result_ok read) ≡ Some is → fault_at reentrant is ≡ result_err (read >>= (λ script. legality_of script (record { reentrant = reentrant; role = runs })))
fault_by reentrant runs (Ok script) is e = ap (fault_at reentrant) (sym (same_Some (roled runs script) is e))
fault_by reentrant runs (Err fault) is e = absurd cc

-- the faults of scripts that were read are those of their spelling
pub scripts_same : (scope : ScopeNames) (reentrant : Bool) (spelt : List (RoleScriptData Spelled)) (scripts : List (RoleScriptData Script)) → AreRead (roled_by (resolved_script scope)) spelt scripts → filter_map (fault_at reentrant) scripts ≡ filter_map (fault_of scope reentrant) spelt
scripts_same scope reentrant [] [] reads = refl
scripts_same scope reentrant [] (is ∷ scripts) reads = absurd reads
scripts_same scope reentrant (from ∷ spelt) [] reads = absurd reads
scripts_same scope reentrant (from ∷ spelt) (is ∷ scripts) reads =
    λ i. cons_option (fault_by reentrant from.role (script_of scope from.script) is reads.0 i) (scripts_same scope reentrant spelt scripts reads.1 i)
