-- Following a script instruction by instruction, by the place that comes next.
use Rattle.std.proofs.Common.{◌≡◌, ℕ, zero, suc, ◌+◌, ◌-◌, ◌^◌, ◌<◌, ◌≤◌, min, List, [], ◌∷◌, length, get_or, drop, refl, sym, ap, ◌∙◌, ⊎_elim, arith, add-one}
use Rattle.std.proofs.lemmas.List.{drop-drop, drop_all}
use Rattle.std.proofs.lemmas.Bool.{cases_lt}
use Rattle.std.proofs.Math.Seq.{drop-cons}
use Rattle.exec_script.specs.Script.{ScriptState, CallInput, follow, step_of, skipped_by, after_step}
use Rattle.exec_script.specs.declared.effects.Effect.{Effect}
use Rattle.exec_script.specs.declared.instr.Instr.{Instr}
use Rattle.exec_script.specs.declared.step.Step.{Step}
use Rattle.exec_script.specs.declared.step.Step.TheVariants.{Skip}

-- behind the end nothing more comes
pub follow_none : {S : Type 0} (give : Effect → S → S) (input : CallInput) (script : List Instr) (pc place over : ℕ) (state : ScriptState S) → length script ≤ pc → follow give input (drop pc script) place over state ≡ state
follow_none give input script pc place over state beyond = ap (λ (xs : List Instr). follow give input xs place over state) (drop_all pc script beyond)

-- where all that is left is passed over, nothing more comes
pub follow_all : {S : Type 0} (give : Effect → S → S) (input : CallInput) (script : List Instr) (place : ℕ) (state : ScriptState S) → follow give input script place (length script) state ≡ state
follow_all give input [] place state = refl
follow_all give input (instruction ∷ rest) place state = follow_all give input rest (suc place) state

-- the first `over` instructions are passed over
pub follow_over : {S : Type 0} (give : Effect → S → S) (input : CallInput) (script : List Instr) (place over next : ℕ) (state : ScriptState S) → place + over ≡ next → follow give input script place over state ≡ follow give input (drop over script) next 0 state
follow_over give input [] place zero next state h = refl
follow_over give input [] place (suc over) next state h = refl
follow_over give input (instruction ∷ rest) place zero next state h =
    let e : place ≡ next = omega arith in ap (λ (n : ℕ). follow give input (instruction ∷ rest) n 0 state) e
follow_over give input (instruction ∷ rest) place (suc over) next state h =
    let e : suc place + over ≡ next = omega arith in follow_over give input rest (suc place) over next state e

-- one instruction is followed, by what it does
pub follow_one : {S : Type 0} (give : Effect → S → S) (input : CallInput) (script : List Instr) (pc : ℕ) (instruction : Instr) (does : Step) (state : ScriptState S) → pc < length script → instruction ≡ get_or script pc instruction → does ≡ step_of instruction state.registers state.variables input → follow give input (drop pc script) pc 0 state ≡ follow give input (drop (pc + 1) script) (pc + 1) (skipped_by does (length (drop (pc + 1) script))) (after_step give (pc + 1) does state)
follow_one give input script pc instruction does state within there h =
    let first : drop pc script ≡ instruction ∷ drop (suc pc) script = drop-cons script pc instruction within ∙ ap (λ (x : Instr). x ∷ drop (suc pc) script) (sym there) in
    ap (λ (xs : List Instr). follow give input xs pc 0 state) first
    ∙ ap (λ (s : Step). follow give input (drop (suc pc) script) (suc pc) (skipped_by s (length (drop (suc pc) script))) (after_step give (suc pc) s state)) (sym h)
    ∙ ap (λ (n : ℕ). follow give input (drop n script) n (skipped_by does (length (drop n script))) (after_step give n does state)) (sym (add-one pc))

-- a step that stops the script is its last
pub follow_stop : {S : Type 0} (give : Effect → S → S) (input : CallInput) (script : List Instr) (pc : ℕ) (instruction : Instr) (does : Step) (state : ScriptState S) → pc < length script → instruction ≡ get_or script pc instruction → does ≡ step_of instruction state.registers state.variables input → ((left : ℕ) → skipped_by does left ≡ left) → follow give input (drop pc script) pc 0 state ≡ after_step give (pc + 1) does state
follow_stop give input script pc instruction does state within there h stops =
    follow_one give input script pc instruction does state within there h
    ∙ ap (λ (n : ℕ). follow give input (drop (pc + 1) script) (pc + 1) n (after_step give (pc + 1) does state)) (stops (length (drop (pc + 1) script)))
    ∙ follow_all give input (drop (pc + 1) script) (pc + 1) (after_step give (pc + 1) does state)

-- the same rest is left, also where the place is beyond the greatest number
same_rest : {S : Type 0} (give : Effect → S → S) (input : CallInput) (script : List Instr) (pc count next : ℕ) (state : ScriptState S) → length script < 2 ^ 64 → next ≡ min (pc + 1 + count) (2 ^ 64 - 1) → follow give input (drop (pc + 1 + count) script) (pc + 1 + count) 0 state ≡ follow give input (drop next script) next 0 state
same_rest give input script pc count next state small moved =
    ⊎_elim (λ below. let e : pc + 1 + count ≡ next = omega arith in ap (λ (n : ℕ). follow give input (drop n script) n 0 state) e)
    (λ beyond. follow_none give input script (pc + 1 + count) (pc + 1 + count) 0 state (omega arith) ∙ sym (follow_none give input script next next 0 state (omega arith)))
    (cases_lt (pc + 1 + count) (2 ^ 64))

-- a skip to a place, or to the greatest number where the place is beyond it, passes its instructions over
pub follow_skip : {S : Type 0} (give : Effect → S → S) (input : CallInput) (script : List Instr) (pc count next : ℕ) (instruction : Instr) (state : ScriptState S) → pc < length script → length script < 2 ^ 64 → instruction ≡ get_or script pc instruction → Skip count ≡ step_of instruction state.registers state.variables input → next ≡ min (pc + 1 + count) (2 ^ 64 - 1) → follow give input (drop pc script) pc 0 state ≡ follow give input (drop next script) next 0 state
follow_skip give input script pc count next instruction state within small there passes moved =
    follow_one give input script pc instruction (Skip count) state within there passes
    ∙ follow_over give input (drop (pc + 1) script) (pc + 1) count (pc + 1 + count) state refl
    ∙ ap (λ (xs : List Instr). follow give input xs (pc + 1 + count) 0 state) (drop-drop count (pc + 1) script)
    ∙ same_rest give input script pc count next state small moved
