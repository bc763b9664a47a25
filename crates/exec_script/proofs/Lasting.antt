-- Laws of following a script, each by induction over what is left of it.
use Rattle.std.proofs.Common.{◌≡◌, ◌≢◌, ℕ, zero, suc, ◌+◌, ◌<◌, ◌≤◌, ℤ, List, [], ◌∷◌, ◌++◌, length, drop, Bool, true, false, not, ◌&&◌, ◌||◌, if◌then◌else◌, Option, None, Result, Ok, Err, IfSome, refl, sym, ap, ◌∙◌, append_assoc, append-nil, arith, length-drop, length-append, length-set, get_or, inl, inr}
use Rattle.std.specs.List.{list_any, list_all, All, AllByRecursion, Any}
use Rattle.std.proofs.lemmas.List.{get_or_default}
use Rattle.std.proofs.lemmas.List.Elements.{All-nil, All-push, All-drop, recursion_from_All}
use Rattle.std.proofs.lemmas.Bool.{and_parts, or_parts}
use Rattle.exec_script.specs.LawWords.{goes_on_at, ended_by, IsEnding, MayGive, state_with_variables, give_each, given_later}
use Rattle.exec_script.specs.Legality.{skips_end_within, is_variable, goes_to_variable, names_variable, replies, decides, works, is_allowed, legality_of}
use Rattle.exec_script.specs.Script.{ScriptState, CallInput, value_of, step_of, skipped_by, after_step, follow, resumed, called, call_of, listed}
use Rattle.exec_script.specs.Zeros.{zeros}
use Rattle.exec_script.specs.inner.Frame.{FrameState}
use Rattle.exec_script.specs.declared.effects.Effect.{Effect}
use Rattle.exec_script.specs.declared.fault.ScriptFault.{ScriptFault}
use Rattle.exec_script.specs.declared.fault.ScriptFault.TheVariants as fault
use Rattle.exec_script.specs.declared.instr.Destination.TheVariants as destination
use Rattle.exec_script.specs.declared.instr.Instr.{Instr}
use Rattle.exec_script.specs.Instruction as instr
use Rattle.exec_script.specs.declared.instr.Operand.{Operand}
use Rattle.exec_script.specs.declared.instr.Operand.TheVariants as operand
use Rattle.exec_script.specs.declared.place.Place.{Place}
use Rattle.exec_script.specs.declared.place.Role.{Role}
use Rattle.exec_script.specs.declared.place.Role.TheVariants as role
use Rattle.exec_script.specs.declared.step.Step.{Step}
use Rattle.exec_script.specs.declared.step.Step.TheVariants as step
use Rattle.exec_script.specs.declared.step.Stop.TheVariants as stop

-- where a step leads to goes on behind it, or where it went on before
step_goes_on : {S : Type 0} (P : ℕ → Type 0) (give : Effect → S → S) (place : ℕ) (does : Step) (state : ScriptState S) → P place → IfSome (goes_on_at state.stop) P → IfSome (goes_on_at (after_step give place does state).stop) P
step_goes_on P give place (step.Store destination value) state here before = before
step_goes_on P give place (step.Skip count) state here before = before
step_goes_on P give place (step.Give effect) state here before = before
step_goes_on P give place (step.Answer value) state here before = before
step_goes_on P give place (step.Wait ticks) state here before = here
step_goes_on P give place step.Yield state here before = here
step_goes_on P give place (step.Ended event value) state here before = tt

-- what holds of every place behind this one, up to the end, holds of the place at which the script goes on
follow_goes_on : {S : Type 0} (P : ℕ → Type 0) (give : Effect → S → S) (input : CallInput) (script : List Instr) (place over : ℕ) (state : ScriptState S) → ((k : ℕ) → place < k → k ≤ place + length script → P k) → IfSome (goes_on_at state.stop) P → IfSome (goes_on_at (follow give input script place over state).stop) P
follow_goes_on P give input [] place over state all before = before
follow_goes_on P give input (instruction ∷ rest) place (suc over) state all before =
    follow_goes_on P give input rest (suc place) over state (λ k above below. all k (omega arith) (omega arith)) before
follow_goes_on P give input (instruction ∷ rest) place zero state all before =
    let does = step_of instruction state.registers state.variables input in
    follow_goes_on P give input rest (suc place) (skipped_by does (length rest)) (after_step give (suc place) does state)
    (λ k above below. all k (omega arith) (omega arith))
    (step_goes_on P give (suc place) does state (all (suc place) (omega arith) (omega arith)) before)

pub resumed_behind : {S : Type 0} (give : Effect → S → S) (script : List Instr) (place : ℕ) (registers variables : List ℤ) (answer : Option ℤ) (input : CallInput) (given : S) → IfSome (goes_on_at (resumed give script place registers variables answer input given).stop) (λ next. place < next)
resumed_behind give script place registers variables answer input given =
    follow_goes_on (λ next. place < next) give input (drop place script) place 0 _ (λ k above below. above) tt

pub resumed_within : {S : Type 0} (give : Effect → S → S) (script : List Instr) (place : ℕ) (registers variables : List ℤ) (answer : Option ℤ) (input : CallInput) (given : S) → IfSome (goes_on_at (resumed give script place registers variables answer input given).stop) (λ next. next ≤ length script)
resumed_within give script place registers variables answer input given =
    follow_goes_on (λ next. next ≤ length script) give input (drop place script) place 0 _
    (λ k above below. let e = length-drop place script in omega arith) tt

-- a step makes registers neither more nor fewer
step_as_many : {S : Type 0} (give : Effect → S → S) (place : ℕ) (does : Step) (state : ScriptState S) → length (after_step give place does state).registers ≡ length state.registers
step_as_many give place (step.Store (destination.Register slot) value) state = length-set state.registers slot value
step_as_many give place (step.Store (destination.Variable slot) value) state = refl
step_as_many give place (step.Skip count) state = refl
step_as_many give place (step.Give effect) state = refl
step_as_many give place (step.Answer value) state = refl
step_as_many give place (step.Wait ticks) state = refl
step_as_many give place step.Yield state = refl
step_as_many give place (step.Ended event value) state = refl

follow_as_many : {S : Type 0} (give : Effect → S → S) (input : CallInput) (script : List Instr) (place over : ℕ) (state : ScriptState S) → length (follow give input script place over state).registers ≡ length state.registers
follow_as_many give input [] place over state = refl
follow_as_many give input (instruction ∷ rest) place (suc over) state = follow_as_many give input rest (suc place) over state
follow_as_many give input (instruction ∷ rest) place zero state =
    let does = step_of instruction state.registers state.variables input in
    follow_as_many give input rest (suc place) (skipped_by does (length rest)) (after_step give (suc place) does state) ∙ step_as_many give (suc place) does state

pub resumed_as_many : {S : Type 0} (give : Effect → S → S) (script : List Instr) (place : ℕ) (registers variables : List ℤ) (answer : Option ℤ) (input : CallInput) (given : S) → length (resumed give script place registers variables answer input given).registers ≡ length registers
resumed_as_many give script place registers variables answer input given = follow_as_many give input (drop place script) place 0 _

-- an instruction that ends its goal does so by one of the three events that do
step_ends : {S : Type 0} (give : Effect → S → S) (input : CallInput) (instruction : Instr) (place : ℕ) (state : ScriptState S) → IfSome (ended_by state.stop) IsEnding → IfSome (ended_by (after_step give place (step_of instruction state.registers state.variables input) state).stop) IsEnding
step_ends give input (instr.Set destination operation left right) place state before = before
step_ends give input (instr.Skip condition count) place state before = before
step_ends give input (instr.Pub topic value) place state before = before
step_ends give input (instr.Call client value) place state before = before
step_ends give input (instr.Goal client value) place state before = before
step_ends give input (instr.CancelAll client stamp) place state before = before
step_ends give input (instr.CancelGoal client goal stamp) place state before = before
step_ends give input (instr.Execute server) place state before = before
step_ends give input (instr.Log value) place state before = before
step_ends give input (instr.Reply value) place state before = before
step_ends give input (instr.Decide value) place state before = before
step_ends give input (instr.Feedback value) place state before = before
step_ends give input (instr.Wait ticks) place state before = tt
step_ends give input instr.Yield place state before = tt
step_ends give input (instr.Succeed value) place state before = inl refl
step_ends give input (instr.Abort value) place state before = inr (inl refl)
step_ends give input (instr.Canceled value) place state before = inr (inr refl)

follow_ends : {S : Type 0} (give : Effect → S → S) (input : CallInput) (script : List Instr) (place over : ℕ) (state : ScriptState S) → IfSome (ended_by state.stop) IsEnding → IfSome (ended_by (follow give input script place over state).stop) IsEnding
follow_ends give input [] place over state before = before
follow_ends give input (instruction ∷ rest) place (suc over) state before = follow_ends give input rest (suc place) over state before
follow_ends give input (instruction ∷ rest) place zero state before =
    let does = step_of instruction state.registers state.variables input in
    follow_ends give input rest (suc place) (skipped_by does (length rest)) (after_step give (suc place) does state) (step_ends give input instruction (suc place) state before)

pub resumed_ending : {S : Type 0} (give : Effect → S → S) (script : List Instr) (place : ℕ) (registers variables : List ℤ) (answer : Option ℤ) (input : CallInput) (given : S) → IfSome (ended_by (resumed give script place registers variables answer input given).stop) IsEnding
resumed_ending give script place registers variables answer input given = follow_ends give input (drop place script) place 0 _ tt

-- a step gives at most one effect
step_counts : (place : ℕ) (does : Step) (state : ScriptState (List Effect)) → length (after_step listed place does state).given ≤ suc (length state.given)
step_counts place (step.Store destination value) state = omega arith
step_counts place (step.Skip count) state = omega arith
step_counts place (step.Give effect) state = omega (arith, length-append state.given (effect ∷ []))
step_counts place (step.Answer value) state = omega arith
step_counts place (step.Wait ticks) state = omega arith
step_counts place step.Yield state = omega arith
step_counts place (step.Ended event value) state = omega arith

follow_counts : (input : CallInput) (script : List Instr) (place over : ℕ) (state : ScriptState (List Effect)) → length (follow listed input script place over state).given ≤ length state.given + length script
follow_counts input [] place over state = omega arith
follow_counts input (instruction ∷ rest) place (suc over) state =
    let h = follow_counts input rest (suc place) over state in omega arith
follow_counts input (instruction ∷ rest) place zero state =
    let does = step_of instruction state.registers state.variables input in
    let h = follow_counts input rest (suc place) (skipped_by does (length rest)) (after_step listed (suc place) does state) in
    let k = step_counts (suc place) does state in omega arith

pub resumed_counts : (script : List Instr) (place : ℕ) (registers variables : List ℤ) (answer : Option ℤ) (input : CallInput) (effects : List Effect) → length (resumed listed script place registers variables answer input effects).given ≤ length effects + length script
resumed_counts script place registers variables answer input effects =
    let h = follow_counts input (drop place script) place 0 (record { registers = registers; variables = variables; reply_or_decision = answer; given = effects; stop = stop.End }) in
    let e = length-drop place script in omega arith

-- what holds of each effect that an instruction may give holds of each effect that is given
step_gives : (Q : Effect → Type 0) (place : ℕ) (does : Step) (state : ScriptState (List Effect)) → ((effect : Effect) → does ≡ step.Give effect → Q effect) → All Q state.given → All Q (after_step listed place does state).given
step_gives Q place (step.Store destination value) state each before = before
step_gives Q place (step.Skip count) state each before = before
step_gives Q place (step.Give effect) state each before = All-push Q state.given effect before (each effect refl)
step_gives Q place (step.Answer value) state each before = before
step_gives Q place (step.Wait ticks) state each before = before
step_gives Q place step.Yield state each before = before
step_gives Q place (step.Ended event value) state each before = before

abbrev OnlyGives : CallInput → (Effect → Type 0) → Instr → Type 0
OnlyGives input Q instruction = (effect : Effect) → MayGive input effect instruction → Q effect

follow_gives : (Q : Effect → Type 0) (input : CallInput) (script : List Instr) (place over : ℕ) (state : ScriptState (List Effect)) → AllByRecursion (OnlyGives input Q) script → All Q state.given → All Q (follow listed input script place over state).given
follow_gives Q input [] place over state each before = before
follow_gives Q input (instruction ∷ rest) place (suc over) state each before = follow_gives Q input rest (suc place) over state each.1 before
follow_gives Q input (instruction ∷ rest) place zero state each before =
    let does = step_of instruction state.registers state.variables input in
    follow_gives Q input rest (suc place) (skipped_by does (length rest)) (after_step listed (suc place) does state) each.1
    (step_gives Q (suc place) does state (λ effect is. each.0 effect (state.registers, state.variables, is)) before)

pub resumed_gives : (script : List Instr) (place : ℕ) (registers variables : List ℤ) (answer : Option ℤ) (input : CallInput) → All (λ effect. Any (MayGive input effect) script) (resumed listed script place registers variables answer input []).given
resumed_gives script place registers variables answer input =
    let Q : Effect → Type 0 = λ effect. Any (MayGive input effect) script in
    let each : All (OnlyGives input Q) script = λ k d within effect may.
    (k, get_or script k d, within, get_or_default script k (get_or script k d) d within, may) in
    follow_gives Q input (drop place script) place 0 _
    (recursion_from_All (OnlyGives input Q) (drop place script) (All-drop (OnlyGives input Q) place script each)) (All-nil Q)

-- what no instruction changes that passes a test stays, where all instructions pass it
follow_keeps : {S A : Type 0} (part : ScriptState S → A) (test : Instr → Bool) (give : Effect → S → S) (input : CallInput) → ((instruction : Instr) (place : ℕ) (state : ScriptState S) → test instruction ≡ true → part (after_step give place (step_of instruction state.registers state.variables input) state) ≡ part state) → (script : List Instr) (place over : ℕ) (state : ScriptState S) → list_all test script ≡ true → part (follow give input script place over state) ≡ part state
follow_keeps part test give input keeps [] place over state passes = refl
follow_keeps part test give input keeps (instruction ∷ rest) place (suc over) state passes =
    follow_keeps part test give input keeps rest (suc place) over state (and_parts (test instruction) (list_all test rest) passes).1
follow_keeps part test give input keeps (instruction ∷ rest) place zero state passes =
    let both = and_parts (test instruction) (list_all test rest) passes in
    let does = step_of instruction state.registers state.variables input in
    follow_keeps part test give input keeps rest (suc place) (skipped_by does (length rest)) (after_step give (suc place) does state) both.1
    ∙ keeps instruction (suc place) state both.0

-- so what is left of a list passes
all_left : {A : Type 0} (test : A → Bool) (count : ℕ) (xs : List A) → list_all test xs ≡ true → list_all test (drop count xs) ≡ true
all_left test zero xs passes = passes
all_left test (suc count) [] passes = refl
all_left test (suc count) (x ∷ xs) passes = all_left test count xs (and_parts (test x) (list_all test xs) passes).1

none_left : {A : Type 0} (test : A → Bool) (count : ℕ) (xs : List A) → list_any test xs ≡ false → list_any test (drop count xs) ≡ false
none_left test zero xs none = none
none_left test (suc count) [] none = refl
none_left test (suc count) (x ∷ xs) none = none_left test count xs (or_parts (test x) (list_any test xs) none).1

-- only a goal's own work stops
stops_only_goals : {S : Type 0} (role : Role) (give : Effect → S → S) (input : CallInput) → works role ≡ false → (instruction : Instr) (place : ℕ) (state : ScriptState S) → is_allowed role instruction ≡ true → (after_step give place (step_of instruction state.registers state.variables input) state).stop ≡ state.stop
stops_only_goals r give input h (instr.Set destination operation left right) place state allowed = refl
stops_only_goals r give input h (instr.Skip condition count) place state allowed = refl
stops_only_goals r give input h (instr.Pub topic value) place state allowed = refl
stops_only_goals r give input h (instr.Call client value) place state allowed = refl
stops_only_goals r give input h (instr.Goal client value) place state allowed = refl
stops_only_goals r give input h (instr.CancelAll client stamp) place state allowed = refl
stops_only_goals r give input h (instr.CancelGoal client goal stamp) place state allowed = refl
stops_only_goals r give input h (instr.Execute server) place state allowed = refl
stops_only_goals r give input h (instr.Log value) place state allowed = refl
stops_only_goals r give input h (instr.Reply value) place state allowed = refl
stops_only_goals r give input h (instr.Decide value) place state allowed = refl
stops_only_goals r give input h (instr.Feedback value) place state allowed = refl
stops_only_goals r give input h (instr.Wait ticks) place state allowed = absurd cc
stops_only_goals r give input h instr.Yield place state allowed = absurd cc
stops_only_goals r give input h (instr.Succeed value) place state allowed = absurd cc
stops_only_goals r give input h (instr.Abort value) place state allowed = absurd cc
stops_only_goals r give input h (instr.Canceled value) place state allowed = absurd cc

-- only a service and a handler answer
answers_only_asked : {S : Type 0} (role : Role) (give : Effect → S → S) (input : CallInput) → replies role ≡ false → decides role ≡ false → (instruction : Instr) (place : ℕ) (state : ScriptState S) → is_allowed role instruction ≡ true → (after_step give place (step_of instruction state.registers state.variables input) state).reply_or_decision ≡ state.reply_or_decision
answers_only_asked r give input h k (instr.Set destination operation left right) place state allowed = refl
answers_only_asked r give input h k (instr.Skip condition count) place state allowed = refl
answers_only_asked r give input h k (instr.Pub topic value) place state allowed = refl
answers_only_asked r give input h k (instr.Call client value) place state allowed = refl
answers_only_asked r give input h k (instr.Goal client value) place state allowed = refl
answers_only_asked r give input h k (instr.CancelAll client stamp) place state allowed = refl
answers_only_asked r give input h k (instr.CancelGoal client goal stamp) place state allowed = refl
answers_only_asked r give input h k (instr.Execute server) place state allowed = refl
answers_only_asked r give input h k (instr.Log value) place state allowed = refl
answers_only_asked r give input h k (instr.Reply value) place state allowed = absurd cc
answers_only_asked r give input h k (instr.Decide value) place state allowed = absurd cc
answers_only_asked r give input h k (instr.Feedback value) place state allowed = refl
answers_only_asked r give input h k (instr.Wait ticks) place state allowed = refl
answers_only_asked r give input h k instr.Yield place state allowed = refl
answers_only_asked r give input h k (instr.Succeed value) place state allowed = refl
answers_only_asked r give input h k (instr.Abort value) place state allowed = refl
answers_only_asked r give input h k (instr.Canceled value) place state allowed = refl

-- an operand that is no group variable has the same value for all group variables
value_alone : (o : Operand) (registers variables others : List ℤ) (input : CallInput) → is_variable o ≡ false → value_of o registers variables input ≡ value_of o registers others input
value_alone (operand.Value value) registers variables others input h = refl
value_alone (operand.Register slot) registers variables others input h = refl
value_alone (operand.Variable slot) registers variables others input h = absurd cc
value_alone operand.In registers variables others input h = refl
value_alone operand.Aux registers variables others input h = refl
value_alone operand.Now registers variables others input h = refl

-- so an instruction that names none does the same
step_alone : (instruction : Instr) (registers variables others : List ℤ) (input : CallInput) → names_variable instruction ≡ false → step_of instruction registers variables input ≡ step_of instruction registers others input
step_alone (instr.Set d operation a b) registers variables others input h =
    let p = or_parts (goes_to_variable d || is_variable a) (is_variable b) h in
    let q = or_parts (goes_to_variable d) (is_variable a) p.0 in
    rw (value_alone a registers variables others input q.1, value_alone b registers variables others input p.1)
step_alone (instr.Skip condition count) registers variables others input h = rw (value_alone condition registers variables others input h)
step_alone (instr.Pub topic value) registers variables others input h = rw (value_alone value registers variables others input h)
step_alone (instr.Call client value) registers variables others input h = rw (value_alone value registers variables others input h)
step_alone (instr.Goal client value) registers variables others input h = rw (value_alone value registers variables others input h)
step_alone (instr.CancelAll client stamp) registers variables others input h = rw (value_alone stamp registers variables others input h)
step_alone (instr.CancelGoal client goal stamp) registers variables others input h =
    let p = or_parts (is_variable goal) (is_variable stamp) h in
    rw (value_alone goal registers variables others input p.0, value_alone stamp registers variables others input p.1)
step_alone (instr.Execute server) registers variables others input h = refl
step_alone (instr.Log value) registers variables others input h = rw (value_alone value registers variables others input h)
step_alone (instr.Reply value) registers variables others input h = rw (value_alone value registers variables others input h)
step_alone (instr.Decide value) registers variables others input h = rw (value_alone value registers variables others input h)
step_alone (instr.Feedback value) registers variables others input h = rw (value_alone value registers variables others input h)
step_alone (instr.Wait ticks) registers variables others input h = rw (value_alone ticks registers variables others input h)
step_alone instr.Yield registers variables others input h = refl
step_alone (instr.Succeed value) registers variables others input h = rw (value_alone value registers variables others input h)
step_alone (instr.Abort value) registers variables others input h = rw (value_alone value registers variables others input h)
step_alone (instr.Canceled value) registers variables others input h = rw (value_alone value registers variables others input h)

-- a step that stores into a group variable
abbrev touches : Step → Bool
touches (step.Store d value) = goes_to_variable d
touches (step.Skip count) = false
touches (step.Give effect) = false
touches (step.Answer value) = false
touches (step.Wait ticks) = false
touches step.Yield = false
touches (step.Ended event value) = false

step_untouched : (instruction : Instr) (registers variables : List ℤ) (input : CallInput) → names_variable instruction ≡ false → touches (step_of instruction registers variables input) ≡ false
step_untouched (instr.Set d operation a b) registers variables input h =
    (or_parts (goes_to_variable d) (is_variable a) (or_parts (goes_to_variable d || is_variable a) (is_variable b) h).0).0
step_untouched (instr.Skip condition count) registers variables input h = refl
step_untouched (instr.Pub topic value) registers variables input h = refl
step_untouched (instr.Call client value) registers variables input h = refl
step_untouched (instr.Goal client value) registers variables input h = refl
step_untouched (instr.CancelAll client stamp) registers variables input h = refl
step_untouched (instr.CancelGoal client goal stamp) registers variables input h = refl
step_untouched (instr.Execute server) registers variables input h = refl
step_untouched (instr.Log value) registers variables input h = refl
step_untouched (instr.Reply value) registers variables input h = refl
step_untouched (instr.Decide value) registers variables input h = refl
step_untouched (instr.Feedback value) registers variables input h = refl
step_untouched (instr.Wait ticks) registers variables input h = refl
step_untouched instr.Yield registers variables input h = refl
step_untouched (instr.Succeed value) registers variables input h = refl
step_untouched (instr.Abort value) registers variables input h = refl
step_untouched (instr.Canceled value) registers variables input h = refl

after_untouched : {S : Type 0} (give : Effect → S → S) (place : ℕ) (does : Step) (variables : List ℤ) (state : ScriptState S) → touches does ≡ false → after_step give place does (state_with_variables variables state) ≡ state_with_variables variables (after_step give place does state)
after_untouched give place (step.Store (destination.Register slot) value) variables state h = refl
after_untouched give place (step.Store (destination.Variable slot) value) variables state h = absurd cc
after_untouched give place (step.Skip count) variables state h = refl
after_untouched give place (step.Give effect) variables state h = refl
after_untouched give place (step.Answer value) variables state h = refl
after_untouched give place (step.Wait ticks) variables state h = refl
after_untouched give place step.Yield variables state h = refl
after_untouched give place (step.Ended event value) variables state h = refl

-- a script that names no group variable does the same for all of them, and leaves them
follow_alone : {S : Type 0} (give : Effect → S → S) (input : CallInput) (script : List Instr) (place over : ℕ) (variables : List ℤ) (state : ScriptState S) → list_any names_variable script ≡ false → follow give input script place over (state_with_variables variables state) ≡ state_with_variables variables (follow give input script place over state)
follow_alone give input [] place over variables state none = refl
follow_alone give input (instruction ∷ rest) place (suc over) variables state none =
    follow_alone give input rest (suc place) over variables state (or_parts (names_variable instruction) (list_any names_variable rest) none).1
follow_alone {S} give input (instruction ∷ rest) place zero variables state none =
    let parts = or_parts (names_variable instruction) (list_any names_variable rest) none in
    let does = step_of instruction state.registers state.variables input in
    ap (λ (s : Step). follow give input rest (suc place) (skipped_by s (length rest)) (after_step give (suc place) s (state_with_variables variables state))) (step_alone instruction state.registers variables state.variables input parts.0)
    ∙ ap (λ (after : ScriptState S). follow give input rest (suc place) (skipped_by does (length rest)) after) (after_untouched give (suc place) does variables state (step_untouched instruction state.registers state.variables input parts.0))
    ∙ follow_alone give input rest (suc place) (skipped_by does (length rest)) variables (after_step give (suc place) does state) parts.1

-- what the legality of a script says
abbrev legality_by : Bool → Bool → Bool → Result (Unit {0}) ScriptFault
legality_by within allowed named = if not within then Err fault.Skip else (if not allowed then Err fault.Place else (if named then Err fault.GroupVariable else Ok tt))

legal_parts : (within allowed named : Bool) → legality_by within allowed named ≡ Ok tt → (within ≡ true) × ((allowed ≡ true) × (named ≡ false))
legal_parts true true false h = (refl, (refl, refl))
legal_parts true true true h = absurd cc
legal_parts true false named h = absurd cc
legal_parts false allowed named h = absurd cc

pub legal_allowed : (script : List Instr) (place : Place) → legality_of script place ≡ Ok tt → list_all (is_allowed place.role) script ≡ true
legal_allowed script place h = (legal_parts (skips_end_within script) (list_all (is_allowed place.role) script) (place.reentrant && list_any names_variable script) h).1.0

pub legal_alone : (script : List Instr) (place : Place) → place.reentrant ≡ true → legality_of script place ≡ Ok tt → list_any names_variable script ≡ false
legal_alone script place reentrant h =
    let named = (legal_parts (skips_end_within script) (list_all (is_allowed place.role) script) (place.reentrant && list_any names_variable script) h).1.1 in
    rw reentrant at named

only_goals_work : (r : Role) → r ≢ role.Goal → works r ≡ false
only_goals_work role.Callback other = refl
only_goals_work role.Service other = refl
only_goals_work role.GoalHandler other = refl
only_goals_work role.CancelHandler other = refl
only_goals_work role.Goal other = absurd (other refl)

pub resumed_ends : {S : Type 0} (give : Effect → S → S) (script : List Instr) (kept : Place) (place : ℕ) (registers variables : List ℤ) (answer : Option ℤ) (input : CallInput) (given : S) → kept.role ≢ role.Goal → legality_of script kept ≡ Ok tt → (resumed give script place registers variables answer input given).stop ≡ stop.End
resumed_ends give script kept place registers variables answer input given other legal =
    follow_keeps (λ state. state.stop) (is_allowed kept.role) give input (stops_only_goals kept.role give input (only_goals_work kept.role other))
    (drop place script) place 0 _ (all_left (is_allowed kept.role) place script (legal_allowed script kept legal))

pub resumed_silent : {S : Type 0} (give : Effect → S → S) (script : List Instr) (kept : Place) (place : ℕ) (registers variables : List ℤ) (answer : Option ℤ) (input : CallInput) (given : S) → replies kept.role ≡ false → decides kept.role ≡ false → legality_of script kept ≡ Ok tt → (resumed give script place registers variables answer input given).reply_or_decision ≡ answer
resumed_silent give script kept place registers variables answer input given p q legal =
    follow_keeps (λ state. state.reply_or_decision) (is_allowed kept.role) give input (answers_only_asked kept.role give input p q)
    (drop place script) place 0 _ (all_left (is_allowed kept.role) place script (legal_allowed script kept legal))

pub resumed_alone : {S : Type 0} (give : Effect → S → S) (script : List Instr) (kept : Place) (place : ℕ) (registers variables others : List ℤ) (answer : Option ℤ) (input : CallInput) (given : S) → kept.reentrant ≡ true → legality_of script kept ≡ Ok tt → resumed give script place registers variables answer input given ≡ state_with_variables variables (resumed give script place registers others answer input given)
resumed_alone give script kept place registers variables others answer input given reentrant legal =
    follow_alone give input (drop place script) place 0 variables
    (record { registers = registers; variables = others; reply_or_decision = answer; given = given; stop = stop.End })
    (none_left names_variable place script (legal_alone script kept reentrant legal))

-- one more effect is given last
give_all_more : {S : Type 0} (give : Effect → S → S) (given : S) (effects : List Effect) (effect : Effect) → give effect (give_each give effects given) ≡ give_each give (effects ++ effect ∷ []) given
give_all_more give given [] effect = refl
give_all_more give given (first ∷ effects) effect = give_all_more give (give first given) effects effect

-- a step whose effect is given at once
step_later : {S : Type 0} (give : Effect → S → S) (given : S) (place : ℕ) (does : Step) (state : ScriptState (List Effect)) → after_step give place does (given_later give given state) ≡ given_later give given (after_step listed place does state)
step_later give given place (step.Store destination value) state = refl
step_later give given place (step.Skip count) state = refl
step_later {S} give given place (step.Give effect) state =
    ap (λ (after : S). record { registers = state.registers; variables = state.variables; reply_or_decision = state.reply_or_decision; given = after; stop = state.stop }) (give_all_more give given state.given effect)
step_later give given place (step.Answer value) state = refl
step_later give given place (step.Wait ticks) state = refl
step_later give given place step.Yield state = refl
step_later give given place (step.Ended event value) state = refl

-- effects that are given at once do what effects do that are given later
pub follow_later : {S : Type 0} (give : Effect → S → S) (given : S) (input : CallInput) (script : List Instr) (place over : ℕ) (state : ScriptState (List Effect)) → follow give input script place over (given_later give given state) ≡ given_later give given (follow listed input script place over state)
follow_later give given input [] place over state = refl
follow_later give given input (instruction ∷ rest) place (suc over) state = follow_later give given input rest (suc place) over state
follow_later {S} give given input (instruction ∷ rest) place zero state =
    let does = step_of instruction state.registers state.variables input in
    ap (λ (after : ScriptState S). follow give input rest (suc place) (skipped_by does (length rest)) after) (step_later give given (suc place) does state)
    ∙ follow_later give given input rest (suc place) (skipped_by does (length rest)) (after_step listed (suc place) does state)

pub resumed_later : {S : Type 0} (give : Effect → S → S) (script : List Instr) (place : ℕ) (registers variables : List ℤ) (answer : Option ℤ) (input : CallInput) (effects : List Effect) (given : S) → resumed give script place registers variables answer input (give_each give effects given) ≡ given_later give given (resumed listed script place registers variables answer input effects)
resumed_later give script place registers variables answer input effects given =
    follow_later give given input (drop place script) place 0
    (record { registers = registers; variables = variables; reply_or_decision = answer; given = effects; stop = stop.End })

-- ---- effects behind others

listed_after : (first effects : List Effect) → give_each listed effects first ≡ first ++ effects
listed_after first [] = sym (append-nil first)
listed_after first (effect ∷ effects) = listed_after (first ++ effect ∷ []) effects ∙ append_assoc first (effect ∷ []) effects

-- a call whose effects go behind others
pub called_after : (script : List Instr) (variables : List ℤ) (input : CallInput) (effects : List Effect) → called listed script variables input effects ≡ record (call_of script variables input) { given = effects ++ (call_of script variables input).given }
called_after script variables input effects =
    resumed_later listed script 0 zeros variables None input [] effects
    ∙ ap (λ (given : List Effect). record (call_of script variables input) { given = given }) (listed_after effects (call_of script variables input).given)

-- it is a run from the top on a new frame
pub call_ends : (script : List Instr) (registers variables : List ℤ) (input : CallInput) (frame : FrameState) (effects items : List Effect) (ends : ScriptState (List Effect)) → registers ≡ zeros → frame ≡ record { registers = registers; variables = variables; input = input } → items ≡ effects →
    ends ≡ resumed listed script 0 frame.registers frame.variables None frame.input items → ends ≡ record (call_of script variables input) { given = effects ++ (call_of script variables input).given }
call_ends script registers variables input frame effects items ends r f e h =
    h
    ∙ ap (λ (it : FrameState). resumed listed script 0 it.registers it.variables None it.input items) f
    ∙ ap (λ (it : List ℤ). resumed listed script 0 it variables None input items) r
    ∙ ap (λ (it : List Effect). resumed listed script 0 zeros variables None input it) e
    ∙ called_after script variables input effects
