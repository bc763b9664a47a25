-- What a script does, by recursion on the instructions that are left of it.
use Rattle.std.specs.Prelude.{◌≡◌, ℕ, zero, suc, ◌<◌, ℤ, pos, negsuc, List, [], ◌∷◌, ◌++◌, length, drop, int_lt, if◌then◌else◌, slice_index_or, slice_set, Option, None, Some, ⊤}
use Rattle.std.specs.Int.{w64, int_wrapping_add, int_wrapping_sub, int_wrapping_mul, int_min, int_max}
use Rattle.std.specs.Option.{unwrap_or}
use Rattle.std.specs.Ordering.{int_eq}
use Rattle.exec_msg.specs.Goal.{decision_number, cancel_decision_number}
use Rattle.exec_msg.specs.Numbers.{Moment, Ticks}
use Rattle.exec_msg.specs.declared.goal.CancelDecision.{CancelDecision}
use Rattle.exec_msg.specs.declared.goal.CancelDecision.TheVariants as cancel_decision
use Rattle.exec_msg.specs.declared.goal.Decision.{Decision}
use Rattle.exec_msg.specs.declared.goal.Decision.TheVariants as decision
use Rattle.exec_msg.specs.declared.goal.Event.TheVariants as event
use Rattle.exec_script.specs.Zeros.{zeros}
use Rattle.exec_script.specs.declared.effects.Close.{Close}
use Rattle.exec_script.specs.declared.effects.Close.TheVariants as close
use Rattle.exec_script.specs.declared.effects.Effect.{Effect}
use Rattle.exec_script.specs.declared.effects.Effect.TheVariants as effect
use Rattle.exec_script.specs.declared.instr.Destination.{Destination}
use Rattle.exec_script.specs.declared.instr.Destination.TheVariants as destination
use Rattle.exec_script.specs.Instruction.{Instruction, Script}
use Rattle.exec_script.specs.Instruction as instr
use Rattle.exec_script.specs.declared.instr.Operand.{Operand}
use Rattle.exec_script.specs.declared.instr.Operand.TheVariants as operand
use Rattle.exec_script.specs.declared.instr.Operation.{Operation}
use Rattle.exec_script.specs.declared.instr.Operation.TheVariants as operation
use Rattle.exec_script.specs.declared.place.Role.{Role}
use Rattle.exec_script.specs.declared.place.Role.TheVariants as role
use Rattle.exec_script.specs.declared.step.Step.{Step}
use Rattle.exec_script.specs.declared.step.Step.TheVariants as step
use Rattle.exec_script.specs.declared.step.Stop.{Stop}
use Rattle.exec_script.specs.declared.step.Stop.TheVariants as stop

-- the eight registers of a script's run
abbrev pub Registers : Type 0
Registers = List ℤ

-- the eight variables of a callback group
abbrev pub Variables : Type 0
Variables = List ℤ

-- what a callback is handed: `in`, `aux`, and the round's moment
pub record CallInput : Type 0 where
  pub first : ℤ
  pub aux : ℤ
  pub moment : Moment

-- where a script stands: its registers, its group's variables, its reply or decision so far, what its effects made of
-- where they went, and where it stops if nothing more comes
pub record ScriptState (S : Type 0) : Type 0 where
  pub registers : Registers
  pub variables : Variables
  pub reply_or_decision : Option ℤ
  pub given : S
  pub stop : Stop

-- what an operation gives
abbrev pub result_of : Operation → ℤ → ℤ → ℤ
result_of operation.Add a b = int_wrapping_add w64 a b
result_of operation.Sub a b = int_wrapping_sub w64 a b
result_of operation.Mul a b = int_wrapping_mul w64 a b
result_of operation.Min a b = int_min a b
result_of operation.Max a b = int_max a b
result_of operation.Lt a b = if int_lt a b then pos 1 else pos 0
result_of operation.Eq a b = if int_eq a b then pos 1 else pos 0

-- the value of an operand
abbrev pub value_of : Operand → Registers → Variables → CallInput → ℤ
value_of (operand.Value value) registers variables input = value
value_of (operand.Register slot) registers variables input = slice_index_or registers slot (pos 0)
value_of (operand.Variable slot) registers variables input = slice_index_or variables slot (pos 0)
value_of operand.In registers variables input = input.first
value_of operand.Aux registers variables input = input.aux
value_of operand.Now registers variables input = pos input.moment

-- a number of ticks, a stamp, or the number of a goal: 0 where the integer is below 0
abbrev pub at_least_0 : ℤ → ℕ
at_least_0 (pos n) = n
at_least_0 (negsuc n) = 0

-- what one instruction does
abbrev pub step_of : Instruction → Registers → Variables → CallInput → Step
step_of (instr.Set destination operation left right) registers variables input =
    step.Store destination (result_of operation (value_of left registers variables input) (value_of right registers variables input))
step_of (instr.Skip condition count) registers variables input = step.Skip (if int_eq (value_of condition registers variables input) (pos 0) then 0 else count)
step_of (instr.Pub topic value) registers variables input = step.Give (effect.Publish topic (value_of value registers variables input))
step_of (instr.Call client value) registers variables input = step.Give (effect.Call client (value_of value registers variables input))
step_of (instr.Goal client value) registers variables input = step.Give (effect.SendGoal client (value_of value registers variables input))
step_of (instr.CancelAll client stamp) registers variables input = step.Give (effect.CancelAll client (at_least_0 (value_of stamp registers variables input)))
step_of (instr.CancelGoal client goal stamp) registers variables input =
    step.Give (effect.CancelGoal client (at_least_0 (value_of goal registers variables input)) (at_least_0 (value_of stamp registers variables input)))
step_of (instr.Execute server) registers variables input = step.Give (effect.Execute server)
step_of (instr.Log value) registers variables input = step.Give (effect.Log (value_of value registers variables input))
step_of (instr.Reply value) registers variables input = step.Answer (value_of value registers variables input)
step_of (instr.Decide value) registers variables input = step.Answer (value_of value registers variables input)
step_of (instr.Feedback value) registers variables input = step.Give (effect.Feedback (value_of value registers variables input))
step_of (instr.Wait ticks) registers variables input = step.Wait (at_least_0 (value_of ticks registers variables input))
step_of instr.Yield registers variables input = step.Yield
step_of (instr.Succeed value) registers variables input = step.Ended event.Succeed (value_of value registers variables input)
step_of (instr.Abort value) registers variables input = step.Ended event.Abort (value_of value registers variables input)
step_of (instr.Canceled value) registers variables input = step.Ended event.Canceled (value_of value registers variables input)

-- a script that stops to wait does so for fewer ticks than a bound
abbrev pub WaitsWithin : Ticks → Stop → Type 0
WaitsWithin bound (stop.Wait ticks place) = ticks < bound
WaitsWithin bound _ = ⊤

-- how many of the next instructions a step passes over, where so many are left: one that stops the script passes over all
abbrev pub skipped_by : Step → ℕ → ℕ
skipped_by (step.Skip count) left = count
skipped_by (step.Wait ticks) left = left
skipped_by step.Yield left = left
skipped_by (step.Ended event value) left = left
skipped_by _ left = 0

-- the registers after a value went to its destination
abbrev pub registers_after : Destination → ℤ → Registers → Registers
registers_after (destination.Register slot) value registers = slice_set registers slot value
registers_after (destination.Variable slot) value registers = registers

-- the group's variables after it
abbrev pub variables_after : Destination → ℤ → Variables → Variables
variables_after (destination.Register slot) value variables = variables
variables_after (destination.Variable slot) value variables = slice_set variables slot value

-- where a script stands after a step, behind which comes this place; an effect goes where `give` puts it
abbrev pub after_step : {S : Type 0} → (Effect → S → S) → ℕ → Step → ScriptState S → ScriptState S
after_step give place (step.Store destination value) state =
    record state {
      registers = registers_after destination value state.registers;
      variables = variables_after destination value state.variables;
    }
after_step give place (step.Skip count) state = state
after_step give place (step.Give effect) state = record state { given = give effect state.given }
after_step give place (step.Answer value) state = record state { reply_or_decision = Some value }
after_step give place (step.Wait ticks) state = record state { stop = stop.Wait ticks place }
after_step give place step.Yield state = record state { stop = stop.Yield place }
after_step give place (step.Ended event value) state = record state { stop = stop.Ended event value }

-- where a script stands after the instructions that are left, the first of which has this place, and of which the first
-- `over` are passed over
abbrev pub follow : {S : Type 0} → (Effect → S → S) → CallInput → Script → ℕ → ℕ → ScriptState S → ScriptState S
follow give input [] place over state = state
follow give input (instruction ∷ rest) place (suc over) state = follow give input rest (suc place) over state
follow give input (instruction ∷ rest) place zero state =
    let step = step_of instruction state.registers state.variables input in
    follow give input rest (suc place) (skipped_by step (length rest)) (after_step give (suc place) step state)

-- a script goes on at a place, from registers, its group's variables, a reply or decision, and what its effects made of
-- where they went; where nothing stops it, it falls off its end
abbrev pub resumed : {S : Type 0} → (Effect → S → S) → Script → ℕ → Registers → Variables → Option ℤ → CallInput → S → ScriptState S
resumed give script place registers variables answer input given =
    follow give input (drop place script) place 0
    (record { registers = registers; variables = variables; reply_or_decision = answer; given = given; stop = stop.End })

-- a call of a script: from its top, with registers of 0, and no reply or decision
abbrev pub called : {S : Type 0} → (Effect → S → S) → Script → Variables → CallInput → S → ScriptState S
called give script variables input given = resumed give script 0 zeros variables None input given

-- effects in the order in which they come
abbrev pub listed : Effect → List Effect → List Effect
listed effect effects = effects ++ effect ∷ []

-- a call of a script whose effects are listed
abbrev pub call_of : Script → Variables → CallInput → ScriptState (List Effect)
call_of script variables input = called listed script variables input []

-- a goal handler's decision by the number that it decides, if it does: any other number or none rejects
abbrev pub goal_decided : Option ℤ → Decision
goal_decided None = decision.Reject
goal_decided (Some number) =
    if int_eq number (pos (decision_number decision.Execute)) then decision.Execute
    else if int_eq number (pos (decision_number decision.Defer)) then decision.Defer
    else decision.Reject

-- a cancel handler's decision by the number that it decides, if it does: any other number or none rejects
abbrev pub cancel_decided : Option ℤ → CancelDecision
cancel_decided None = cancel_decision.Reject
cancel_decided (Some number) = if int_eq number (pos (cancel_decision_number cancel_decision.Accept)) then cancel_decision.Accept else cancel_decision.Reject

-- what closes a call of a script for this kind of callback, by its reply or the number that it decides; no reply is 0
abbrev pub close_of : Role → Option ℤ → Close
close_of role.Callback answer = close.Nothing
close_of role.Service answer = close.Reply (unwrap_or answer (pos 0))
close_of role.GoalHandler answer = close.Decide (goal_decided answer)
close_of role.CancelHandler answer = close.DecideCancel (cancel_decided answer)
close_of role.Goal answer = close.Nothing

-- what a call of a script leaves in a role: the group's variables, its effects behind those that were listed before, and what
-- closes it
pub record HasCalled (script : Script) (role : Role) (input : CallInput) (before after : Variables) (front given : List Effect) (closes : Close) : Type 0 where
  pub variables : after ≡ (call_of script before input).variables
  pub effects : given ≡ front ++ (call_of script before input).given
  pub close : closes ≡ close_of role (call_of script before input).reply_or_decision
