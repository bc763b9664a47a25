-- Words for the laws of scripts.
use Rattle.std.specs.Prelude.{◌≡◌, ◌⊎◌, ℕ, ℤ, List, Option, None, Some}
use Rattle.std.specs.List.{fold}
use Rattle.exec_msg.specs.declared.goal.Event.{Event}
use Rattle.exec_msg.specs.declared.goal.Event.TheVariants as event
use Rattle.exec_script.specs.Script.{ScriptState, CallInput, step_of}
use Rattle.exec_script.specs.declared.effects.Effect.{Effect}
use Rattle.exec_script.specs.Instruction.{Instruction}
use Rattle.exec_script.specs.declared.step.Step.TheVariants as step
use Rattle.exec_script.specs.declared.step.Stop.{Stop}
use Rattle.exec_script.specs.declared.step.Stop.TheVariants as stop

-- the place at which a script that stopped goes on later
abbrev pub goes_on_at : Stop → Option ℕ
goes_on_at (stop.Wait ticks place) = Some place
goes_on_at (stop.Yield place) = Some place
goes_on_at (stop.Ended event value) = None
goes_on_at stop.End = None

-- the event by which a script that stopped ended its goal
abbrev pub ended_by : Stop → Option Event
ended_by (stop.Wait ticks place) = None
ended_by (stop.Yield place) = None
ended_by (stop.Ended event value) = Some event
ended_by stop.End = None

-- one of the three events that end a goal
abbrev pub IsEnding : Event → Type 0
IsEnding by = (by ≡ event.Succeed) ⊎ ((by ≡ event.Abort) ⊎ (by ≡ event.Canceled))

-- an instruction gives this effect from some registers and variables
abbrev pub MayGive : CallInput → Effect → Instruction → Type 0
MayGive input effect instruction = (registers : List ℤ) × (variables : List ℤ) × (step_of instruction registers variables input ≡ step.Give effect)

-- the same but for the group's variables
abbrev pub state_with_variables : {S : Type 0} → List ℤ → ScriptState S → ScriptState S
state_with_variables variables state = record state { variables = variables }

-- effects given one after another
abbrev pub give_each : {S : Type 0} → (Effect → S → S) → List Effect → S → S
give_each give effects given = fold (λ given effect. give effect given) given effects

-- where a script stands that listed its effects, once these are given
abbrev pub given_later : {S : Type 0} → (Effect → S → S) → S → ScriptState (List Effect) → ScriptState S
given_later give given state =
    record {
      registers = state.registers;
      variables = state.variables;
      reply_or_decision = state.reply_or_decision;
      given = give_each give state.given given;
      stop = state.stop;
    }
