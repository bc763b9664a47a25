-- A call of a script whose effects go behind others.
use Rattle.std.proofs.Common.{◌≡◌, ℤ, List, ◌++◌, Option, sym, ap, ◌∙◌}
use Rattle.exec_script.specs.Instruction.{Script}
use Rattle.exec_script.proofs.Lasting.{called_after}
use Rattle.exec_script.specs.Script.{CallInput, ScriptState, call_of, called, listed, Variables}
use Rattle.exec_script.specs.declared.effects.Effect.{Effect}

module _ (script named : Script) (input handed : CallInput) (variables : Variables) (effects : List Effect) (s : script ≡ named) (i : input ≡ handed) where
  behind : called listed named variables handed effects ≡ record (call_of script variables input) { given = effects ++ (call_of script variables input).given }
  behind =
      ap (λ (one : Script). called listed one variables handed effects) (sym s)
      ∙ ap (λ (one : CallInput). called listed script variables one effects) (sym i)
      ∙ called_after script variables input effects

  pub variables_behind : (after : Variables) → after ≡ (call_of script variables input).variables → after ≡ (called listed named variables handed effects).variables
  variables_behind after is = is ∙ sym (ap (λ (state : ScriptState (List Effect)). state.variables) behind)

  pub effects_behind : (after : List Effect) → after ≡ effects ++ (call_of script variables input).given → after ≡ (called listed named variables handed effects).given
  effects_behind after is = is ∙ sym (ap (λ (state : ScriptState (List Effect)). state.given) behind)

  pub answer_behind : {A : Type 0} (closed : Option ℤ → A) (after : A) → after ≡ closed (call_of script variables input).reply_or_decision → after ≡ closed (called listed named variables handed effects).reply_or_decision
  answer_behind closed after is = is ∙ sym (ap (λ (state : ScriptState (List Effect)). closed state.reply_or_decision) behind)
