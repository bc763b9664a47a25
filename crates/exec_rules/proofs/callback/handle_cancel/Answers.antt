use Rattle.std.proofs.Common.{ap, ◌∙◌}
use Rattle.exec_rules.proofs.Calling.{variables_behind, effects_behind, answer_behind}
use Rattle.exec_rules.specs.Callback.{candidate_input, instructions_of}
use Rattle.exec_rules.specs.inner.Handling.{cancel_decision_in}
use Rattle.exec_script.specs.Script.{cancel_decided}
use Rattle.exec_rules.specs.declared.ready.Ready.{Ready}
use Rattle.exec_rules.proofs.callback.handle_cancel.Goals as goal

pub returns-clause-variables : goal.returns-clause-variables
returns-clause-variables c =
    variables_behind c.instructions.result.now (instructions_of c.args.runnable.now.script) c.candidate_input-input.result (candidate_input c.args.runnable.now.moment c.args.candidate.now) c.args.bank.now c.args.effects.now
    c.instructions.ensures (c.candidate_input-input.ensures ∙ ap (λ (one : Ready). candidate_input one.moment c.args.candidate.now) c.runnable.view_is) c.run_call_into.new.bank c.in_ok-close.ensures.called.variables

pub returns-clause-effects : goal.returns-clause-effects
returns-clause-effects c =
    effects_behind c.instructions.result.now (instructions_of c.args.runnable.now.script) c.candidate_input-input.result (candidate_input c.args.runnable.now.moment c.args.candidate.now) c.args.bank.now c.args.effects.now
    c.instructions.ensures (c.candidate_input-input.ensures ∙ ap (λ (one : Ready). candidate_input one.moment c.args.candidate.now) c.runnable.view_is) c.run_call_into.new.effects c.in_ok-close.ensures.called.effects

pub returns-clause-decision : goal.returns-clause-decision
returns-clause-decision c =
    answer_behind c.instructions.result.now (instructions_of c.args.runnable.now.script) c.candidate_input-input.result (candidate_input c.args.runnable.now.moment c.args.candidate.now) c.args.bank.now c.args.effects.now
    c.instructions.ensures (c.candidate_input-input.ensures ∙ ap (λ (one : Ready). candidate_input one.moment c.args.candidate.now) c.runnable.view_is) cancel_decided c.cancel_decision_in.result (c.cancel_decision_in.ensures ∙ ap cancel_decision_in c.in_ok-close.ensures.called.close)
