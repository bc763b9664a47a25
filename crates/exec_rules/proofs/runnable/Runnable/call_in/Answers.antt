use Rattle.std.proofs.Common.{◌∙◌, ap}
use Rattle.std.proofs.lemmas.Result.{on_ok_weaker}
use Rattle.exec_script.specs.Script.{close_of}
use Rattle.exec_rules.proofs.Calling.{variables_behind, effects_behind, answer_behind}
use Rattle.exec_rules.specs.Callback.{instructions_of}
use Rattle.exec_rules.specs.Ready.{input_of}
use Rattle.exec_rules.proofs.runnable.Runnable.call_in.Goals as goal

pub returns-clause-variables : goal.returns-clause-variables
returns-clause-variables c =
    on_ok_weaker c.run_call_closing.result (λ ran. variables_behind c.instructions.result.now (instructions_of c.args.self.now.script) c.self.inside.input (input_of c.args.self.now) c.args.bank.now c.args.effects.now
    c.instructions.ensures (c.self.invariant ∙ ap input_of c.self.view_is) c.run_call_closing.new.bank ran.variables) c.run_call_closing.ensures.called

pub returns-clause-effects : goal.returns-clause-effects
returns-clause-effects c =
    on_ok_weaker c.run_call_closing.result (λ ran. effects_behind c.instructions.result.now (instructions_of c.args.self.now.script) c.self.inside.input (input_of c.args.self.now) c.args.bank.now c.args.effects.now
    c.instructions.ensures (c.self.invariant ∙ ap input_of c.self.view_is) c.run_call_closing.new.effects ran.effects) c.run_call_closing.ensures.called

pub returns-clause-close : goal.returns-clause-close
returns-clause-close c =
    on_ok_weaker c.run_call_closing.result (λ ran. answer_behind c.instructions.result.now (instructions_of c.args.self.now.script) c.self.inside.input (input_of c.args.self.now) c.args.bank.now c.args.effects.now
    c.instructions.ensures (c.self.invariant ∙ ap input_of c.self.view_is) (close_of c.args.role) c.run_call_closing.new.close ran.close) c.run_call_closing.ensures.called
