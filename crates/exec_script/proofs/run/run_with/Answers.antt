use Rattle.std.proofs.Common.{List, refl, ap, ◌∙◌, rules}
use Rattle.exec_script.specs.Script.{ScriptState, close_of}
use Rattle.exec_script.specs.Zeros.{zeros}
use Rattle.exec_script.specs.declared.effects.Effect.{Effect}
use Rattle.exec_script.proofs.Lasting.{call_ends}
use Rattle.exec_script.proofs.run.run_with.Goals as goal

pub returns : goal.returns
returns g c =
    let ends = call_ends c.args.script.now zeros c.args.bank.now c.args.input.now c.begin.new.self c.args.effects.now c.reserve.new.self.items _ refl c.begin.ensures (c.reserve.ensures.items ∙ c.effects.view_is) c.follow.ensures.ends in
    record {
      called = record {
        variables = c.put_bank.ensures ∙ ap (λ (state : ScriptState (List Effect)). state.variables) ends;
        effects = ap (λ (state : ScriptState (List Effect)). state.given) ends;
        close = c.close_of-2.ensures ∙ ap (λ (state : ScriptState (List Effect)). close_of c.args.role state.reply_or_decision) ends;
      };
      memory = search rules;
      unchanged_variables = search rules;
      unchanged_effects = search rules;
    }
