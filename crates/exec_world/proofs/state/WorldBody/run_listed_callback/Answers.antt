use Rattle.std.proofs.Common.{ap, ◌∙◌}
use Rattle.std.proofs.lemmas.Result.{on_ok_weaker}
use Rattle.exec_rules.specs.Run.{run}
use Rattle.exec_rules.specs.declared.ready.Ready.{Ready}
use Rattle.exec_world.proofs.state.WorldBody.run_listed_callback.Goals as goal

pub returns-in_default : goal.returns-in_default
returns-in_default g c =
    on_ok_weaker c.run_as-in_default.result
    (λ ran.
    ran
    ∙ ap (λ (one : Ready). run one c.args.self.now) c.handed.ensures
    ∙ ap (λ (script : _). run (record c.args.listed.now.ready { script = script }) c.args.self.now) c.script_of-script.ensures)
    c.run_as-in_default.ensures
