use Rattle.std.proofs.Common.{ap, ◌∙◌}
use Rattle.std.specs.Option.{option_copied}
use Rattle.exec_rules.specs.Run.{apart, brought_home}
use Rattle.exec_rules.specs.declared.ready.Ready.{Ready}
use Rattle.exec_world.proofs.Polled.{on_ok_both, poll_home}
use Rattle.exec_world.proofs.state.callback.RunnableCallback.run_apart.Goals as goal

pub returns-in-Woke-clause-home : goal.returns-in-Woke-clause-home
returns-in-Woke-clause-home g c =
    let world = c.args.state.now in
    let one : Ready = record c.self.inside.one.now { script = option_copied c.self.inside.script } in
    on_ok_both c.poll.result
    (λ variables task. poll_home one c.in-Woke.id c.in-Woke.value c.in-Woke.canceling _ world c.poll.new.self c.lend-bank.result.now c.poll.new.bank c.state.view_is c.in-Woke.is c.lend-bank.ensures.value variables task
    ∙ ap (λ (one : Ready). brought_home one (apart one world) world) c.self.view_is)
    c.poll.ensures.variables c.poll.ensures.task
