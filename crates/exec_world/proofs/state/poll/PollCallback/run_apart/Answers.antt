use Rattle.std.proofs.Common.{refl}
use Rattle.exec_rules.specs.inner.Awake.{poll_at}
use Rattle.exec_world.proofs.Polled.{on_ok_both, poll_home}
use Rattle.exec_world.proofs.state.poll.PollCallback.run_apart.Goals as goal

pub returns-clause-home : goal.returns-clause-home
returns-clause-home g c =
    let goal = c.args.self.now.goal.now in
    on_ok_both c.poll.result
    (λ variables task. poll_home (poll_at c.args.self.now.moment goal) goal.id goal.value goal.canceling _ c.args.state.now c.poll.new.self c.lend-bank.result.now c.poll.new.bank c.state.view_is refl c.lend-bank.ensures.value variables task)
    c.poll.ensures.variables c.poll.ensures.task
