use Rattle.exec_task.proofs.Waking.{left_waker}
use Rattle.exec_task.proofs.wake.WakeSource.register.Goals as goal

pub returns-clause-waker : goal.returns-clause-waker
returns-clause-waker g c =
    left_waker c.args.cx.now c.register.new.self c.register.new.slot c.self.inside.source.id c.register.ensures.kept c.register.ensures.left
