use Rattle.std.proofs.Common.{rules}
use Rattle.exec_task.proofs.Waking.{both_left}
use Rattle.exec_task.proofs.goal.GoalTask.listen.Goals as goal

pub returns-else-is_aware-clause-wakers : goal.returns-else-is_aware-clause-wakers
returns-else-is_aware-clause-wakers c pends =
    both_left _ c.register.new.cx _ _ c.in-Until.field-0 (search rules) (search rules)
    c.register.ensures.kept c.register-else-is_aware.ensures.kept c.register.ensures.waker c.register-else-is_aware.ensures.waker
