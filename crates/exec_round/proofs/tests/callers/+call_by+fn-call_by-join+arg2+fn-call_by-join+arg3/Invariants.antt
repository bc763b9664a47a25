use Rattle.std.proofs.Common.{◌-◌}
use Rattle.exec_round.proofs.tests.callers.+call_by+fn-call_by-join+arg2+fn-call_by-join+arg3.Given as goal

-- how many numbers the share has
abbrev pub decreases-call_by : goal.decreases-call_by
decreases-call_by g l = l.pass.view.stop - l.pass.view.start

abbrev pub decreases-join+arg2 : goal.decreases-join+arg2
decreases-join+arg2 g l = l.front.view.stop - l.front.view.start

abbrev pub decreases-join+arg3 : goal.decreases-join+arg3
decreases-join+arg3 g l = l.back.view.stop - l.back.view.start
