use Rattle.std.proofs.Common.{◌-◌}
use Rattle.exec_pool.proofs.jobs.+list_jobs.Given as goal

-- how many numbers the share has
abbrev pub decreases-list_jobs : goal.decreases-list_jobs
decreases-list_jobs l = l.runner.pass.view.stop - l.runner.pass.view.start
