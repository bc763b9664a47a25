use Rattle.std.specs.Prelude.{vec_len}
use Rattle.exec_pool.proofs.jobs.+run_jobs.Given as goal

-- how many jobs are left
abbrev pub decreases-run_jobs : goal.decreases-run_jobs
decreases-run_jobs g l = vec_len l.jobs
