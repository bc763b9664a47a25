-- What a worker is to do, and what comes of it.
use Rattle.std.specs.Prelude.{◌≡◌, OnOk}
use Rattle.std.specs.Arc.{arc_value}
use Rattle.exec_pool.specs.declared.job.Job.{Job}
use Rattle.exec_stream.specs.Sending.{queue_id}
use Rattle.exec_stream.specs.Streams.{HasSentAll, IsRunnerAt, KeepsShare}

-- the runner of a job is at the job's round, and has sent on all that it ran, unless it was refused memory
pub record MayRun (job : Job) : Type 0 where
  pub at : IsRunnerAt (arc_value job.stream).board (queue_id (arc_value job.stream).queue) job.runner
  pub sent : OnOk job.ended (HasSentAll job.runner)

-- a job as it was and as it came out: it is of the same round, and its runner kept its share of the passes and its parts of the
-- queue
pub record IsRunOf (first job : Job) : Type 0 where
  pub may : MayRun job
  pub stream : arc_value job.stream ≡ arc_value first.stream
  pub share : KeepsShare first.runner job.runner
