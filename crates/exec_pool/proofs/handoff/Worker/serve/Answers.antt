use Rattle.std.proofs.Common.{refl}
use Rattle.exec_pool.proofs.handoff.Worker.serve.Goals as goal

pub run-requires-after_bounds : goal.run-requires-after_bounds
run-requires-after_bounds g c κs within = c.in-Job.ensures.may c.in-Job.job refl
