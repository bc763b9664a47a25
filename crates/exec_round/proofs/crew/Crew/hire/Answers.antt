use denote.Param.Send.{sendable}
use Rattle.std.proofs.Crossing.{crosses}
use Rattle.exec_pool.proofs.Crossing.{Worker-send}
use Rattle.exec_round.proofs.crew.Crew.hire.Goals as goal

pub spawn-requires-send-F : goal.spawn-requires-send-F
spawn-requires-send-F g c κs within = search (sendable, crosses, Worker-send) depth 24
