use denote.Param.Send.{sendable}
use Rattle.std.proofs.Crossing.{crosses}
use Rattle.exec_board.proofs.Crossing.{Board-sync, Pass-send}
use Rattle.exec_round.proofs.claiming.+fn-sweep_by-join+arg2+fn-sweep_by-join+arg3+sweep_by.Goals as goal

pub join-front-requires-send-F : goal.join-front-requires-send-F
join-front-requires-send-F g c κs = search (sendable, crosses, Pass-send, Board-sync) depth 20

pub join-front-requires-send-A : goal.join-front-requires-send-A
join-front-requires-send-A g c κs = search (sendable, crosses, Pass-send) depth 20
