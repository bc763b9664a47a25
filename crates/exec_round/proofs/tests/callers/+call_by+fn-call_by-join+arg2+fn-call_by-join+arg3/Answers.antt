use denote.Param.Send.{sendable}
use Rattle.std.proofs.Crossing.{crosses}
use Rattle.exec_board.proofs.Crossing.{Board-sync, Pass-send}
use Rattle.exec_round.proofs.tests.callers.+call_by+fn-call_by-join+arg2+fn-call_by-join+arg3.Goals as goal

pub join-first-requires-send-F : goal.join-first-requires-send-F
join-first-requires-send-F g c κs = search (sendable, crosses, Pass-send, Board-sync) depth 20

pub join-first-requires-send-A : goal.join-first-requires-send-A
join-first-requires-send-A g c κs = search (sendable, crosses, Pass-send) depth 20
