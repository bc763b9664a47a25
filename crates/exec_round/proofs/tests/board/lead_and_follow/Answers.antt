use denote.Param.Send.{sendable}
use Rattle.std.proofs.Crossing.{crosses}
use Rattle.exec_board.proofs.Crossing.{Board-sync, Pass-send}
use Rattle.exec_round.proofs.tests.board.lead_and_follow.Goals as goal

pub join-led-requires-send-F : goal.join-led-requires-send-F
join-led-requires-send-F g c κs within = search (sendable, crosses, Pass-send, Board-sync) depth 20

pub join-led-requires-send-A : goal.join-led-requires-send-A
join-led-requires-send-A g c κs within = search (sendable, crosses, Pass-send) depth 20
