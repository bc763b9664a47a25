use Rattle.std.proofs.Common.{◌≡◌, ◌<◌, false, length}
use Rattle.exec_board.specs.Seats.{IsLast}
use Rattle.exec_board.specs.Sweeps.{FirstSeen}
use Rattle.exec_stream.specs.Sending.{queue_id}
use Rattle.exec_stream.specs.Streams.{HasSentAll, IsRunnerAt, KeepsShare}
use Rattle.exec_stream.proofs.streaming.Runner.visit_all.Given as goal

-- the visit to each lane has come so far
abbrev pub invariant-loop-lane : goal.invariant-loop-lane
invariant-loop-lane g l = record {
  at : IsRunnerAt l.stream.board (queue_id l.stream.queue) l.self;
  share : KeepsShare l.fn.self l.self;
  sent : HasSentAll l.self;
  sized : 0 < l.lane → length l.fn.self.pass.view.opening ≡ l.stream.board.words;
  seen : l.claimed ≡ false → IsLast l.fn.self.pass.view → FirstSeen l.lane l.self.pass.view;
}
