use Rattle.exec_stream.specs.Sending.{queue_id}
use Rattle.exec_stream.specs.Streams.{HasSentAll, IsRunnerAt, KeepsShare}
use Rattle.exec_stream.proofs.streaming.Runner.begin.Given as goal

-- it has sent on all that it ran so far
abbrev pub invariant-loop-lane : goal.invariant-loop-lane
invariant-loop-lane g l = record {
  at : IsRunnerAt l.stream.board (queue_id l.stream.queue) l.self;
  share : KeepsShare l.fn.self l.self;
  sent : HasSentAll l.self;
}
