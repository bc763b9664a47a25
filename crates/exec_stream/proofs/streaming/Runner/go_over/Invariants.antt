use Rattle.exec_stream.specs.Sending.{queue_id}
use Rattle.exec_stream.specs.Streams.{HasSentAll, IsRunnerAt, KeepsShare}
use Rattle.exec_stream.proofs.streaming.Runner.go_over.Given as goal

-- it has sent on all that it ran so far
abbrev pub invariant-loop : goal.invariant-loop
invariant-loop g l = record {
  next : (goal.iterator-loop g).can_next l.iterator';
  finite : (goal.iterator-loop g).is_finite l.iterator';
  at : IsRunnerAt l.stream.board (queue_id l.stream.queue) l.self;
  share : KeepsShare l.fn.self l.self;
  sent : HasSentAll l.self;
}
