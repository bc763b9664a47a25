-- Each document that was taken is answered.
use Rattle.exec_serve.specs.inner.Served.{HasServedSo}
use Rattle.exec_serve.proofs.serving.answer_each.Given as goal

abbrev pub invariant-loop : goal.invariant-loop
invariant-loop g l = record {
  next : (goal.iterator-loop g).can_next l.iterator';
  finite : (goal.iterator-loop g).is_finite l.iterator';
  so : HasServedSo l.fn.input.remaining l.input.remaining l.fn.output.sink.contents l.output.sink.contents l.output.flushed;
}
