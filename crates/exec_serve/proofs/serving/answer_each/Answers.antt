use Rattle.std.proofs.Common.{rules, ◌≡◌, Bool, Err, subst, sym}
use Rattle.exec_serve.specs.inner.Served.{HasServedSo}
use Rattle.exec_serve.proofs.Served.{one_more, served_until_a_failure}
use Rattle.exec_serve.proofs.serving.answer_each.Goals as goal

pub returns-in_err-answer_next : goal.returns-in_err-answer_next
returns-in_err-answer_next g c =
    let is : c.from_residual.result ≡ Err c.in_err-answer_next.field-0.0 = search rules in
    served_until_a_failure c.args.input.now c.loop.input c.answer_next.new.input c.args.output.now c.loop.output c.answer_next.new.output c.from_residual.result c.in_err-answer_next.field-0.0 is c.loop.invariant.so c.in_err-answer_next.ensures.failed

pub loop-preserved : goal.loop-preserved
loop-preserved g c =
    let one = c.in_ok-answer_next.ensures.one (search rules) in
    let so = one_more c.args.input.now.remaining c.loop.input.remaining c.answer_next.new.input.remaining c.args.output.now.sink.contents c.loop.output.sink.contents c.answer_next.new.output.sink.contents c.loop.output.flushed one.0.0 c.loop.invariant.so one.0.1 one.0.2 one.0.3 in
    record {
      next = tt;
      finite = tt;
      so = subst (λ (flushed : Bool). HasServedSo c.args.input.now.remaining c.answer_next.new.input.remaining c.args.output.now.sink.contents c.answer_next.new.output.sink.contents flushed) (sym one.1) so;
    }
