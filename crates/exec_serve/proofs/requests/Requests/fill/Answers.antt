use Rattle.std.proofs.Common.{◌∙◌}
use Rattle.exec_serve.proofs.Bytes.{Consumes-more}
use Rattle.exec_serve.proofs.requests.Requests.fill.Goals as goal

pub loop-filled-preserved : goal.loop-filled-preserved
loop-filled-preserved g c = record {
  same_length = c.read.ensures.same_length ∙ c.loop-filled.invariant.same_length;
  within = c.in_ok-count.ensures.fits;
  taken = Consumes-more _ _ _ c.loop-filled.buffer c.read.new.buffer c.loop-filled.filled c.in_ok-count.count c.in_ok-count.ensures.front c.loop-filled.invariant.taken c.in_ok-count.ensures.taken;
}
