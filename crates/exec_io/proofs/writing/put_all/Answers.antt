use Rattle.std.proofs.Common.{◌∙◌, arith}
use Rattle.std.proofs.lemmas.List.{take_rest}
use Rattle.exec_io.proofs.KnownBytes.{Appends-more}
use Rattle.exec_io.proofs.writing.put_all.Goals as goal

pub loop-written-preserved : goal.loop-written-preserved
loop-written-preserved g c = record {
  within = omega (arith, c.in_ok-written.ensures.bound);
  sound = c.in_ok-written.ensures.sound ∙ c.loop-written.invariant.sound;
  front = Appends-more _ _ _ c.args.text.now c.loop-written.written c.in_ok-written.field-0 c.loop-written.invariant.front (rw take_rest at c.in_ok-written.ensures.bytes);
}
