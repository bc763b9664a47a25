use Rattle.std.proofs.Common.{w64}
use Rattle.std.proofs.lemmas.Int.{to_z-of_z}
use Rattle.exec_script.proofs.Frames.{written_is}
use Rattle.exec_script.proofs.frame.Frame.write.Goals as goal

pub returns : goal.returns
returns c = rw (to_z-of_z w64 c.args.value c.ranges.value, ← c.self.view_is, ← c.target.view_is) (written_is c.self.inside.values c.target.inside.0 c.args.value c.target.invariant)
