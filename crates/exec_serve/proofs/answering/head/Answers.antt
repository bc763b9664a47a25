use Rattle.std.proofs.Common.{refl}
use Rattle.exec_serve.specs.Serving.{number_bytes}
use Rattle.exec_serve.proofs.answering.head.Goals as goal

pub returns : goal.returns
unfolding number_bytes
returns c = rw c.to_be_bytes.ensures refl
