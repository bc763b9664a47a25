use Rattle.std.proofs.Common.{arith, rules}
use Rattle.std.proofs.lemmas.Nat.{be_bytes_8}
use Rattle.exec_serve.specs.Serving.{number_bytes}
use Rattle.exec_serve.proofs.requests.number.Goals as goal

pub returns : goal.returns
unfolding number_bytes
returns c = be_bytes_8 c.args.bytes.now c.from_be_bytes.result (search rules) (λ i. omega (arith, c.fits-bytes i)) c.from_be_bytes.ensures
