use Rattle.exec_serve.proofs.Framing.{requests_apart}
use Rattle.exec_serve.proofs.laws.requests_are_read_in_one_way.Goals as goal

pub returns : goal.returns
returns c = requests_apart
