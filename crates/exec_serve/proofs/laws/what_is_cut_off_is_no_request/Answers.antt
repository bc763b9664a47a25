use Rattle.exec_serve.proofs.Framing.{no_request}
use Rattle.exec_serve.proofs.laws.what_is_cut_off_is_no_request.Goals as goal

pub returns : goal.returns
returns c = no_request
