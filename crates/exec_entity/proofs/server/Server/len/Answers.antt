use Rattle.std.proofs.Common.{◌∙◌}
use Rattle.exec_entity.proofs.Joined.{length-now}
use Rattle.exec_entity.proofs.server.Server.len.Goals as goal

pub returns : goal.returns
returns c = c.len.ensures.count ∙ length-now c.self.invariant.0 c.self.view_is
