use Rattle.std.proofs.Common.{ap, not, refl}
use Rattle.exec_goal.proofs.goals.expiring.fn.keep_unexpired.retain.Goals as goal

pub returns : goal.returns
returns c = (ap not (c.is_expired.ensures c.args.id.now), refl)
