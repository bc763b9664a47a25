use Rattle.std.proofs.Common.{◌∙◌, Some}
use Rattle.exec_goal.proofs.Looping.{any-first}
use Rattle.exec_goal.specs.Table.{is_expired}
use Rattle.exec_goal.proofs.goals.Goals.has_expired.Goals as goal

pub returns-clause-found : goal.returns-clause-found
returns-clause-found c = c.is_some.ensures ∙ any-first (is_expired c.args.moment (Some c.args.timeout)) c.args.self.now c.next_expired.result c.next_expired.ensures.found c.next_expired.ensures.none
