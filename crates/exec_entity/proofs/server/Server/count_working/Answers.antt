use Rattle.std.proofs.Common.{ap, ◌∙◌, sym}
use Rattle.exec_goal.specs.Table.{working}
use Rattle.exec_entity.proofs.Awake.{none-awake}
use Rattle.exec_entity.proofs.Joined.{goals-now}
use Rattle.exec_entity.proofs.server.Server.count_working.Goals as goal

pub returns-clause-working : goal.returns-clause-working
returns-clause-working c = c.count_working.ensures ∙ ap working (goals-now c.self.invariant.0 c.self.view_is)

pub returns-clause-idle : goal.returns-clause-idle
returns-clause-idle c = λ none moment. none-awake moment c.args.self.now.held (sym (ap working (goals-now c.self.invariant.0 c.self.view_is)) ∙ sym c.count_working.ensures ∙ none)
