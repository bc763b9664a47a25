use Rattle.exec_rules.specs.World.{Handler, goals_in}
use Rattle.exec_world.proofs.fronts.Fronts.list.Goals as goal

pub returns-then-branch : goal.returns-then-branch
returns-then-branch c = c.in_ok-list_plain.ensures.listed c.if-branch.true (λ (handler : Handler). goals_in handler.entity c.args.self.now.servers.now)
