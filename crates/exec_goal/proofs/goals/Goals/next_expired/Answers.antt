use Rattle.std.proofs.Common.{◌∙◌, sym, subst, List}
use Rattle.std.specs.List.{AllByRecursion}
use Rattle.exec_goal.proofs.Searching.{none-expired}
use Rattle.exec_goal.specs.Table.{GoalRecord}
use Rattle.exec_goal.specs.inner.Tally.{EndsFrom}
use Rattle.exec_goal.proofs.goals.Goals.next_expired.Goals as goal

pub returns-then-not-may_expire-clause-none : goal.returns-then-not-may_expire-clause-none
returns-then-not-may_expire-clause-none c =
    none-expired c.self.inside.tally.first_end c.args.moment c.args.timeout c.args.self.now (sym c.may_expire.ensures ∙ c.if-not-may_expire.true)
    (subst (λ (goals : List GoalRecord). AllByRecursion (EndsFrom c.self.inside.tally.first_end) goals) c.self.view_is c.self.invariant.ends)
