use Rattle.exec_goal.proofs.Entries.{ids_decide, distinct_ids}
use Rattle.exec_goal.proofs.goals.Goals.len.Goals as goal

pub returns-clause-distinct : goal.returns-clause-distinct
returns-clause-distinct c = rw (← c.self.view_is) (distinct_ids _ (λ a b. ids_decide a b) c.self.inside.held.entries c.len.ensures.unique)
