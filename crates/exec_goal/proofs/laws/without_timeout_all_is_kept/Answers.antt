use Rattle.exec_goal.proofs.Filtering.{filter-never, filter-always}
use Rattle.exec_goal.proofs.laws.without_timeout_all_is_kept.Goals as goal

pub returns : goal.returns
returns c = record { forgotten = λ moment goals. filter-never goals; kept = λ moment goals. filter-always goals }
