use Rattle.std.proofs.Common.{None, subst}
use Rattle.exec_laws.proofs.Ended.{ends_apart}
use Rattle.exec_laws.specs.Goals.{AreLawful}
use Rattle.exec_laws.proofs.goals.goals_have_one_end.Goals as goal

pub returns : goal.returns
returns c = λ plan server id before between behind first second are ended again. ends_apart c.goals_end_once.ensures None before between behind first second (subst (λ some. AreLawful None some) are (c.statuses_follow_the_transitions.ensures plan server id)) ended again
