use Rattle.std.proofs.Common.{◌≡◌}
use Rattle.exec_goal.specs.inner.Ids.{is_among}
use Rattle.exec_goal.specs.Cancel.{after_answer_by}
use Rattle.exec_goal.proofs.Looping.{mapped_upto}
use Rattle.exec_goal.proofs.goals.Goals.cancel.Given as goal

abbrev pub invariant-loop-index : goal.invariant-loop-index
invariant-loop-index l = l.self ≡ mapped_upto (after_answer_by (is_among l.accepted)) l.index l.initial.self
