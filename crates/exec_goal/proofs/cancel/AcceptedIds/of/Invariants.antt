use Rattle.std.proofs.Common.{◌≡◌, ℕ, take}
use Rattle.exec_goal.specs.inner.Ids.{is_among}
use Rattle.exec_goal.specs.Cancel.{is_accepted_for}
use Rattle.exec_goal.proofs.cancel.AcceptedIds.of.Given as goal

abbrev pub invariant-loop-decided : goal.invariant-loop-decided
invariant-loop-decided l = (id : ℕ) → is_among l.ids.keys id ≡ is_accepted_for (take l.decided-index l.decisions) id
