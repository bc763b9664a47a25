use Rattle.std.proofs.Common.{◌≡◌, ◌<◌, ℕ, false, Some, get_or}
use Rattle.exec_goal.specs.Table.{GoalRecord, is_expired}
use Rattle.exec_goal.specs.inner.Tally.{EndsFrom}
use Rattle.exec_goal.proofs.goals.Goals.first_expired.Given as goal

-- none so far has expired, and none has ended before the first end that is known
abbrev pub invariant-loop-index : goal.invariant-loop-index
invariant-loop-index l = record {
  expired : (k : ℕ) (d : GoalRecord) → k < l.index → is_expired l.moment (Some l.timeout) (get_or l.self k d) ≡ false;
  ends : (k : ℕ) (d : GoalRecord) → k < l.index → EndsFrom l.first (get_or l.self k d);
}
