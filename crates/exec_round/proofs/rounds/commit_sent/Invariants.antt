use Rattle.std.proofs.Common.{◌≡◌, ◌+◌, ◌≤◌, drop, length}
use Rattle.exec_round.specs.inner.Commits.{after_commits}
use Rattle.exec_round.proofs.rounds.commit_sent.Given as goal

-- what is left to commit, from here, is all, from the start
abbrev pub invariant-loop-index : goal.invariant-loop-index
invariant-loop-index g l = (after_commits (drop l.index l.fn.all) l.world ≡ after_commits l.fn.all l.fn.world) × (length l.fn.all ≤ l.world.uncommitted + l.index)
