use Rattle.std.proofs.Common.{subst}
use Rattle.std.specs.List.{Contains}
use Rattle.std.proofs.lemmas.List.Filters.{dedup_is}
use Rattle.std.proofs.lemmas.List.Kept.{Contains-dedup_nat, Contains-from_dedup}
use Rattle.std.proofs.lemmas.List.Sorted.{Contains-permutation, IsPermutation-sym}
use Rattle.std.proofs.lemmas.Map.Keys.{IsStrictlyIncreasing-dedup}
use Rattle.exec_queue.proofs.queue.filled.sort_places.Goals as goal

pub returns-clause-rises : goal.returns-clause-rises
returns-clause-rises c = rw (dedup_is _ _ _ c.dedup.ensures.filtered) (IsStrictlyIncreasing-dedup _ c.sort.ensures.sorted)

pub returns-clause-keeps : goal.returns-clause-keeps
returns-clause-keeps c = λ place is. rw (dedup_is _ _ _ c.dedup.ensures.filtered) (Contains-dedup_nat _ place (Contains-permutation _ _ place c.sort.ensures.permutation is))

pub returns-clause-only : goal.returns-clause-only
returns-clause-only c = λ place is.
    Contains-permutation _ _ place (IsPermutation-sym _ _ c.sort.ensures.permutation)
    (Contains-from_dedup _ _ place (subst (λ places. Contains places place) (dedup_is _ _ _ c.dedup.ensures.filtered) is))
