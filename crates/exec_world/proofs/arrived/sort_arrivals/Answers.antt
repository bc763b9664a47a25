use Rattle.std.proofs.Common.{◌≡◌, rules}
use Rattle.std.proofs.lemmas.Fn.{always_returns_same}
use Rattle.std.proofs.lemmas.List.Sorted.{IsNonDecreasingBy-from_sort_by_key}
use Rattle.exec_rules.proofs.Stable.{sorted_as}
use Rattle.exec_world.specs.declared.arrived.Arrived.{Arrived}
use Rattle.exec_world.proofs.arrived.sort_arrivals.Goals as goal

pub returns : goal.returns
returns c =
    sorted_as (λ (one : Arrived). one.number) c.args.arrivals.now.items c.sort_by_key.new.self.items
    (IsNonDecreasingBy-from_sort_by_key (λ (one : Arrived). one.number) _ c.in_ok-sort_by_key.ensures.sorted (λ a r q k. search rules))
    (c.in_ok-sort_by_key.ensures.stable (λ (one : Arrived). one.number) (always_returns_same _ (λ a r. r ≡ a.0.now.number) _ (λ a r f k. search rules)))
