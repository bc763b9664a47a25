use Rattle.std.proofs.Common.{rules, ◌≡◌, ap, subst, sym, ◌∙◌}
use Rattle.std.proofs.lemmas.Fn.{always_returns_same}
use Rattle.exec_lane.proofs.SpotsFound.{are_there, flat_is, gathered, stay_there}
use Rattle.exec_lane.specs.Gather.{ran_in}
use Rattle.exec_lane.specs.declared.gathering.Spot.{Spot}
use Rattle.exec_lane.specs.inner.Spots.{IsSpotOf, all_spots}
use Rattle.std.specs.List.{AllByRecursion}
use Rattle.exec_lane.proofs.gathering.gather_all.Goals as goal

pub invariant_of-result : goal.invariant_of-result
invariant_of-result g c =
    let listed = c.in_ok-spots.ensures ∙ ap (all_spots 0) c.as_slice.ensures.value in
    stay_there c.in_ok-lanes.lanes.items c.in_ok-spots.spots.items c.sort_unstable_by_key.new.self.items c.sort_unstable_by_key.ensures.permutation
    (subst (AllByRecursion (IsSpotOf c.in_ok-lanes.lanes.items)) (sym listed) (are_there c.in_ok-lanes.lanes.items))

pub returns-clause-gathered : goal.returns-clause-gathered
returns-clause-gathered g c =
    gathered c.in_ok-lanes.lanes.items _ c.in_ok-spots.spots.items c.sort_unstable_by_key.new.self.items
    (flat_is ran_in c.args.lanes.items c.in_ok-lanes.lanes.items c.in_ok-lanes.ensures.ran)
    (c.in_ok-spots.ensures ∙ ap (all_spots 0) c.as_slice.ensures.value)
    c.sort_unstable_by_key.ensures.permutation
    (c.sort_unstable_by_key.ensures.sorted (λ (spot : Spot). spot.position) (always_returns_same _ (λ a r. r ≡ a.0.now.position) _ (λ a r f k. search rules)))
