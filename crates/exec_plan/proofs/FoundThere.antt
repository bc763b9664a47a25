-- What is found by two tests passes the first.
use Rattle.std.proofs.Common.{◌≡◌, ℕ, true, false, ◌&&◌, List, Some, slice_get, ap, ◌∙◌, Bool, arith}
use Rattle.std.specs.List.{position_from}
use Rattle.std.specs.Option.{option_map_or}
use Rattle.std.proofs.lemmas.Bool.{and_parts}
use Rattle.exec_plan.specs.Graph.{EntityData}
use Rattle.exec_plan.proofs.Positions.{at_position}

-- the first that passes two tests passes the first of them, and stands there
pub found_there : (test : EntityData → Bool) (also : EntityData → Bool) (entities : List EntityData) (number : ℕ) → position_from (λ entity. test entity && also entity) 0 entities ≡ Some number → option_map_or test (slice_get entities number) false ≡ true
found_there test also entities number found =
    let at = at_position (λ entity. test entity && also entity) 0 entities number found in
    let same : number ≡ at.place = omega (arith, at.counted) in
    let there : slice_get entities number ≡ Some at.element = ap (slice_get entities) same ∙ at.there in
    rw there (and_parts (test at.element) (also at.element) at.passes).0
