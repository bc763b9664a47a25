use Rattle.std.proofs.Common.{ℕ, List, ◌++◌, take, ap, ◌∙◌}
use Rattle.exec_msg.proofs.Digits.{second_part, third_part, last_part, id_joined}
use Rattle.exec_msg.proofs.place.id.place_id.Goals as goal

pub returns-clause-text : goal.returns-clause-text
returns-clause-text c =
    let front = c.digits_of.result.0 in
    let back = c.digits_of.result.1 in
    c.place_lanes.ensures.text
    ∙ ap (λ (xs : List ℕ). xs ++ last_part back) (c.place_lanes-end-3.ensures.text
    ∙ ap (λ (xs : List ℕ). xs ++ third_part back) (c.place_lanes-end-2.ensures.text
    ∙ ap (λ (xs : List ℕ). xs ++ second_part front) c.place_lanes-end.ensures.text))
    ∙ id_joined c.args.id (take c.args.at c.args.bytes.now) front back c.digits_of.ensures.front c.digits_of.ensures.back
