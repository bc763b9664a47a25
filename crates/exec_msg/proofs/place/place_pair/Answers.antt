use Rattle.std.proofs.Common.{ℕ, List, ◌++◌, take, drop, sym, ap, ◌∙◌, append_assoc, take-add}
use Rattle.std.proofs.lemmas.List.{take_rest}
use Rattle.exec_msg.proofs.place.place_pair.Goals as goal

pub returns-clause-text : goal.returns-clause-text
returns-clause-text g c =
    let text = c.args.text.now in
    let front : List ℕ = take c.args.at c.args.bytes.now in
    (rw (take_rest text g.row.N) at c.place_front.ensures.text)
    ∙ ap (λ (xs : List ℕ). xs ++ take g.row.M (drop g.row.N text)) c.place_front-end.ensures.text
    ∙ append_assoc front (take g.row.N text) (take g.row.M (drop g.row.N text))
    ∙ ap (λ (xs : List ℕ). front ++ xs) (sym (take-add g.row.N g.row.M text))
