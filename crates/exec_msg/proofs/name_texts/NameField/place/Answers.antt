use Rattle.std.proofs.Common.{rules, ◌≡◌, ℕ, List, ◌∷◌, ◌++◌, take, sym, ap, ◌∙◌, arith}
use Rattle.std.proofs.lemmas.List.{append-nil}
use Rattle.exec_msg.proofs.Places.{front_written}
use Rattle.exec_msg.proofs.name_texts.NameField.place.Goals as goal

pub returns-clause-text : goal.returns-clause-text
returns-clause-text c =
    let name : List ℕ = c.args.self.now in
    let kept : take c.self.inside.length c.self.inside.text ≡ 32 ∷ name = search rules in
    front_written c.args.bytes.now c.place_pair.new.bytes c.self.inside.text c.args.at 48 c.self.inside.length c.place_pair.result (omega (arith, c.requires)) (omega (arith, c.self.invariant.1)) (omega (arith, c.place_pair.ensures.end))
    c.place_pair.ensures.text
    ∙ ap (λ (field : List ℕ). take c.args.at c.args.bytes.now ++ field) (kept ∙ ap (λ (text : List ℕ). 32 ∷ text) (sym (append-nil name)))
