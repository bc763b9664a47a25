use Rattle.std.proofs.Common.{◌≡◌, ◌+◌, ℕ, List, ◌∷◌, ◌++◌, length, take, sym, ap, ◌∙◌, arith}
use Rattle.std.proofs.lemmas.List.{append-nil}
use Rattle.exec_msg.specs.Line.{kind_text}
use Rattle.exec_msg.proofs.Places.{front_written}
use Rattle.exec_msg.proofs.place.place_kind.Goals as goal

pub returns-clause-text : goal.returns-clause-text
returns-clause-text c =
    let count : ℕ = 1 + length (kind_text c.args.kind) in
    let end : c.args.at + 1 + length c.word.result.now ≡ c.args.at + count = omega (arith, ap length c.word.ensures.word) in
    ap (λ (n : ℕ). take n c.place_front.new.bytes) end
    ∙ front_written c.args.bytes.now c.place_front.new.bytes c.kind_field.result.now c.args.at 16 count c.place_front.result
    (omega arith) (omega (arith, c.kind_field.ensures.within.0)) c.place_front.ensures.end c.place_front.ensures.text
    ∙ ap (λ (field : List ℕ). take c.args.at c.args.bytes.now ++ field) (c.kind_field.ensures.field ∙ ap (λ (word : List ℕ). 32 ∷ word) (sym (append-nil (kind_text c.args.kind))))
