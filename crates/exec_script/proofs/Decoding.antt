-- One more instruction of a script is decoded.
use Rattle.std.proofs.Common.{◌≡◌, ℕ, suc, ◌+◌, ◌<◌, length, get_or, drop, map, add-one, List, [], ◌∷◌, ◌++◌, Result, Ok, Err, refl, sym, ap, ◌∙◌, append_assoc}
use Rattle.std.proofs.Math.Seq.{drop-cons}
use Rattle.exec_script.specs.Spelling.{ScopeNames, ◌>>=◌, instruction_of, script_of}
use Rattle.exec_script.specs.declared.fault.ScriptFault.{ScriptFault}
use Rattle.exec_script.specs.declared.instr.Instr.{Instr}
use Rattle.exec_script.specs.declared.word.Word.{Word}

moved : (front : List Instr) (instruction : Instr) (rest : Result (List Instr) ScriptFault) → ((rest >>= (λ others. Ok (instruction ∷ others))) >>= (λ others. Ok (front ++ others))) ≡ (rest >>= (λ others. Ok ((front ++ instruction ∷ []) ++ others)))
moved front instruction (Ok others) = ap (λ (xs : List Instr). Ok xs) (sym (append_assoc front (instruction ∷ []) others))
moved front instruction (Err fault) = refl

one_decoded : (scope : ScopeNames) (front : List Instr) (words : List Word) (others : List (List Word)) (instruction : Instr) → instruction_of scope words ≡ Ok instruction → (script_of scope (words ∷ others) >>= (λ rest. Ok (front ++ rest))) ≡ (script_of scope others >>= (λ rest. Ok ((front ++ instruction ∷ []) ++ rest)))
one_decoded scope front words others instruction h = rw h (moved front instruction (script_of scope others))

-- what is decoded so far gains the instruction at the next place
pub next_decoded : {X : Type 0} (scope : ScopeNames) (words_of : X → List Word) (spelled : List X) (i : ℕ) (words : X) (front : List Instr) (instruction : Instr) → i < length spelled → words ≡ get_or spelled i words → instruction_of scope (words_of words) ≡ Ok instruction → (script_of scope (map words_of (drop i spelled)) >>= (λ rest. Ok (front ++ rest))) ≡ (script_of scope (map words_of (drop (i + 1) spelled)) >>= (λ rest. Ok ((front ++ instruction ∷ []) ++ rest)))
next_decoded {X} scope words_of spelled i words front instruction within there h =
    let first : drop i spelled ≡ words ∷ drop (i + 1) spelled =
    drop-cons spelled i words within ∙ ap (λ (x : X). x ∷ drop (suc i) spelled) (sym there) ∙ ap (λ (n : ℕ). words ∷ drop n spelled) (sym (add-one i)) in
    rw first (one_decoded scope front (words_of words) (map words_of (drop (i + 1) spelled)) instruction h)
