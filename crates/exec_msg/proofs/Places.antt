-- Bytes up to the end of what was written at a place.
use Rattle.std.proofs.Common.{◌≡◌, ℕ, ◌+◌, ◌-◌, ◌/◌, ◌%◌, ◌^◌, ◌<◌, ◌≤◌, List, [], ◌∷◌, ◌++◌, length, take, drop, refl, sym, ap, ◌∙◌, arith, append_assoc, take-add, take-take, take_at, take_all, take-append-drop, length-take-le, length-drop}
use Rattle.std.proofs.Math.Seq.{take-append-add}
use Rattle.std.proofs.lemmas.Fmt.{decimal_digit, decimal_step}
use Rattle.std.specs.Fmt.{decimal}

-- a number of one digit
pub digit_written : (after front : List ℕ) (number : ℕ) → number < 10 → after ≡ front ++ (48 + number) ∷ [] → after ≡ front ++ decimal number
digit_written after front number few written = written ∙ ap (λ (digits : List ℕ). front ++ digits) (sym (decimal_digit number few))

-- a number whose last digit comes behind the others
pub last_digit_written : (after between front : List ℕ) (number : ℕ) → 10 ≤ number → number < 2 ^ 64 →
    between ≡ front ++ decimal (number / 10) → after ≡ between ++ (48 + number % 10) ∷ [] → after ≡ front ++ decimal number
last_digit_written after between front number more few first last =
    last
    ∙ ap (λ (xs : List ℕ). xs ++ (48 + number % 10) ∷ []) first
    ∙ append_assoc front (decimal (number / 10)) ((48 + number % 10) ∷ [])
    ∙ ap (λ (digits : List ℕ). front ++ digits) (sym (decimal_step number more few))

-- digits that end at a place
pub digits_written : (before after digits : List ℕ) (at start end : ℕ) → start ≡ at → start + length digits ≡ end → take start after ≡ take start before → drop start after ≡ digits ++ drop end before → take end after ≡ take at before ++ digits
digits_written before after digits at start end starts ends front rest =
    ap (λ (n : ℕ). take n after) (sym ends)
    ∙ take-add start (length digits) after
    ∙ ap (λ (xs : List ℕ). xs ++ take (length digits) (drop start after)) front
    ∙ ap (λ (xs : List ℕ). take start before ++ take (length digits) xs) rest
    ∙ ap (λ (xs : List ℕ). take start before ++ xs) (take_at digits (drop end before) (length digits) refl)
    ∙ ap (λ (n : ℕ). take n before ++ digits) starts

-- the front of what was written at a place
written_front : (before after text : List ℕ) (at most few end : ℕ) → at ≤ length before → few ≤ most → end ≡ at + most → take end after ≡ take at before ++ text →
    take (at + few) after ≡ take at before ++ take few text
written_front before after text at most few end within fewer end_is written =
    let long : length (take at before) ≡ at = length-take-le at before within in
    sym (take-take (at + few) end after (omega arith))
    ∙ ap (take (at + few)) written
    ∙ ap (λ (n : ℕ). take (n + few) (take at before ++ text)) (sym long)
    ∙ take-append-add (take at before) text few

-- the front of a text, where more of it was written
pub front_written : (before after text : List ℕ) (at most few end : ℕ) → at ≤ length before → few ≤ most → end ≡ at + most → take end after ≡ take at before ++ take most text →
    take (at + few) after ≡ take at before ++ take few text
front_written before after text at most few end within fewer end_is written =
    written_front before after (take most text) at most few end within fewer end_is written
    ∙ ap (λ (xs : List ℕ). take at before ++ xs) (take-take few most text (omega arith))

-- the first and the last bytes of a text, so many, laid over each other
pub ends_written : (before between after text : List ℕ) (at half middle end : ℕ) → at ≤ length before → half ≤ length text → length text ≤ half + half → middle ≡ at + half → take middle between ≡ take at before ++ take half text →
    take end after ≡ take (at + (length text - half)) between ++ take half (drop (length text - half) text) → take end after ≡ take at before ++ text
ends_written before between after text at half middle end within fits covers middle_is first second =
    let last : ℕ = length text - half in
    second
    ∙ ap (λ (xs : List ℕ). xs ++ take half (drop last text)) (front_written before between text at half last middle within (omega arith) middle_is first)
    ∙ ap (λ (xs : List ℕ). (take at before ++ take last text) ++ xs) (take_all half (drop last text) (omega (arith, length-drop last text)))
    ∙ append_assoc (take at before) (take last text) (drop last text)
    ∙ ap (λ (xs : List ℕ). take at before ++ xs) (take-append-drop last text)
